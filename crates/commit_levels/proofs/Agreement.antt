-- A unit whose members are strands answers as a licence says.
use Rattle.std.proofs.Common.{rules, ◌≡◌, ◌≢◌, ◌⊎◌, inl, inr, ℕ, zero, suc, ◌<◌, Bool, true, false, cond, ◌&&◌, ◌||◌, List, [], ◌∷◌, ◌++◌, length, slice_get, refl, sym, ◌∙◌, ap, subst, arith, lit<, ℤ, pos, negsuc, Option, Some, None}
use Rattle.std.specs.List.{list_all}
use Rattle.std.proofs.lemmas.Bool.Decides.{Decides-int_eq}
use Rattle.std.proofs.lemmas.Grind.{common_steps}
use Rattle.std.proofs.lemmas.List.{length-set}
use Rattle.pipe_model.specs.declared.net.Net.{Net}
use Rattle.pipe_model.specs.Code.{worst_of}
use Rattle.pipe_model.specs.Event.{Event, Want, has_ended}
use Rattle.pipe_model.specs.Event.Event.{Up, Saw, SawEnd, SawAllEnd, Took, Put, Refused, Primed, Opened, Joined, Severed, Ended}
use Rattle.pipe_model.specs.Event.Want.{Commit}
use Rattle.pipe_model.specs.Event as event
use Rattle.pipe_model.specs.Licence.{Left, want_at, commits_to, level_of}
use Rattle.pipe_model.specs.Licence as licence
use Rattle.pipe_model.specs.State.{Who, State, past, members, below}
use Rattle.commit_levels.specs.declared.member.Progress.{Progress}
use Rattle.commit_levels.specs.declared.member.Progress.TheVariants.{NotAsked, Asked, Reached}
use Rattle.commit_levels.specs.UnitState.{Member, IsLevel, level_count, place_of, progress_at, has_asked, has_reached, stands_at, early_code, worst_early, answer, moved, ended_with}
use Rattle.commit_levels.specs.Licensed.{progress_of, IsStrand, AreStrands, WantsNoLevel}
use Rattle.commit_levels.proofs.Calls.{progress_here, progress_there}
use Rattle.commit_levels.proofs.Tallies.{worst_swap}

-- The answer

no_code : (h : List Event) → has_ended h ≡ false → event.code_of h ≡ pos 0
no_code [] e = refl
no_code (Up l c ∷ h) e = no_code h e
no_code (Saw i r ∷ h) e = no_code h e
no_code (SawEnd i ∷ h) e = no_code h e
no_code (SawAllEnd ∷ h) e = no_code h e
no_code (Took i ∷ h) e = no_code h e
no_code (Put o r ∷ h) e = no_code h e
no_code (Refused o ∷ h) e = no_code h e
no_code (Primed b ∷ h) e = no_code h e
no_code (Opened k ∷ h) e = no_code h e
no_code (Joined k c ∷ h) e = no_code h e
no_code (Severed s ∷ h) e = no_code h e
no_code (Ended c ∷ h) e = cc

asked_where : (reached commits : Bool) → has_asked (cond reached Reached (cond commits Asked NotAsked)) ≡ (reached || commits)
asked_where true c = refl
asked_where false true = refl
asked_where false false = refl

reached_where : (reached commits : Bool) → has_reached (cond reached Reached (cond commits Asked NotAsked)) ≡ reached
reached_where true c = refl
reached_where false true = refl
reached_where false false = refl

module _ (level : ℤ) (is : IsLevel level) where
  stands_as : (h : List Event) (want : Option Want) (m : Member) → IsStrand h want m →
      stands_at (place_of level) m ≡ (has_ended h || (event.has_reached level h || commits_to level want))
  stands_as h want m s =
      let asked : has_asked (progress_at (place_of level) m) ≡ (event.has_reached level h || commits_to level want) =
      ap has_asked (s.progress level is) ∙ asked_where (event.has_reached level h) (commits_to level want) in
      grind (arith, common_steps, s.ended, asked)

  early_as : (h : List Event) (want : Option Want) (m : Member) → IsStrand h want m → early_code (place_of level) m ≡ licence.early_code level h
  early_as h want m s =
      let reached : has_reached (progress_at (place_of level) m) ≡ event.has_reached level h =
      ap has_reached (s.progress level is) ∙ reached_where (event.has_reached level h) (commits_to level want) in
      grind (arith, common_steps, s.ended, reached, no_code h)

-- Members from the last on

get_front : (xs : List Member) (x : Member) (k : ℕ) (m : Member) → slice_get xs k ≡ Some m → slice_get (xs ++ x ∷ []) k ≡ Some m
get_front [] x k m at = cc
get_front (y ∷ ys) x zero m at = at
get_front (y ∷ ys) x (suc k) m at = get_front ys x k m at

get_last : (xs : List Member) (x : Member) → slice_get (xs ++ x ∷ []) (length xs) ≡ Some x
get_last [] x = refl
get_last (y ∷ ys) x = get_last ys x

-- a list with something in it ends with something
last_of : (ms : List Member) (n : ℕ) → length ms ≡ suc n → (front : List Member) × (m : Member) × (ms ≡ front ++ m ∷ []) × (length front ≡ n)
last_of [] n count = absurd (omega (arith, count))
last_of (m ∷ []) n count = ([], m, refl, omega (arith, count))
last_of (m ∷ x ∷ ms) zero count = absurd (omega (arith, count))
last_of (m ∷ x ∷ ms) (suc n) count =
    let l = last_of (x ∷ ms) n (omega (arith, count)) in
    (m ∷ l.0, l.1, ap (λ ys. m ∷ ys) l.2, ap suc l.3)

all_last : (p : Member → Bool) (xs : List Member) (x : Member) → list_all p (xs ++ x ∷ []) ≡ (p x && list_all p xs)
all_last p [] x = refl
all_last p (y ∷ ys) x = ap (λ b. p y && b) (all_last p ys x) ∙ turn (p y) (p x) (list_all p ys)
  where
    turn : (a b c : Bool) → (a && (b && c)) ≡ (b && (a && c))
    turn true true c = refl
    turn true false c = refl
    turn false true c = refl
    turn false false c = refl

worst_last : (place : ℕ) (xs : List Member) (x : Member) → worst_early place (xs ++ x ∷ []) ≡ worst_of (early_code place x) (worst_early place xs)
worst_last place [] x = refl
worst_last place (y ∷ ys) x = ap (worst_of (early_code place y)) (worst_last place ys x) ∙ worst_swap (early_code place y) (early_code place x) (worst_early place ys)

module _ (level : ℤ) (is : IsLevel level) (net : Net) (st : State) (left : Left) where
  all_by : (n : ℕ) (ms : List Member) → length ms ≡ n → ((k : ℕ) (m : Member) → slice_get ms k ≡ Some m → IsStrand (past st k) (want_at net st left k) m) →
      (list_all (stands_at (place_of level)) ms ≡ list_all (licence.stands_at net st left level) (below n)) × (worst_early (place_of level) ms ≡ licence.worst_early st level (below n))
  all_by zero [] count each = (refl, refl)
  all_by zero (m ∷ ms) count each = absurd (omega (arith, count))
  all_by (suc n) ms count each =
      let l = last_of ms n count in
      let front = l.0 in
      let m = l.1 in
      let at : slice_get ms n ≡ Some m = ap (λ xs. slice_get xs n) l.2 ∙ ap (slice_get (front ++ m ∷ [])) (sym l.3) ∙ get_last front m in
      let before = all_by n front l.3 (λ k x found. each k x (ap (λ xs. slice_get xs k) l.2 ∙ get_front front m k x found)) in
      let here = each n m at in (
        ap (list_all (stands_at (place_of level))) l.2 ∙ all_last (stands_at (place_of level)) front m
            ∙ ap (λ b. b && list_all (stands_at (place_of level)) front) (stands_as level is (past st n) (want_at net st left n) m here)
            ∙ ap (λ b. licence.stands_at net st left level n && b) before.0,
        ap (worst_early (place_of level)) l.2 ∙ worst_last (place_of level) front m
            ∙ ap (λ code. worst_of code (worst_early (place_of level) front)) (early_as level is (past st n) (want_at net st left n) m here)
            ∙ ap (worst_of (licence.early_code level (past st n))) before.1,
      )

-- a unit whose members are the strands of a net answers as the licence of each strand does
pub answers_as : (net : Net) (st : State) (left : Left) (s : Who) (unit : List Member) (level : ℤ) → IsLevel level → AreStrands net st left unit → answer unit level ≡ level_of net st left s level
answers_as net st left s unit level is are =
    let by = all_by level is net st left (length net.strands) unit are.count are.each in
    ap (λ all. cond all (Some (worst_early (place_of level) unit)) None) by.0
    ∙ ap (λ code. cond (list_all (licence.stands_at net st left level) (members net st s)) (Some code) None) by.1

-- Calls

one_place : (a b : ℤ) → IsLevel a → IsLevel b → place_of a ≡ place_of b → a ≡ b
one_place (pos a) (pos b) p q e = ap pos (omega (arith, e))
one_place (pos a) (negsuc b) p q e = absurd (omega (arith, e))
one_place (negsuc a) (pos b) p q e = absurd (omega (arith, e))
one_place (negsuc a) (negsuc b) p q e = grind (arith, common_steps)

int_same_or_not : (a b : ℤ) → (a ≡ b) ⊎ (a ≢ b)
int_same_or_not a b = search rules

place_within : (level : ℤ) → IsLevel level → place_of level < level_count
unfolding level_count
place_within (pos n) is = grind (arith, common_steps)
place_within (negsuc n) is = lit< tt

module _ (h : List Event) (m : Member) (level : ℤ) (is : IsLevel level) where
  -- the level is another one or not
  at_each : (progress : Progress) (after : List Event) (want then : Option Want) → IsStrand h want m → progress_of after then level ≡ progress →
      ((other : ℤ) → other ≢ level → progress_of after then other ≡ progress_of h want other) →
      (other : ℤ) → IsLevel other → progress_at (place_of other) (moved (place_of level) progress m) ≡ progress_of after then other
  at_each progress after want then s here there other other_is = by (int_same_or_not other level)
    where
      by : (other ≡ level) ⊎ (other ≢ level) → progress_at (place_of other) (moved (place_of level) progress m) ≡ progress_of after then other
      by (inl e) =
          let P : ℤ → Type 0 = λ l. progress_at (place_of l) (moved (place_of level) progress m) ≡ progress_of after then l in
          let long : place_of level < length m.progress = rw s.count (place_within level is) in
          subst P (sym e) (progress_here (place_of level) progress m long ∙ sym here)
      by (inr apart) =
          progress_there (place_of level) (place_of other) progress m (λ e. apart (one_place other level other_is is e))
          ∙ s.progress other other_is ∙ sym (there other apart)

  pub asks_as : (want : Option Want) → WantsNoLevel want → event.has_reached level h ≡ false → IsStrand h want m →
      IsStrand h (Some (Commit level)) (moved (place_of level) Asked m)
  asks_as want no_commit not_reached s = record {
    count = length-set m.progress (place_of level) Asked ∙ s.count;
    progress = at_each Asked h want (Some (Commit level)) s (grind (arith, common_steps, not_reached, Decides-int_eq level level))
        (λ other apart. grind (arith, common_steps, no_commit other, Decides-int_eq level other, apart));
    ended = s.ended;
  }

  pub reaches_as : (code : ℤ) (then : Option Want) → WantsNoLevel then → IsStrand h (Some (Commit level)) m →
      IsStrand (Up level code ∷ h) then (moved (place_of level) Reached m)
  reaches_as code then no_commit s = record {
    count = length-set m.progress (place_of level) Reached ∙ s.count;
    progress = at_each Reached (Up level code ∷ h) (Some (Commit level)) then s (grind (arith, common_steps, Decides-int_eq level level))
        (λ other apart. grind (arith, common_steps, no_commit other, Decides-int_eq level other, apart));
    ended = s.ended;
  }

pub ends_as : (h : List Event) (m : Member) (code : ℤ) (want then : Option Want) → WantsNoLevel want → WantsNoLevel then → IsStrand h want m →
    IsStrand (Ended code ∷ h) then (ended_with code m)
ends_as h m code want then no_commit none_then s = record {
  count = s.count;
  progress = λ level is. s.progress level is ∙ ap (λ b. cond (event.has_reached level h) Reached (cond b Asked NotAsked)) (no_commit level ∙ sym (none_then level));
  ended = refl;
}
