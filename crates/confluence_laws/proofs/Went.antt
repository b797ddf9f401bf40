-- How far a strand went through the commit levels, by its history.
use Rattle.std.proofs.Common.{◌≡◌, ◌≢◌, ◌⊎◌, inl, inr, zero, suc, Bool, true, false, cond, ◌&&◌, ◌||◌, List, [], ◌∷◌, refl, sym, ◌∙◌, ap, subst, Option, Some, None, ℤ, pos, negsuc}
use Rattle.std.specs.Prelude.{filter}
use Rattle.std.specs.Ordering.{int_eq}
use Rattle.std.proofs.lemmas.Bool.Decides.{Decides-int_eq}
use Rattle.pipe_model.specs.declared.net.Strand.{Strand}
use Rattle.pipe_model.specs.Event.{Event, answers, has_ended, has_reached, has_up, moves}
use Rattle.pipe_model.specs.Event.Event.{Up, Saw, Took, Put, Refused, Ended}
use Rattle.pipe_model.specs.Event.Want.{Commit, Done}
use Rattle.pipe_model.specs.Row.{Act, Goal, Row}
use Rattle.pipe_model.specs.Row.Act.{Writes, Repeats, Takes}
use Rattle.pipe_model.specs.Row.Goal.{Asks, Ends}
use Rattle.pipe_model.specs.Table.{form}
use Rattle.pipe_model.specs.Next.{Phase, Past, want_in, next, hears, first_phase, is_live, is_refused, begins_plan, doing, IsOwn, refused_after, gives_up}
use Rattle.pipe_model.proofs.Pasts.{after, when_asked}
use Rattle.pipe_model.proofs.Truths.{or_second}
use Rattle.pipe_model.specs.Next.Phase.{Starting, Doing, Lost}
use Rattle.confluence_laws.proofs.Fitting.{past_of, still_wants, stands_for}
use Rattle.confluence_laws.proofs.Later.{reach_stays}
use Rattle.confluence_laws.proofs.Basics.{done_asked}

-- How far a strand went

-- it went on past level 0
abbrev pub Went : List Event → Type 0
Went h = (has_up (pos 0) (pos 0) h ≡ true) × (has_up (negsuc 0) (pos 0) h ≡ true)

-- it stopped before level 0 only by another's code
abbrev pub Stopped : List Event → Type 0
Stopped h = (has_reached (pos 0) h ≡ true) ⊎ ((code : ℤ) × (code ≢ pos 0) × (has_up (negsuc 0) code h ≡ true))

-- how far it went, by where it stands
abbrev pub UpTo : Phase → List Event → Type 0
UpTo (Starting (negsuc zero)) h = Unit {0}
UpTo (Starting (pos zero)) h = has_up (negsuc 0) (pos 0) h ≡ true
UpTo (Starting _) h = ⊥
UpTo (Doing [] (Ends code)) h = Stopped h
UpTo (Doing [] (Asks want)) h = Went h
UpTo (Doing (act ∷ acts) goal) h = Went h
UpTo Lost h = Stopped h

-- a number passes the test with itself
int_refl : (c : ℤ) → int_eq c c ≡ true
int_refl c = (Decides-int_eq c c).1 refl

-- a level that was reached with a code stays so
up_on : (l c : ℤ) (e : Event) (h : List Event) → has_up l c h ≡ true → has_up l c (e ∷ h) ≡ true
up_on l c (Up l' c') h p = or_second (int_eq l' l && int_eq c' c) (has_up l c h) p
up_on l c _ h p = p

-- a level is reached by its event
up_here : (l c : ℤ) (h : List Event) → has_up l c (Up l c ∷ h) ≡ true
up_here l c h = ap (λ b. (b && int_eq c c) || has_up l c h) (int_refl l) ∙ ap (λ b. b || has_up l c h) (int_refl c)

-- what was reached was reached with some code
pub with_code : (l : ℤ) (h : List Event) → has_reached l h ≡ true → (c : ℤ) × (has_up l c h ≡ true)
with_code l [] p = cc
with_code l (Up m c ∷ h) p = (elim (int_eq m l) as (λ b. int_eq m l ≡ b → (b || has_reached l h) ≡ true → (d : ℤ) × (has_up l d (Up m c ∷ h) ≡ true)) [
  | true ↦ λ e q. (c, subst (λ z. has_up z c (Up m c ∷ h) ≡ true) ((Decides-int_eq m l).0 e) (up_here m c h))
  | false ↦ λ e q. let r = with_code l h q in (r.0, up_on l r.0 (Up m c) h r.1)
]) refl p
with_code l (Saw i rec ∷ h) p = with_code l h p
with_code l (_ ∷ h) p = with_code l h p

-- what was reached with a code was reached
pub reached_up : (l c : ℤ) (h : List Event) → has_up l c h ≡ true → has_reached l h ≡ true
reached_up l c [] p = cc
reached_up l c (Up m d ∷ h) p = (elim (int_eq m l) as (λ b. ((b && int_eq d c) || has_up l c h) ≡ true → (b || has_reached l h) ≡ true) [
  | true ↦ λ q. refl
  | false ↦ λ q. reached_up l c h q
]) p
reached_up l c (_ ∷ h) p = reached_up l c h p

-- whoever went on has gone on after one event more
went_on : (e : Event) (h : List Event) → Went h → Went (e ∷ h)
went_on e h w = (up_on (pos 0) (pos 0) e h w.0, up_on (negsuc 0) (pos 0) e h w.1)

-- and whoever stopped has stopped
stopped_on : (e : Event) (h : List Event) → Stopped h → Stopped (e ∷ h)
stopped_on e h (inl p) = inl (reach_stays (pos 0) e h p)
stopped_on e h (inr p) = inr (p.0, p.1, up_on (negsuc 0) p.0 e h p.2)

-- whoever went on may stop
stops : (h : List Event) → Went h → Stopped h
stops h w = inl (reached_up (pos 0) (pos 0) h w.0)

-- whoever went on may do anything
went_doing : (acts : List Act) (goal : Goal) (h : List Event) → Went h → UpTo (Doing acts goal) h
went_doing [] (Ends code) h went = stops h went
went_doing [] (Asks want) h went = went
went_doing (act ∷ acts) goal h went = went

module _ (w : Row) (outputs : List Bool) where
  -- an event leaves the strand as far as its phase says
  up_step : (p : Past) (f : Phase) (h : List Event) (e : Event) → p.phase ≡ f → answers (want_in f) e ≡ true → UpTo f h → UpTo (after w outputs p f e).phase (e ∷ h)
  up_step p (Starting (negsuc zero)) h (Up l c) at it is =
      (elim (int_eq c (pos 0)) as (λ b. int_eq c (pos 0) ≡ b → UpTo (cond b (Starting (pos 0)) (Doing [] (Ends (pos 0)))) (Up l c ∷ h)) [
        | true ↦ λ e. subst (λ z. has_up z (pos 0) (Up l c ∷ h) ≡ true) ((Decides-int_eq l (negsuc 0)).0 it) (subst (λ z. has_up l z (Up l c ∷ h) ≡ true) ((Decides-int_eq c (pos 0)).0 e) (up_here l c h))
        | false ↦ λ e. inr (c, (λ z. let t : int_eq c (pos 0) ≡ true = (Decides-int_eq c (pos 0)).1 z in cc), subst (λ z. has_up z c (Up l c ∷ h) ≡ true) ((Decides-int_eq l (negsuc 0)).0 it) (up_here l c h))
      ]) refl
  up_step p (Starting (negsuc zero)) h _ at it is = cc
  up_step p (Starting (pos zero)) h (Up l c) at it is = by_code (int_eq c (pos 0)) refl
    where
      by_code : (b : Bool) → int_eq c (pos 0) ≡ b → UpTo (cond b (begins_plan outputs p.refused (w.plan p.known)) (Doing [] (Ends (pos 0)))) (Up l c ∷ h)
      by_code true e = went_doing (filter (is_live outputs p.refused) (w.plan p.known).acts) (w.plan p.known).goal (Up l c ∷ h)
          (subst (λ z. has_up z (pos 0) (Up l c ∷ h) ≡ true) ((Decides-int_eq l (pos 0)).0 it) (subst (λ z. has_up l z (Up l c ∷ h) ≡ true) ((Decides-int_eq c (pos 0)).0 e) (up_here l c h)), up_on (negsuc 0) (pos 0) (Up l c) h is)
      by_code false e = inl (ap (λ b. b || has_reached (pos 0) h) it)
  up_step p (Starting (pos zero)) h _ at it is = cc
  up_step p (Starting (negsuc (suc n))) h e at it is = absurd is
  up_step p (Starting (pos (suc n))) h e at it is = absurd is
  up_step p (Doing [] (Asks want)) h e at it is =
      let now = hears p.known e in
      let refused = refused_after p.refused e in
      subst (λ b. UpTo (when_asked w outputs p e b).phase (e ∷ h)) (sym it)
      (elim (gives_up w outputs refused e) as (λ b. UpTo (cond b (Doing [] (Ends (pos 0))) (begins_plan outputs refused (w.plan now))) (e ∷ h)) [
        | true ↦ stops (e ∷ h) (went_on e h is)
        | false ↦ went_doing (filter (is_live outputs refused) (w.plan now).acts) (w.plan now).goal (e ∷ h) (went_on e h is)
      ])
  up_step p (Doing [] (Ends code)) h e at it is = stopped_on e h is
  up_step p (Doing (Writes o rec ∷ acts) goal) h (Put o' rec') at it is = went_doing acts goal (Put o' rec' ∷ h) (went_on (Put o' rec') h is)
  up_step p (Doing (Writes o rec ∷ acts) goal) h (Refused o') at it is = by_end (w.yields && is_refused outputs (o' ∷ p.refused))
    where
      by_end : (b : Bool) → UpTo (cond b (Doing [] (Ends (pos 0))) (doing outputs (o' ∷ p.refused) acts goal)) (Refused o' ∷ h)
      by_end true = stops (Refused o' ∷ h) (went_on (Refused o') h is)
      by_end false = went_doing (filter (is_live outputs (o' ∷ p.refused)) acts) goal (Refused o' ∷ h) (went_on (Refused o') h is)
  up_step p (Doing (Writes o rec ∷ acts) goal) h _ at it is = cc
  up_step p (Doing (Repeats o rec ∷ acts) goal) h (Put o' rec') at it is = went_on (Put o' rec') h is
  up_step p (Doing (Repeats o rec ∷ acts) goal) h (Refused o') at it is = by_end (w.yields && is_refused outputs (o' ∷ p.refused))
    where
      by_end : (b : Bool) → UpTo (cond b (Doing [] (Ends (pos 0))) (doing outputs (o' ∷ p.refused) acts goal)) (Refused o' ∷ h)
      by_end true = stops (Refused o' ∷ h) (went_on (Refused o') h is)
      by_end false = went_doing (filter (is_live outputs (o' ∷ p.refused)) acts) goal (Refused o' ∷ h) (went_on (Refused o') h is)
  up_step p (Doing (Repeats o rec ∷ acts) goal) h _ at it is = cc
  up_step p (Doing (Takes i ∷ acts) goal) h (Took j) at it is = went_doing acts goal (Took j ∷ h) (went_on (Took j) h is)
  up_step p (Doing (Takes i ∷ acts) goal) h _ at it is = cc
  up_step p Lost h e at it is = cc

-- no record moves by a commit
commit_moves : (l : ℤ) (e : Event) → answers (Some (Commit l)) e ≡ true → moves e ≡ true → ⊥
commit_moves l (Up m c) it move = cc
commit_moves l _ it move = cc

-- nor by an end
done_moves : (c : ℤ) (e : Event) → answers (Some (Done c)) e ≡ true → moves e ≡ true → ⊥
done_moves c (Ended d) it move = cc
done_moves c _ it move = cc

-- after its end a strand has no event
nothing_more : (s : Strand) (e : Event) (h : List Event) → answers (next s h) e ≡ true → has_ended h ≡ true → ⊥
nothing_more s e h it ended = (let q : answers (next s h) e ≡ false = ap (λ b. answers (cond b None (want_in (past_of s h).phase)) e) ended in (let z : true ≡ false = sym it ∙ q in cc))

-- A strand that doesn't end before its first commit

module _ (s : Strand) (late : (form s).row.early ≡ None) where
  -- wherever the strand stands, it went as far as that says
  pub up_to : (h : List Event) → IsOwn s h → UpTo (past_of s h).phase h
  up_to [] own = subst (λ m. UpTo (first_phase m) []) (sym late) tt
  up_to (e ∷ h) own =
      let p = past_of s h in
      up_step (form s).row s.ports.has_output p p.phase h e refl (still_wants s h e own.0) (up_to h own.1)

  -- who moves a record went on past level 0
  pub mover_went : (h : List Event) (e : Event) → IsOwn s h → answers (next s h) e ≡ true → moves e ≡ true → Went h
  mover_went h e own it move = by_phase (past_of s h).phase (up_to h own) (still_wants s h e it)
    where
      by_phase : (f : Phase) → UpTo f h → answers (want_in f) e ≡ true → Went h
      by_phase (Starting l) is it = absurd (commit_moves l e it move)
      by_phase (Doing [] (Asks want)) is it = is
      by_phase (Doing [] (Ends code)) is it = absurd (done_moves code e it move)
      by_phase (Doing (act ∷ acts) goal) is it = is
      by_phase Lost is it = cc

  -- who has ended was stopped, or went on
  pub ended_stopped : (h : List Event) → IsOwn s h → has_ended h ≡ true → Stopped h
  ended_stopped [] own ended = cc
  ended_stopped (Ended code ∷ h) own ended =
      let at : (past_of s h).phase ≡ Doing [] (Ends code) = stands_for s h own.1 (Done code) (done_asked (next s h) code own.0) in
      stopped_on (Ended code) h (subst (λ f. UpTo f h) at (up_to h own.1))
  ended_stopped (Up l c ∷ h) own ended = absurd (nothing_more s (Up l c) h own.0 ended)
  ended_stopped (e ∷ h) own ended = absurd (nothing_more s e h own.0 ended)

  -- who wants level 0 has reached the level before
  pub wants_zero : (h : List Event) → IsOwn s h → next s h ≡ Some (Commit (pos 0)) → has_up (negsuc 0) (pos 0) h ≡ true
  wants_zero h own want = subst (λ f. UpTo f h) (stands_for s h own (Commit (pos 0)) want).0 (up_to h own)

-- A strand that ends before its first commit

-- it has no event but its end
pub early_history : (s : Strand) (code : ℤ) → (form s).row.early ≡ Some code → (h : List Event) → IsOwn s h → (h ≡ []) ⊎ (h ≡ Ended code ∷ [])
early_history s code early [] own = inl refl
early_history s code early (e ∷ h) own = by_rest (early_history s code early h own.1)
  where
    by_rest : (h ≡ []) ⊎ (h ≡ Ended code ∷ []) → (e ∷ h ≡ []) ⊎ (e ∷ h ≡ Ended code ∷ [])
    by_rest (inl none) =
        let first : next s h ≡ Some (Done code) = ap (next s) none ∙ ap (λ m. want_in (first_phase m)) early in
        let it : answers (Some (Done code)) e ≡ true = subst (λ z. answers z e ≡ true) first own.0 in
        inr (ap (λ z. z ∷ h) (end_is e it) ∙ ap (λ z. Ended code ∷ z) none)
      where
        end_is : (e : Event) → answers (Some (Done code)) e ≡ true → e ≡ Ended code
        end_is (Ended c) it = ap Ended ((Decides-int_eq c code).0 it)
        end_is _ it = cc
    by_rest (inr over) = absurd (nothing_more s e h own.0 (ap has_ended over))

-- whoever moves a record doesn't end before its first commit
pub mover_late : (s : Strand) (h : List Event) (e : Event) → IsOwn s h → answers (next s h) e ≡ true → moves e ≡ true → (form s).row.early ≡ None
mover_late s h e own it move = by_early (form s).row.early refl
  where
    by_early : (m : Option ℤ) → (form s).row.early ≡ m → (form s).row.early ≡ None
    by_early None is = is
    by_early (Some code) is = absurd (by_history (early_history s code is h own))
      where
        by_history : (h ≡ []) ⊎ (h ≡ Ended code ∷ []) → ⊥
        by_history (inl none) =
            let first : next s h ≡ Some (Done code) = ap (next s) none ∙ ap (λ m. want_in (first_phase m)) is in
            done_moves code e (subst (λ z. answers z e ≡ true) first it) move
        by_history (inr over) = nothing_more s e h it (ap has_ended over)
