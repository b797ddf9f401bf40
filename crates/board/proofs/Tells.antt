-- What each call leaves of a pass, and how a board ends.
use Rattle.std.proofs.Common.{◌≡◌, ℕ, Bool, ◌+◌, ◌-◌, ◌<◌, ◌≤◌, ◌⊎◌, List, [], ◌∷◌, sym, refl, ap, ◌∙◌, subst, arith, ⊎_elim, None}
use Rattle.core_machine.specs.Machine.{Machine}
use Rattle.board.specs.Rule.{Kept}
use Rattle.board.specs.Plays.{Sat, Sees, kept_part, both}
use Rattle.board.specs.Pass.{HasParts, the_view, IsPass}
use Rattle.board.specs.Holding.{IsAtRest, HasAnswered}
use Rattle.board.specs.Calls.{GoesOn, IsBusy, less_one_try, Held, Ends}
use Rattle.board.specs.declared.view.View.{View}
use Rattle.board.specs.declared.change.Change.{Change}
use Rattle.board.proofs.Prefixes.{prefix_self}
use Rattle.board.proofs.Sums.{times-append}
use Rattle.board.proofs.Gives.{ends_home, ends_settled}

-- cases of a sum that is known
pub either_of : {A B C : Type 0} → A ⊎ B → (A → C) → (B → C) → C
either_of s f g = ⊎_elim f g s

-- what is known after every answer
pub record Left (v w : View) : Type 0 where
  pub goes : GoesOn v w
  pub parts : HasParts w

held_left : (v w : View) (m : Machine) → 0 < v.tries → Held (less_one_try v) m w → Left v w
held_left v w m some h = record {
  goes = record { net = h.net; shares = h.shares; tries = let a = h.tries in omega arith; seen = h.seen };
  parts = h.parts;
}

busy_left : (v w : View) → 0 < v.tries → HasParts v → IsBusy v w → Left v w
busy_left v w some parts b = subst (Left v) (sym b.0) (record { goes = record { net = (refl, refl); shares = refl; tries = omega arith; seen = prefix_self v.seen }; parts = parts })

-- what the one who took the core for good knows of it
pub ends_so : (v : View) (k : Kept) → 0 < v.shares → Sees v k → Ends v k.0
ends_so v k share s = record {
  net = s.net share;
  lawful = s.lawful;
  seen = s.seen;
  mine = s.mine;
  all = λ all. (s.all all).mine;
  home = ends_home v k s;
  settled = ends_settled v k s;
  sound = λ all. (s.all all).sound;
  broken = s.lost;
}

-- Between the seat and the pass

-- the seat of a pass with a try left
pub pass_rests : (views : List View) (shares tries : ℕ) (m : Sat) → IsPass views shares tries → 0 < (the_view views).tries → m ≡ (the_view views, []) → IsAtRest m
pass_rests views shares tries m known some e = subst IsAtRest (sym e) (record { free = refl; held = known.1; shares = let a = known.2 in let b = known.4 in omega arith; tries = some; parts = known.5 })

pub view_is : (views : List View) (w : View) → views ≡ w ∷ [] → the_view views ≡ w
view_is views w e = ap the_view e

-- the pass after a call
module _ {A O : Type 0} (may_fail : Bool) (did : Machine → A → Machine → O → Change → Type 0) (left a : A) (before o : O) (views news : List View) (shares tries : ℕ) (m n : Sat) (known : IsPass views shares tries) (some : 0 < (the_view views).tries) (sits : m ≡ (the_view views, [])) (held : n.0.held ≡ None) (e : news ≡ n.0 ∷ []) (told : HasAnswered may_fail did left before m.0 a n.0 o) where
  answered : HasAnswered may_fail did left before (the_view views) a n.0 o
  answered = subst (λ (x : Sat). HasAnswered may_fail did left before x.0 a n.0 o) sits told

  left_so : Left (the_view views) n.0
  left_so = either_of answered (λ d. held_left (the_view views) n.0 d.found some d.held.held) (λ b. busy_left (the_view views) n.0 some known.5 b.1)

  is_now : n.0 ≡ the_view news
  is_now = sym (view_is news n.0 e)

  pub pass_after : IsPass news shares (tries - 1)
  pass_after = subst (λ (x : List View). IsPass x shares (tries - 1)) (sym e)
      (refl, held, (left_so.goes.shares ∙ known.2), (let one = left_so.goes.tries in let b = known.3 in omega arith), known.4, left_so.parts)

  pub pass_goes : GoesOn (the_view views) (the_view news)
  pass_goes = subst (GoesOn (the_view views)) is_now left_so.goes

  pub pass_told : HasAnswered may_fail did left before (the_view views) a (the_view news) o
  pass_told = subst (λ (x : View). HasAnswered may_fail did left before (the_view views) a x o) is_now answered

-- the seat of a pass, once it was taken out of it
pub seated : (views : List View) (m : Sat) → views ≡ m.0 ∷ [] → m.1 ≡ [] → m ≡ (the_view views, [])
seated views m e free = λ i. (sym (view_is views m.0 e) i, free i)

pub split_after : (views news : List View) (shares tries n : ℕ) (w : View) → IsPass views shares tries → 2 ≤ (the_view views).shares → w ≡ kept_part n (the_view views) → news ≡ w ∷ [] → IsPass news (shares - 1) (tries - n)
split_after views news shares tries n w known some is e =
    let v : View = the_view views in
    subst (λ (x : List View). IsPass x (shares - 1) (tries - n)) (sym (e ∙ ap (λ (x : View). x ∷ []) is))
    (refl, known.1, (let a = known.2 in omega arith), (let a = known.3 in omega arith), (let a = known.2 in omega arith), known.5)

-- parts of two views are parts of both
both_parts : (v w : View) → HasParts v → HasParts w → HasParts (both v w)
both_parts v w a b p = let x = a p in let y = b p in let home = times-append p v.home w.home in let lost = times-append p v.lost w.lost in let mine = times-append p v.mine w.mine in omega arith

pub meet_after : (a b news : List View) (shares tries more_shares more_tries : ℕ) (w : View) → IsPass a shares tries → IsPass b more_shares more_tries → w ≡ both (the_view a) (the_view b) → news ≡ w ∷ [] → IsPass news (shares + more_shares) (tries + more_tries)
meet_after a b news shares tries more_shares more_tries w known other is e =
    subst (λ (x : List View). IsPass x (shares + more_shares) (tries + more_tries)) (sym (e ∙ ap (λ (x : View). x ∷ []) is))
    (refl, refl, (let x = known.2 in let y = other.2 in omega arith), (let x = known.3 in let y = other.3 in omega arith), (let x = known.4 in omega arith), both_parts (the_view a) (the_view b) known.5 other.5)
