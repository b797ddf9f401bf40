-- Places of jobs; what the holder may give back, and what it sees after a raise; what is known at the end of a board.
use Rattle.std.proofs.Common.{◌≡◌, ℕ, suc, ◌+◌, ◌<◌, ◌≤◌, ◌≢◌, ◌⊎◌, ◌||◌, List, [], ◌∷◌, ◌++◌, length, take, sym, refl, ap, ◌∙◌, subst, inl, inr, arith, length-append, Bool, true, false, cond, not, eq-eqb, ne_eqb, lt-ltb}
use Rattle.std.specs.Prelude.{nat_lt}
use mathlib.Core.Logic.{dite}
use mathlib.Core.List.{IsPrefix}
use native.Mathlib.Decide.{ℕ_discrete}
use Rattle.std.proofs.Math.Bool.{or-false, or-true}
use Rattle.std.proofs.lemmas.List.{nil_from_length, take-append-le, length-take}
use Rattle.pipe_model.specs.declared.step.Entry.{Entry}
use Rattle.core_machine.specs.Machine.{without, is_among}
use Rattle.board.specs.Counts.{times, all_shares}
use Rattle.board.specs.Rule.{Kept, made_since, HasMade, MayGive}
use Rattle.board.specs.Plays.{Sees, AreNew, new_places, after_raise}
use Rattle.board.specs.declared.view.View.{View}
use Rattle.board.proofs.Sums.{only, only-same, only-other, times-append, times-cons, times-one, places-le, places_after-none}
use Rattle.board.proofs.Prefixes.{prefix_trans, prefix_whole}
use Rattle.board.proofs.Raises.{new_is, mine_more, places_more, raised_parts}

-- Places

pub empty_of : (l : List ℕ) → ((p : ℕ) → times p l ≡ 0) → l ≡ []
empty_of [] none = refl
empty_of (x ∷ xs) none = let a = none x in let b = times-cons x x xs in let c = only-same x in absurd (omega arith)

-- a place that stands in the list is among it
pub among_of : (p : ℕ) (l : List ℕ) → 0 < times p l → is_among p l ≡ true
among_of p [] h = absurd (omega arith)
among_of p (x ∷ xs) h = dite (ℕ_discrete x p)
    (λ e. ap (λ b. b || is_among p xs) (eq-eqb x p e))
    (λ ne. let none = only-other p x ne in let all = times-cons p x xs in ap (λ b. b || is_among p xs) (ne_eqb x p ne) ∙ among_of p xs (omega arith))

without-other : (q p : ℕ) (l : List ℕ) → q ≢ p → times q (without p l) ≡ times q l
without-other q p [] ne = refl
without-other q p (x ∷ xs) ne = let more = without-other q p xs ne in let all = times-cons q x xs in
    let F : Bool → Type 0 = λ b. times q (cond (not b) (x ∷ without p xs) (without p xs)) ≡ times q (x ∷ xs) in
    dite (ℕ_discrete x p)
    (λ e. let none : only q x ≡ 0 = only-other q x (λ h. ne (sym h ∙ e)) in subst F (sym (eq-eqb x p e)) (omega arith))
    (λ n. let kept = times-cons q x (without p xs) in subst F (sym (ne_eqb x p n)) (omega arith))

without-same : (p : ℕ) (l : List ℕ) → times p (without p l) ≡ 0
without-same p [] = refl
without-same p (x ∷ xs) = let more = without-same p xs in let F : Bool → Type 0 = λ b. times p (cond (not b) (x ∷ without p xs) (without p xs)) ≡ 0 in
    dite (ℕ_discrete x p) (λ e. subst F (sym (eq-eqb x p e)) more) (λ n. let none : only p x ≡ 0 = only-other p x n in let kept = times-cons p x (without p xs) in subst F (sym (ne_eqb x p n)) (omega arith))

-- one place fewer
pub taken_out : (q p : ℕ) (l : List ℕ) → times p l ≡ 1 → times q (p ∷ []) + times q (without p l) ≡ times q l
taken_out q p l one = let itself = times-one q p in dite (ℕ_discrete p q)
    (λ e. let same : only q p ≡ 1 = ap (λ (z : ℕ). only z p) (sym e) ∙ only-same p in let none : times q (without p l) ≡ 0 = ap (λ (z : ℕ). times z (without p l)) (sym e) ∙ without-same p l in
    let all : times q l ≡ 1 = ap (λ (z : ℕ). times z l) (sym e) ∙ one in omega arith)
    (λ ne. let other = only-other q p ne in let rest = without-other q p l (λ e. ne (sym e)) in omega arith)

-- Jobs that are out

module _ (v : View) (h : Kept) (sees : Sees v h) (p : ℕ) (made : 0 < times p v.mine) (away : times p v.home ≡ 0) (kept : times p v.lost ≡ 0) where
  -- the job of a place that the pass made, and that is neither home nor lost, is out
  pub is_out : (times p h.0.out ≡ 1) × (is_among p h.0.out ≡ true)
  is_out = let one = sees.jobs p made in let is : times p h.0.out ≡ 1 = omega arith in (is, among_of p h.0.out (omega arith))

  -- with it there are still no more places than were made
  pub one_more : (q : ℕ) → times q v.home + times q v.lost + only q p ≤ times q v.mine
  one_more q = let old = sees.parts q in dite (ℕ_discrete p q)
      (λ e. let F : ℕ → Type 0 = λ z. times z v.home + times z v.lost + only z p ≤ times z v.mine in let d = only-same p in subst F e (omega arith))
      (λ ne. let other = only-other q p ne in omega arith)

-- A raise

module _ (v : View) (h k : Kept) (home lost : List ℕ) (t : HasMade v h k home lost) where
  -- who raised the length word for the core that is held may give it back
  pub raised_may : MayGive (after_raise home lost v k) k (k.0, k.1 + 1) [] []
  raised_may = record {
    held = refl;
    shares = t.shares;
    turns = refl;
    journal = refl;
    net = (refl, refl);
    jobs = λ p. omega arith;
    parts = λ p. let a = raised_parts v h k home lost t p in omega arith;
    broken = sym (or-false k.0.is_broken);
  }

  -- and so may who made no entry, without a raise
  pub unraised_may : length k.0.journal ≡ length h.0.journal → MayGive v h (k.0, k.1 + 1) home lost
  unraised_may same = let none : made_since h k ≡ [] = places_after-none (length h.0.journal) (length k.0.journal) same in record {
    held = t.held;
    shares = t.shares;
    turns = let a = t.turns in omega arith;
    journal = sym (prefix_whole h.0.journal k.0.journal t.journal (omega arith));
    net = t.net;
    jobs = λ p. let a = t.jobs p in let b = ap (times p) none in omega arith;
    parts = λ p. let a = t.parts p in let b = ap (times p) none in omega arith;
    broken = t.broken;
  }

  module _ (sees : Sees v h) where
    broken_too : 0 < length (v.lost ++ lost) → k.0.is_broken ≡ true
    broken_too some = let all = length-append v.lost lost in dite (ℕ_discrete (length lost) 0)
        (λ none. t.broken ∙ ap (λ (b : Bool). b || nat_lt 0 (length lost)) (sees.lost (omega arith)))
        (λ ne. t.broken ∙ ap (λ (b : Bool). h.0.is_broken || b) (lt-ltb 0 (length lost) (omega arith)) ∙ or-true h.0.is_broken)

    sound_too : (v.lost ≡ [] → h.0.is_broken ≡ false) → v.lost ++ lost ≡ [] → k.0.is_broken ≡ false
    sound_too sound none = let all = length-append v.lost lost in let empty = ap length none in
        t.broken ∙ (λ i. sound (nil_from_length v.lost (omega arith)) i || nat_lt 0 (length (nil_from_length lost (omega arith) i)))

    -- the holder that made entries and raised the length word sees the core as it is now
    pub raised_sees : AreNew v (new_places v k) → Sees (after_raise home lost v k) k
    raised_sees new = record {
      net = λ share. let n = sees.net share in (t.net.0 ∙ n.0, t.net.1 ∙ n.1);
      seen = prefix_trans v.seen h.0.journal k.0.journal sees.seen t.journal;
      lawful = t.lawful;
      jobs = λ p some. let a = times-append p v.home home in let b = t.jobs p in let c = mine_more v h k home lost t p in
          dite (ℕ_discrete (times p (made_since h k)) 0)
          (λ none. let old = sees.jobs p (omega arith) in omega arith)
          (λ ne. let out = sees.out p in let more = places_more v h k home lost t p in let few = places-le p (length k.0.journal) in
          let fresh = new p (subst (λ (l : List ℕ). 0 < times p l) (sym (new_is v h k home lost t)) (omega arith)) in let none = fresh.1 in omega arith);
      mine = λ p. let a = mine_more v h k home lost t p in let b = places_more v h k home lost t p in let c = sees.mine p in omega arith;
      out = λ p. let a = t.jobs p in let b = places_more v h k home lost t p in let c = sees.out p in omega arith;
      parts = raised_parts v h k home lost t;
      turns = let a = t.turns in let b = sees.turns in omega arith;
      lost = broken_too;
      all = λ every. let all = sees.all every in record {
        mine = λ p. let a = mine_more v h k home lost t p in let b = places_more v h k home lost t p in let c = all.mine p in omega arith;
        jobs = λ p. let a = times-append p v.home home in let d = t.jobs p in let b = places_more v h k home lost t p in let c = all.jobs p in omega arith;
        sound = sound_too all.sound;
      };
    }

-- The end of a board

module _ (v : View) (k : Kept) (sees : Sees v k) (every : v.shares ≡ all_shares) where
  -- all that was made is home, so no job is out
  pub ends_home : ((p : ℕ) → times p v.mine ≡ times p v.home) → k.0.out ≡ []
  ends_home home = let all = sees.all every in empty_of k.0.out (λ p. let a = all.mine p in let b = all.jobs p in let c = home p in omega arith)

  -- all that was made is home or lost, so no job is out or the core is broken
  pub ends_settled : ((p : ℕ) → times p v.mine ≡ times p v.home + times p v.lost) → (k.0.out ≡ []) ⊎ (k.0.is_broken ≡ true)
  ends_settled settled = go v.lost refl
    where
      go : (l : List ℕ) → v.lost ≡ l → (k.0.out ≡ []) ⊎ (k.0.is_broken ≡ true)
      go [] is = inl (ends_home (λ p. let a = settled p in let b : times p v.lost ≡ 0 = ap (times p) is in omega arith))
      go (x ∷ xs) is = inr (sees.lost (let a : length v.lost ≡ suc (length xs) = ap length is in omega arith))

-- the first entries of what was seen are those of the journal
pub take_same : (seen journal : List Entry) (n : ℕ) → IsPrefix seen journal → n ≡ length (take n seen) → take n seen ≡ take n journal
take_same seen journal n p e = let near : n ≤ length seen = let l = length-take n seen in omega arith in sym (take-append-le n seen p.0 near) ∙ ap (take n) p.1
