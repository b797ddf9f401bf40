-- What changes in a step of one view, and that the rule is kept where it changes so; what a view tells of the core.
use Rattle.std.proofs.Common.{◌≡◌, ℕ, ◌+◌, ◌<◌, ◌≤◌, ◌≢◌, ◌⊎◌, cond, List, length, get_or, set, sym, ap, ◌∙◌, subst, ⊎_elim, arith, lt-ltb, Some, None}
use mathlib.Core.List.{IsPrefix}
use mathlib.Core.Option.{none, some, some-injective, some-ne-none}
use lib.ListN.{get_elem?}
use lib.Seq.{set-get_or}
use Rattle.atomic_table.specs.Table.{State}
use Rattle.atomic_table.proofs.Lists.{at_set, set_here, set_again}
use Rattle.pipe_model.specs.declared.net.Net.{Net}
use Rattle.pipe_model.specs.declared.step.Entry.{Entry}
use Rattle.pipe_model.specs.Play.{IsLegal}
use Rattle.core_machine.specs.Machine.{Machine, IsLawful}
use Rattle.std.specs.Prelude.{is_some, nat_lt, sum_by}
use Rattle.board.specs.Counts.{times, places, signum, all_shares}
use Rattle.board.specs.Rule.{Kept, Slot, machine_of, is_holder, IsIdle, Fits, IsOrdered}
use Rattle.board.specs.Plays.{SeesAll, Sees}
use Rattle.board.specs.declared.view.View.{View}
use Rattle.board.proofs.Sums.{sum-set, term_le, terms_le, sum-le, sum-alone, places-le, signum-zero, signum-le, inside}
use Rattle.board.proofs.Prefixes.{prefix_trans}

abbrev pub BoardState : Type 0
BoardState = State Slot View

abbrev pub state_of_board : List ℕ → List (mathlib.Core.Option.Option Slot) → List View → BoardState
state_of_board ws hs vs = record { words = ws; homes = hs; views = vs }

-- 1 where the slot is there, as the holder held_count it
abbrev pub held_count : Slot → ℕ
held_count x = cond (is_some x) 1 0

abbrev pub holding : View → ℕ
holding v = cond (is_holder v) 1 0

pub same_machine : (m n : Machine) → m.net ≡ n.net → m.budget ≡ n.budget → m.journal ≡ n.journal → m.out ≡ n.out → m.is_broken ≡ n.is_broken → m ≡ n
same_machine m n a b c d e = λ i. record { net = a i; budget = b i; journal = c i; out = d i; is_broken = e i }

-- it depends on the net, the budget and the journal alone
pub lawful_on : (m n : Machine) → n.net ≡ m.net → n.budget ≡ m.budget → n.journal ≡ m.journal → IsLawful m → IsLawful n
lawful_on m n net budget journal l = record {
  legal = subst (λ (z : Net × List Entry). IsLegal z.0 z.1) (λ i. (sym net i, sym journal i)) l.legal;
  within = let a = l.within in let b = ap length journal in omega arith;
  bounded = let a = l.bounded in omega arith;
}

-- how one view, the core and the turn word change in a step
pub record Moves (was now : Kept) (x y : ℕ) (v w : View) : Type 0 where
  pub holders : held_count w.held + signum x ≡ held_count v.held + signum y
  pub held : (k : Kept) → w.held ≡ Some k → k ≡ now
  pub others : (held_count v.held ≡ 1) ⊎ (now ≡ was)
  pub journal : IsPrefix was.0.journal now.0.journal
  pub net : now.0.net ≡ was.0.net
  pub budget : now.0.budget ≡ was.0.budget
  pub later : was.1 ≤ now.1
  pub fits : Fits now w
  pub fresh : y ≡ 0 → 0 < w.shares → w.turn ≡ now.1 → machine_of w ≡ now.0
  pub newer : y ≡ 0 → was.1 < now.1
  pub latest : y ≡ 0 → (0 < w.shares) × (w.turn ≡ now.1)
  pub mine : (p : ℕ) → times p w.mine + times p (places (length was.0.journal)) ≡ times p v.mine + times p (places (length now.0.journal))
  pub jobs : (p : ℕ) → times p w.home + times p now.0.out + times p (places (length was.0.journal)) ≡ times p v.home + times p was.0.out + times p (places (length now.0.journal))
  pub lost : (n m : ℕ) → m + length v.lost ≡ n + length w.lost → was.0.is_broken ≡ nat_lt 0 n → now.0.is_broken ≡ nat_lt 0 m
  pub turns : w.holds + was.1 ≡ v.holds + now.1
  pub tries : w.tries + w.used + y ≡ v.tries + v.used + x
  pub shares : w.shares ≡ v.shares

fits_on : (was now : Kept) (v : View) → IsPrefix was.0.journal now.0.journal → now.0.net ≡ was.0.net → now.0.budget ≡ was.0.budget → was.1 ≤ now.1 → Fits was v → Fits now v
fits_on was now v journal net budget later f = record {
  net = λ h. (net ∙ (f.net h).0, budget ∙ (f.net h).1);
  seen = prefix_trans v.seen was.0.journal now.0.journal f.seen journal;
  told = f.told;
  parts = f.parts;
  turn = let t = f.turn in omega arith;
  used = f.used;
  idle = f.idle;
}

pub goes : (s : BoardState) (o : IsOrdered s) (id : ℕ) (v w : View) (ws : List ℕ) (hs : List (mathlib.Core.Option.Option Slot)) (now : Kept) → get_elem? s.views id ≡ some v
    → length ws ≡ 2 → get_or ws 0 0 ≡ length now.0.journal → IsLawful now.0
    → (get_or ws 1 0 ≡ 0 → get_elem? hs 0 ≡ some (some (Some now))) → (0 < get_or ws 1 0 → get_elem? hs 0 ≡ some none)
    → Moves o.now now (get_or s.words 1 0) (get_or ws 1 0) v w → IsOrdered (state_of_board ws hs (set s.views id w))
goes s o id v w ws hs now at wide long lawful home away m =
    let was : Kept = o.now in let here : get_elem? (set s.views id w) id ≡ some w = set_here s.views id w (inside s.views id v at) in
    record {
      now = now;
      words = wide;
      long = long;
      lawful = lawful;
      home = home;
      away = away;
      holders = let a = sum-set holding s.views id v w at in let b = o.holders in let c = m.holders in omega arith;
      held = λ j u k e h. ⊎_elim (λ (t : (j ≡ id) × (w ≡ u)). m.held k (ap (λ (y : View). y.held) t.1 ∙ h))
          (λ (t : (j ≢ id) × (get_elem? s.views j ≡ some u)). ⊎_elim
          (λ (mine : held_count v.held ≡ 1). let two = terms_le holding s.views id j v u t.0 at t.1 in let one : held_count u.held ≡ 1 = ap held_count h in let all = o.holders in let few = signum-le (get_or s.words 1 0) in absurd (omega arith))
          (λ (same : now ≡ was). o.held j u k t.1 h ∙ sym same) m.others)
          (at_set s.views id j w u e);
      fits = λ j u e. ⊎_elim (λ (t : (j ≡ id) × (w ≡ u)). subst (Fits now) t.1 m.fits)
          (λ (t : (j ≢ id) × (get_elem? s.views j ≡ some u)). fits_on was now u m.journal m.net m.budget m.later (o.fits j u t.1)) (at_set s.views id j w u e);
      fresh = λ free j u e some-share current. ⊎_elim (λ (t : (j ≡ id) × (w ≡ u)). subst (λ (y : View). machine_of y ≡ now.0) t.1 (m.fresh free (subst (λ (y : View). 0 < y.shares) (sym t.1) some-share) (ap (λ (y : View). y.turn) t.1 ∙ current)))
          (λ (t : (j ≢ id) × (get_elem? s.views j ≡ some u)). let old = (o.fits j u t.1).turn in let new = m.newer free in absurd (omega arith)) (at_set s.views id j w u e);
      latest = λ free. record { seat = id; view = w; is = here; shares = (m.latest free).0; turn = (m.latest free).1 };
      mine = λ p. let a = sum-set (λ (u : View). times p u.mine) s.views id v w at in let b = o.mine p in let c = m.mine p in omega arith;
      jobs = λ p. let a = sum-set (λ (u : View). times p u.home) s.views id v w at in let b = o.jobs p in let c = m.jobs p in omega arith;
      lost = let a = sum-set (λ (u : View). length u.lost) s.views id v w at in m.lost (sum_by (λ (u : View). length u.lost) s.views) (sum_by (λ (u : View). length u.lost) (set s.views id w)) a o.lost;
      turns = let a = sum-set (λ (u : View). u.holds) s.views id v w at in let b = o.turns in let c = m.turns in omega arith;
      tries = let a = sum-set (λ (u : View). u.tries) s.views id v w at in let a' = sum-set (λ (u : View). u.used) s.views id v w at in let b = o.tries in let c = m.tries in omega arith;
      shares = let a = sum-set (λ (u : View). u.shares) s.views id v w at in let b = o.shares in let c = m.shares in omega arith;
    }

-- a step that changes nothing
pub unmoved : (s : BoardState) (o : IsOrdered s) (i id : ℕ) (v : View) → get_elem? s.views id ≡ some v → IsOrdered (state_of_board (set s.words i (get_or s.words i 0)) s.homes (set s.views id v))
unmoved s o i id v at = subst (λ (z : List ℕ × List View). IsOrdered (state_of_board z.0 s.homes z.1)) (λ k. (sym (set-get_or s.words i 0) k, sym (set_again s.views id v at) k)) o

pub sees_all : (s : BoardState) (o : IsOrdered s) (id : ℕ) (v : View) → get_elem? s.views id ≡ some v → v.shares ≡ all_shares → SeesAll v o.now
sees_all s o id v at every =
    let share : View → ℕ = λ u. u.shares in
    let whole : sum_by share s.views ≡ share v = o.shares ∙ sym every in
    let idle : (k : ℕ) (u : View) → get_elem? s.views k ≡ some u → share u ≡ 0 → IsIdle u = λ k u h z. (o.fits k u h).idle z in
    let none_mine : (p k : ℕ) (u : View) → get_elem? s.views k ≡ some u → share u ≡ 0 → times p u.mine ≡ 0 = λ p k u h z. ap (times p) (idle k u h z).mine in
    record {
      mine = λ p. sym (sum-alone (λ (u : View). times p u.mine) share s.views id v at whole (none_mine p)) ∙ o.mine p;
      jobs = λ p. let alone = sum-alone (λ (u : View). times p u.home) share s.views id v at whole (λ k u h z. let gone = none_mine p k u h z in let parts = (o.fits k u h).parts p in omega arith) in
          let all = o.jobs p in omega arith;
      sound = λ none_lost. let alone = sum-alone (λ (u : View). length u.lost) share s.views id v at whole (λ k u h z. ap length (idle k u h z).lost) in
          o.lost ∙ ap (nat_lt 0) (alone ∙ ap length none_lost);
    }

pub sees : (s : BoardState) (o : IsOrdered s) (id : ℕ) (v : View) → get_elem? s.views id ≡ some v → Sees v o.now
sees s o id v at = let f : Fits o.now v = o.fits id v at in record {
  net = f.net;
  seen = f.seen;
  lawful = o.lawful;
  jobs = λ p h. let maker : View → ℕ = λ u. times p u.mine in let part = term_le maker s.views id v at in let all = o.mine p in let few = places-le p (length o.now.0.journal) in
      let alone = sum-alone (λ (u : View). times p u.home) maker s.views id v at (omega arith) (λ k u e z. let parts = (o.fits k u e).parts p in omega arith) in
      let jobs = o.jobs p in omega arith;
  mine = λ p. let part = term_le (λ (u : View). times p u.mine) s.views id v at in let all = o.mine p in omega arith;
  out = λ p. let all = o.jobs p in omega arith;
  parts = f.parts;
  turns = let le = sum-le (λ (u : View). u.holds) (λ (u : View). u.used) s.views (λ j u e. (o.fits j u e).used) in let a = o.turns in let b = o.tries in omega arith;
  lost = λ some_lost. let part = term_le (λ (u : View). length u.lost) s.views id v at in o.lost ∙ lt-ltb 0 (sum_by (λ (u : View). length u.lost) s.views) (omega arith);
  all = sees_all s o id v at;
}

-- where one view held_count all shares and isn't the holder, the slot is at home
pub none_out : (s : BoardState) (o : IsOrdered s) (id : ℕ) (v : View) → get_elem? s.views id ≡ some v → v.shares ≡ all_shares → v.held ≡ None → get_or s.words 1 0 ≡ 0
none_out s o id v at every idle =
    let share : View → ℕ = λ u. u.shares in
    let whole : sum_by share s.views ≡ share v = o.shares ∙ sym every in
    let alone = sum-alone holding share s.views id v at whole (λ k u h z. ap held_count (((o.fits k u h).idle z).held)) in
    signum-zero (get_or s.words 1 0) (sym o.holders ∙ (alone ∙ ap held_count idle))
