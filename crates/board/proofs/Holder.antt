-- One hold: the slot is taken, the core there is changed, and the slot given back.
use Rattle.std.proofs.Common.{◌≡◌, ℕ, ◌<◌, List, [], ◌∷◌, ◌++◌, length, sym, refl, ap, ◌∙◌, subst, arith, append-nil, Some}
use Rattle.core_machine.specs.Machine.{Machine, IsLawful}
use Rattle.board.specs.Rule.{Kept, Slot, machine_of, made_since}
use Rattle.board.specs.Plays.{Sat, Sees, Took, AreNew, new_places, after_take, after_raise, after_give}
use Rattle.board.specs.Calls.{less_one_try}
use Rattle.board.specs.Holding.{IsAtRest, HasLetGo, HasKept, IfKept, with_kept, counted, MayRaise, HasRaised, MayPutHome, HasPutHome, made_by, home_by, lost_by, HasChanged, MayGiveBack, after_hold, GaveBack, HasHeld, MayDo, HasDone}
use Rattle.board.specs.declared.view.View.{View}
use Rattle.board.specs.declared.change.Change.{Change}
use Rattle.board.proofs.Prefixes.{prefix_trans}
use Rattle.board.proofs.Raises.{new_is}
use Rattle.board.proofs.Slots.{one_kept}
use Rattle.board.proofs.Sums.{places_after-none}
use Rattle.board.proofs.Moves.{same_machine}
use Rattle.board.proofs.Gives.{raised_may, unraised_may, raised_sees}

-- what holds of the core that a seat has holds of each that it may have
of_slot : (m : Sat) (k : Kept) → m.1 ≡ (0, Some k) ∷ [] → (P : Kept → Type 0) → P k → IfKept m P
of_slot m k slot P told x at = subst P (one_kept k x (sym slot ∙ at)) told

-- The steps by which the slot goes back

module _ (c : Change) (m : Sat) (may : MayGiveBack c m) where
  abbrev core : Kept
  core = may.0

  changed : HasChanged m.0 may.2.1.0 core c
  changed = may.2.1.1

  -- where entries were made, the length word is raised, and the slot put home then
  pub may_raise : (made : ℕ) → made ≡ made_by c → MayRaise made (home_by c) (lost_by c) m
  may_raise made is = (core, may.1, (may.2.1.0, changed.made, (let a = changed.longer in omega arith)))

  pub may_put_raised : (n : Sat) → HasRaised (home_by c) (lost_by c) m n → MayPutHome [] [] n
  may_put_raised n raised = subst (MayPutHome [] []) (sym (raised core may.1).0) (core, refl, (may.2.0, (core, raised_may m.0 may.2.1.0 core (home_by c) (lost_by c) changed.made)))

  pub gave_raised : (n w : Sat) → HasRaised (home_by c) (lost_by c) m n → HasPutHome [] [] n w → GaveBack c m w
  gave_raised n w raised put = of_slot m core may.1 (λ (k : Kept). ((r : ℕ) × (w ≡ (after_hold c r m.0 k, []))) × AreNew m.0 (new_places m.0 k))
      (let t = raised core may.1 in let e = put core (ap (λ (x : Sat). x.1) t.0) in let r : ℕ = e.0 in let held : View = after_hold c r m.0 core in
      let given : w ≡ (after_give [] [] r (after_raise (home_by c) (lost_by c) m.0 core) (counted core), []) = e.1 ∙ ap (λ (x : Sat). (after_give [] [] r x.0 (counted core), [])) t.0 in
      ((r, given ∙ ap (λ (z : List ℕ × List ℕ). (record held { home = z.0; lost = z.1 }, [])) (λ i. (append-nil (m.0.home ++ home_by c) i, append-nil (m.0.lost ++ lost_by c) i))), t.1))

  -- where none was made, it is put home at once
  module _ (none : made_by c ≡ 0) where
    as_long : length core.0.journal ≡ length may.2.1.0.0.journal
    as_long = let a = changed.longer in omega arith

    pub may_put_unraised : MayPutHome (home_by c) (lost_by c) m
    may_put_unraised = (core, may.1, (may.2.0, (may.2.1.0, unraised_may m.0 may.2.1.0 core (home_by c) (lost_by c) changed.made as_long)))

    pub gave_unraised : (w : Sat) → HasPutHome (home_by c) (lost_by c) m w → GaveBack c m w
    gave_unraised w put = of_slot m core may.1 (λ (k : Kept). ((r : ℕ) × (w ≡ (after_hold c r m.0 k, []))) × AreNew m.0 (new_places m.0 k))
        (let e = put core may.1 in let r : ℕ = e.0 in let held : View = after_hold c r m.0 core in
        let no_place : new_places m.0 core ≡ [] = new_is m.0 may.2.1.0 core (home_by c) (lost_by c) changed.made ∙ places_after-none (length may.2.1.0.0.journal) (length core.0.journal) as_long in
        let same : m.0.mine ≡ m.0.mine ++ new_places m.0 core = sym (append-nil m.0.mine) ∙ ap (λ (l : List ℕ). m.0.mine ++ l) (sym no_place) in
        ((r, e.1 ∙ ap (λ (l : List ℕ). (record held { mine = l }, [])) same), subst (AreNew m.0) (sym no_place) (λ p some. absurd (omega arith))))

-- What is told of a hold

-- what is seen as the slot is taken is seen by the holder
holder_sees : (v : View) (k : Kept) → Sees v k → Sees (after_take v k) k
holder_sees v k s = record { net = s.net; seen = s.seen; lawful = s.lawful; jobs = s.jobs; mine = s.mine; out = s.out; parts = s.parts; turns = s.turns; lost = s.lost; all = λ e. let a = s.all e in record { mine = a.mine; jobs = a.jobs; sound = a.sound } }

held_so : (v : View) (k l : Kept) (c : Change) (r : ℕ) → Sees v k → 0 < v.shares → HasChanged (after_take v k) k l c → AreNew v (made_since k l) → HasHeld (less_one_try v) k.0 l.0 c (after_hold c r (after_take v k) l)
held_so v k l c r s share t new =
    let raised = raised_sees (after_take v k) k l (home_by c) (lost_by c) t.made (holder_sees v k s) new in
    let net = s.net share in
    let shows : machine_of (after_hold c r (after_take v k) l) ≡ l.0 = same_machine (machine_of (after_hold c r (after_take v k) l)) l.0 (sym (t.made.net.0 ∙ net.0)) (sym (t.made.net.1 ∙ net.1)) refl refl refl in
    record {
      held = record {
        holds = refl;
        tries = refl;
        shares = refl;
        net = (refl, refl);
        found = net;
        began = s.seen;
        seen = prefix_trans v.seen k.0.journal l.0.journal s.seen t.made.journal;
        lawful = subst IsLawful (sym shows) t.made.lawful;
        jobs = raised.jobs;
        parts = raised.parts;
      };
      core = shows;
      mine = refl;
      home = refl;
      lost = refl;
      new = new;
      sound = λ all. (s.all all).sound;
    }

pub took_slot : (m n : Sat) (t : Took m n) → m.1 ≡ [] → n.1 ≡ (0, Some t.kept) ∷ []
took_slot m n t free = ap (λ (x : Sat). x.1) t.seat ∙ ap (λ (l : List (ℕ × Slot)). (0, Some t.kept) ∷ l) free

module _ {A O : Type 0} (may : Machine → Type 0) (did : Machine → A → Machine → O → Change → Type 0) (m n : Sat) (rest : IsAtRest m) (t : Took m n) (can : MayDo may did m.0) where
  pub can_lend : HasKept n (λ k. may k.0)
  can_lend = (t.kept, took_slot m n t rest.free, (can t.kept t.sees rest.shares).0)

  module _ (b : Sat) (a : A) (o : O) (c : Change) (lent : IfKept n (λ k. (l : Machine) × (b ≡ with_kept n.0 (l, k.1)) × did k.0 a l o c × IsLawful l)) where
    abbrev left : Machine
    left = (lent t.kept (took_slot m n t rest.free)).0

    abbrev now : Kept
    now = (left, t.kept.1)

    there : b ≡ with_kept (after_take m.0 t.kept) now
    there = (lent t.kept (took_slot m n t rest.free)).1 ∙ ap (λ (x : Sat). with_kept x.0 now) t.seat

    done : did t.kept.0 a left o c
    done = (lent t.kept (took_slot m n t rest.free)).2

    change_is : HasChanged (after_take m.0 t.kept) t.kept now c
    change_is = (can t.kept t.sees rest.shares).1 a left o c done (lent t.kept (took_slot m n t rest.free)).3

    pub can_give : MayGiveBack c b
    can_give = subst (MayGiveBack c) (sym there) (now, refl, (t.sees.turns, (t.kept, change_is)))

    pub has_done : (w : Sat) → GaveBack c b w → HasLetGo w × HasDone did m.0 a w.0 o
    has_done w gave =
        let g = gave now (ap (λ (x : Sat). x.1) there) in let r : ℕ = g.0.0 in
        let whole : w ≡ (after_hold c r (after_take m.0 t.kept) now, []) = g.0.1 ∙ ap (λ (x : Sat). (after_hold c r x.0 now, [])) there in
        let new : AreNew m.0 (made_since t.kept now) = subst (λ (x : Sat). AreNew x.0 (new_places x.0 now)) there g.1 in
        subst (λ (x : Sat). HasLetGo x × HasDone did m.0 a x.0 o) (sym whole) ((refl, refl), record { found = t.kept.0; left = left; change = c; held = held_so m.0 t.kept now c r t.sees rest.shares change_is new; so = done })
