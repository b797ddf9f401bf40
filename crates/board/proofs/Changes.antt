-- What the holder of a core may do to it.
use Rattle.std.proofs.Common.{◌≡◌, ℕ, suc, Bool, ◌+◌, ◌-◌, ◌<◌, ◌≤◌, List, [], ◌∷◌, length, sym, refl, ap, ◌∙◌, subst, arith, length-append, append-nil, false}
use Rattle.std.proofs.Math.Bool.{or-false, or-true}
use Rattle.std.proofs.lemmas.Result.{IfOk-weaker}
use Rattle.std.specs.Prelude.{take}
use Rattle.pipe_model.specs.declared.net.Net.{Net}
use Rattle.pipe_model.specs.declared.net.Strand.{Strand}
use Rattle.pipe_model.specs.Event.{Event}
use Rattle.pipe_model.specs.declared.step.Entry.{Entry}
use Rattle.core_machine.specs.Machine.{Machine, IsLawful, turned, came_home, broke_down, without}
use Rattle.core_machine.specs.Jobs.{FinishedState, HasGoneOn, DoneStands}
use Rattle.core_machine.specs.Answered.{HasRunOnRecords, HasBrokenOnRecords}
use Rattle.board.specs.Counts.{times, places_after}
use Rattle.board.specs.Rule.{Kept, made_since, HasMade}
use Rattle.board.specs.Plays.{Sees, after_take}
use Rattle.board.specs.Calls.{CanFinish}
use Rattle.board.specs.Holding.{HasChanged}
use Rattle.board.specs.Tasks.{TurnDid, AnyDid, MayFinish, FinishDid, GoOnDid}
use Rattle.board.specs.declared.change.Change.{Change}
use Rattle.board.specs.declared.change.Change.TheVariants.{Nothing, Step, Home, Short, Lost}
use Rattle.board.specs.declared.answers.TryTurn.{TryTurn}
use Rattle.board.specs.declared.answers.TryTurn.TheVariants as One
use Rattle.board.specs.declared.answers.TryAny.{TryAny}
use Rattle.board.specs.declared.answers.TryAny.TheVariants as OfAny
use Rattle.board.specs.declared.answers.TryFinish.{TryFinish}
use Rattle.board.specs.declared.answers.TryFinish.TheVariants as End
use Rattle.board.specs.declared.view.View.{View}
use Rattle.board.proofs.Sums.{only, times-append, times-cons, times-one, times-push, places_after-none, places_after-one, places_after-last}
use Rattle.board.proofs.Gives.{is_out, one_more, taken_out, take_same}
use Rattle.board.proofs.Tells.{either_of}

-- so many entries were made after a job came home
pub run_longer : (sights : Bool) (m n : Machine) (p made : ℕ) → HasRunOnRecords sights (came_home m p) made n → length n.journal ≡ length m.journal + made
run_longer sights m n p made run = ap (λ (x : Machine). length x.journal) run.after ∙ length-append m.journal run.more ∙ ap (λ (z : ℕ). length m.journal + z) (sym run.made_is)

module _ (v : View) (k : Kept) (s : Sees v k) (share : 0 < v.shares) where
  abbrev old_length : ℕ
  old_length = length k.0.journal

  -- the core as it was taken
  pub nothing_changed : (n : Machine) → n ≡ k.0 → HasChanged (after_take v k) k (n, k.1) Nothing
  nothing_changed n is = subst (λ (x : Machine). HasChanged (after_take v k) k (x, k.1) Nothing) (sym is)
      (let none = places_after-none old_length old_length refl in record {
        made = record {
          held = refl;
          shares = share;
          turns = refl;
          net = (refl, refl);
          journal = ([], append-nil k.0.journal);
          lawful = s.lawful;
          jobs = λ p. let a = ap (times p) none in omega arith;
          parts = λ p. let a = ap (times p) none in let b = s.parts p in omega arith;
          broken = sym (or-false k.0.is_broken);
        };
        longer = omega arith;
      })

  -- one entry was made, whose job is out
  pub step_changed : (n : Machine) (e : Entry) → n ≡ turned k.0 e → IsLawful n → HasChanged (after_take v k) k (n, k.1) Step
  step_changed n e is lawful = subst (λ (x : Machine). HasChanged (after_take v k) k (x, k.1) Step) (sym is)
      (let long = length-append k.0.journal (e ∷ []) in record {
        made = record {
          held = refl;
          shares = share;
          turns = refl;
          net = (refl, refl);
          journal = (e ∷ [], refl);
          lawful = subst IsLawful is lawful;
          jobs = λ p. let a : times p (turned k.0 e).out ≡ times p k.0.out + only p (suc old_length) = times-push p (suc old_length) k.0.out in
              let long' : suc old_length ≡ length (turned k.0 e).journal = omega arith in
              let b : times p (made_since k (turned k.0 e, k.1)) ≡ only p (suc old_length) = ap (times p) (places_after-one old_length (length (turned k.0 e).journal) long) ∙ (times-one p (length (turned k.0 e).journal) ∙ ap (only p) (sym long')) in omega arith;
          parts = λ p. let a = s.parts p in omega arith;
          broken = sym (or-false k.0.is_broken);
        };
        longer = long;
      })

  -- the job of a place that the pass made, and that is neither home nor lost
  module _ (p : ℕ) (can : CanFinish v p) where
    out_one : times p k.0.out ≡ 1
    out_one = (is_out v k s p can.0 can.1 can.2).0

    more : (q : ℕ) → times q v.home + times q v.lost + only q p ≤ times q v.mine
    more = one_more v k s p can.0 can.1 can.2

    pub lost_changed : (n : Machine) → n ≡ broke_down k.0 → HasChanged (after_take v k) k (n, k.1) (Lost p)
    lost_changed n is = subst (λ (x : Machine). HasChanged (after_take v k) k (x, k.1) (Lost p)) (sym is)
        (let none = places_after-none old_length old_length refl in record {
          made = record {
            held = refl;
            shares = share;
            turns = refl;
            net = (refl, refl);
            journal = ([], append-nil k.0.journal);
            lawful = record { legal = s.lawful.legal; within = s.lawful.within; bounded = s.lawful.bounded };
            jobs = λ q. let a = ap (times q) none in omega arith;
            parts = λ q. let a = ap (times q) none in let b = more q in let d = times-one q p in omega arith;
            broken = sym (or-true k.0.is_broken);
          };
          longer = omega arith;
        })

    module _ (sights : Bool) (n : Machine) (made : ℕ) (lawful : IsLawful n) where
      abbrev new_length : ℕ
      new_length = length n.journal

      -- it came home, and the core went on
      pub home_changed : HasRunOnRecords sights (came_home k.0 p) made n → HasChanged (after_take v k) k (n, k.1) (Home p made new_length)
      home_changed run =
          let longer = run_longer sights k.0 n p made run in
          let since : List ℕ = places_after old_length new_length in
          let home_is : p ∷ places_after (new_length - made) new_length ≡ p ∷ since = let old : new_length - made ≡ old_length = omega arith in ap (λ (z : ℕ). p ∷ places_after z new_length) old in
          record {
            made = subst (λ (l : List ℕ). HasMade (after_take v k) k (n, k.1) l []) (sym home_is) (record {
              held = refl;
              shares = share;
              turns = refl;
              net = (ap (λ (x : Machine). x.net) run.after, ap (λ (x : Machine). x.budget) run.after);
              journal = (run.more, sym (ap (λ (x : Machine). x.journal) run.after));
              lawful = lawful;
              jobs = λ q. let a = taken_out q p k.0.out out_one in let b = times-cons q p since in let d = times-one q p in let e : times q n.out ≡ times q (without p k.0.out) = ap (λ (x : Machine). times q x.out) run.after in omega arith;
              parts = λ q. let a = more q in let b = times-cons q p since in omega arith;
              broken = ap (λ (x : Machine). x.is_broken) run.after ∙ sym (or-false k.0.is_broken);
            });
            longer = longer;
          }

      -- it came home, and the core went on and fell short of memory
      pub short_changed : (most : ℕ) → HasBrokenOnRecords sights most (came_home k.0 p) n → new_length ≡ old_length + made → HasChanged (after_take v k) k (n, k.1) (Short p made new_length)
      short_changed most run longer =
          let but_last : List ℕ = places_after old_length (new_length - 1) in
          let home_is : p ∷ places_after (new_length - made) (new_length - 1) ≡ p ∷ but_last = let old : new_length - made ≡ old_length = omega arith in ap (λ (z : ℕ). p ∷ places_after z (new_length - 1)) old in
          record {
            made = subst (λ (l : List ℕ). HasMade (after_take v k) k (n, k.1) l (new_length ∷ [])) (sym home_is) (record {
              held = refl;
              shares = share;
              turns = refl;
              net = (run.broke.net, run.broke.budget);
              journal = (run.broke.longer.0, sym run.broke.longer.1);
              lawful = lawful;
              jobs = λ q. let a = taken_out q p k.0.out out_one in let b = times-cons q p but_last in let d = times-one q p in
                  let last = places_after-last q old_length new_length run.broke.more in let e = ap (times q) run.broke.out ∙ times-append q (without p k.0.out) (new_length ∷ []) in omega arith;
              parts = λ q. let a = more q in let b = times-cons q p but_last in let last = places_after-last q old_length new_length run.broke.more in omega arith;
              broken = run.broke.broken ∙ sym (or-true k.0.is_broken);
            });
            longer = longer;
          }

  -- Tasks

  abbrev is_changed : Machine → Change → Type 0
  is_changed n c = HasChanged (after_take v k) k (n, k.1) c

  as_it_was : (n : Machine) (c : Change) → n ≡ k.0 → c ≡ Nothing → is_changed n c
  as_it_was n c same none = subst (is_changed n) (sym none) (nothing_changed n same)

  module _ {S : Type 0} (stands : S → Strand → List Event → Type 0) (n : Machine) (c : Change) (lawful : IsLawful n) where
    pub turn_changed : (s' j room : ℕ) (answer : TryTurn S) (bytes : List ℕ) → TurnDid stands k.0 s' j room answer n bytes c → is_changed n c
    turn_changed s' j room (One.Work job receipt) bytes d = subst (is_changed n) (sym d.2) (step_changed n (record { strand = s'; stream = j }) d.0.2 lawful)
    turn_changed s' j room One.NotReady bytes d = as_it_was n c d.0.2 d.1
    turn_changed s' j room One.Spent bytes d = as_it_was n c d.0.3 d.1
    turn_changed s' j room (One.Room size) bytes d = as_it_was n c d.0.5 d.1
    turn_changed s' j room One.Broken bytes d = as_it_was n c d.0.1 d.1
    turn_changed s' j room One.Busy bytes d = absurd d

    pub any_changed : (room : ℕ) (answer : TryAny S) (bytes : List ℕ) → AnyDid stands k.0 room answer n bytes c → is_changed n c
    any_changed room (OfAny.Work job receipt) bytes d = subst (is_changed n) (sym d.2) (step_changed n (record { strand = job.strand; stream = d.0.0 }) d.0.2.2 lawful)
    any_changed room (OfAny.Idle out) bytes d = as_it_was n c d.0.2 d.2
    any_changed room OfAny.Spent bytes d = as_it_was n c d.0.2.3 d.1
    any_changed room (OfAny.Room size) bytes d = as_it_was n c d.0.2.5 d.1
    any_changed room OfAny.Broken bytes d = as_it_was n c d.0.1 d.1
    any_changed room OfAny.Busy bytes d = absurd d

  -- a job that stands for what the pass has seen stands for the core's journal
  pub may_finish : {S : Type 0} (stands : S → Strand → List Event → Type 0) (done : FinishedState S) → CanFinish v done.place → DoneStands stands v.net (take done.place v.seen) done → MayFinish stands done k.0
  may_finish stands done can d = (
    (is_out v k s done.place can.0 can.1 can.2).1,
    IfOk-weaker done.want _ _ (λ want g.
        subst (λ (x : Net × List Entry). HasGoneOn stands x.0 x.1 done.strand done.place done.stage want) (λ i. (sym (s.net share).0 i, take_same v.seen k.0.journal done.place s.seen g.place_is i)) g) d,
  )

  module _ {S : Type 0} (p : ℕ) (can : CanFinish v p) (n : Machine) (c : Change) (lawful : IsLawful n) where
    pub finish_changed : (answer : TryFinish S) → FinishDid k.0 p answer n c → is_changed n c
    finish_changed End.Home d = subst (is_changed n) (sym d.2) (home_changed p can false n 0 lawful
        (record { more = []; steps = tt; after = d.1 ∙ ap (λ (l : List Entry). record (came_home k.0 p) { journal = l }) (sym (append-nil k.0.journal)); made_is = refl }))
    finish_changed End.NoMemory d = subst (is_changed n) (sym d.1) (lost_changed p can n d.0)
    finish_changed (End.Busy back) d = absurd d

    pub go_on_changed : (sights : Bool) (most : ℕ) (answer : TryFinish S) → GoOnDid sights most k.0 p answer n c → is_changed n c
    go_on_changed sights most End.Home d = subst (is_changed n) (sym d.5) (home_changed p can sights n d.0 lawful d.2)
    go_on_changed sights most End.NoMemory d = either_of d
        (λ t. subst (is_changed n) (sym t.1) (lost_changed p can n t.0))
        (λ t. subst (is_changed n) (sym t.4) (short_changed p can sights n t.0 lawful most t.2 t.3))
    go_on_changed sights most (End.Busy back) d = absurd d
