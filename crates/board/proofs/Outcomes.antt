-- What is told of a hold in which a task was done.
use Rattle.std.proofs.Common.{◌≡◌, ℕ, Bool, ◌+◌, ◌-◌, ◌<◌, List, [], ◌∷◌, ◌++◌, length, sym, refl, ap, ◌∙◌, subst, inl, inr, arith, length-append, append-nil, Some, None, true, false}
use Rattle.pipe_model.specs.declared.net.Strand.{Strand}
use Rattle.pipe_model.specs.declared.step.Entry.{Entry}
use Rattle.pipe_model.specs.Event.{Event}
use Rattle.core_machine.specs.declared.job.Turned.TheVariants as Turn
use Rattle.core_machine.specs.Machine.{Machine, came_home}
use Rattle.core_machine.specs.Jobs.{JobState, FinishedState}
use Rattle.core_machine.specs.Answered.{TurnedAs, LeastReady, HasRunOnRecords, HasBrokenOnRecords, IsEndOnRecords}
use Rattle.board.specs.Counts.{times, places_after}
use Rattle.board.specs.Rule.{machine_of}
use Rattle.board.specs.Calls.{IsBusy, Held, Unchanged, IsBroken, IsUnready, IsSpent, WantsRoom, Worked, HeldTurn, TurnTold, TryTurnTold, HeldAny, AnyTold, TryAnyTold, HeldFinish, FinishTold, TryFinishTold, HeldFinishOn}
use Rattle.board.specs.Holding.{home_by, lost_by, HasHeld}
use Rattle.board.specs.Tasks.{TurnDid, AnyDid, FinishDid, GoOnDid}
use Rattle.board.specs.declared.view.View.{View}
use Rattle.board.specs.declared.change.Change.{Change}
use Rattle.board.specs.declared.change.Change.TheVariants.{Nothing, Step, Home, Short, Lost}
use Rattle.board.specs.declared.answers.TryTurn.{TryTurn}
use Rattle.board.specs.declared.answers.TryTurn.TheVariants as One
use Rattle.board.specs.declared.answers.TryAny.{TryAny}
use Rattle.board.specs.declared.answers.TryAny.TheVariants as OfAny
use Rattle.board.specs.declared.answers.TryFinish.{TryFinish}
use Rattle.board.specs.declared.answers.TryFinish.TheVariants as End
use Rattle.board.proofs.Sums.{only-same, times-one, places_after-none, places_after-one}
use Rattle.board.proofs.Prefixes.{prefix_length}
use Rattle.board.proofs.Changes.{run_longer}
use Rattle.board.proofs.Tells.{either_of}

abbrev entry : ℕ → ℕ → Entry
entry s k = record { strand = s; stream = k }

-- the call found m, and left n after the change
module _ (v w : View) (m n : Machine) (c : Change) (h : HasHeld v m n c w) where
  home_is : (d : Change) → c ≡ d → w.home ≡ v.home ++ home_by d
  home_is d is = h.home ∙ ap (λ (x : Change). v.home ++ home_by x) is

  lost_is : (d : Change) → c ≡ d → w.lost ≡ v.lost ++ lost_by d
  lost_is d is = h.lost ∙ ap (λ (x : Change). v.lost ++ lost_by x) is

  seen_is : n.journal ≡ w.seen
  seen_is = ap (λ (x : Machine). x.journal) (sym h.core)

  mine_stays : length n.journal ≡ length m.journal → w.mine ≡ v.mine
  mine_stays same = h.mine ∙ ap (λ (l : List ℕ). v.mine ++ l) (places_after-none (length m.journal) (length n.journal) same) ∙ append-nil v.mine

  -- it made no entry, and gave the core back as it was
  module _ (none : c ≡ Nothing) (same : n ≡ m) where
    unchanged : Unchanged v m w
    unchanged = (h.core ∙ same, mine_stays (ap (λ (x : Machine). length x.journal) same), home_is Nothing none ∙ append-nil v.home, lost_is Nothing none ∙ append-nil v.lost)

    -- the cause is said of the core as it is shown then
    refused : (P : Machine → Type 0) → P m → Held v m w × Unchanged v m w × P (machine_of w)
    refused P cause = (h.held, unchanged, subst P (sym unchanged.0) cause)

    refused_broken : m.is_broken ≡ true → Held v m w × Unchanged v m w × IsBroken w
    refused_broken cause = (h.held, unchanged, (ap (λ (x : Machine). x.is_broken) unchanged.0 ∙ cause, λ all empty. let sound = h.sound (sym h.held.shares ∙ all) (sym unchanged.3 ∙ empty) in cc (sound, cause)))

  module _ {S : Type 0} (stands : S → Strand → List Event → Type 0) where
    worked : (s k room : ℕ) (job : JobState S) (place : ℕ) (bytes : List ℕ) → TurnedAs stands m s k room (Turn.Work job) n bytes → place ≡ job.place → c ≡ Step → Worked stands v m s k room job place w bytes
    worked s k room job place bytes told is step =
        let long : length n.journal ≡ length m.journal + 1 = ap (λ (x : Machine). length x.journal) told.2 ∙ length-append m.journal (entry s k ∷ []) in
        let last : place ≡ length n.journal = is ∙ told.5.place_is in
        let one : places_after (length m.journal) (length n.journal) ≡ place ∷ [] = places_after-one (length m.journal) (length n.journal) long ∙ ap (λ (p : ℕ). p ∷ []) (sym last) in
        record {
          held = h.held;
          turned = subst (λ (x : Machine). TurnedAs stands m s k room (Turn.Work job) x bytes) (sym h.core) told;
          place_is = (last ∙ ap length seen_is, sym is);
          longer = let le = prefix_length v.seen m.journal h.held.began in let a = ap length seen_is in omega arith;
          last = (m.journal, sym seen_is ∙ ap (λ (x : Machine). x.journal) told.2);
          mine = h.mine ∙ ap (λ (l : List ℕ). v.mine ++ l) one;
          new = h.new place (subst (λ (l : List ℕ). 0 < times place l) (sym one) (let a = times-one place place in let b = only-same place in omega arith));
          others = (home_is Step step ∙ append-nil v.home, lost_is Step step ∙ append-nil v.lost);
        }

    pub turn_held : (s k room : ℕ) (answer : TryTurn S) (bytes : List ℕ) → TurnDid stands m s k room answer n bytes c → HeldTurn stands v m s k room answer w bytes
    turn_held s k room (One.Work job receipt) bytes d = worked s k room job receipt.place bytes d.0 d.1 d.2
    turn_held s k room One.NotReady bytes d = refused d.1 d.0.2 (λ (x : Machine). IsUnready x s k) (d.0.0, d.0.1)
    turn_held s k room One.Spent bytes d = refused d.1 d.0.3 (λ (x : Machine). IsSpent x s k) (d.0.0, d.0.1, d.0.2)
    turn_held s k room (One.Room size) bytes d = refused d.1 d.0.5 (λ (x : Machine). WantsRoom x s k room size) (d.0.0, d.0.1, d.0.2, d.0.3, d.0.4)
    turn_held s k room One.Broken bytes d = refused_broken d.1 d.0.1 d.0.0
    turn_held s k room One.Busy bytes d = absurd d

    pub any_held : (room : ℕ) (answer : TryAny S) (bytes : List ℕ) → AnyDid stands m room answer n bytes c → HeldAny stands v m room answer w bytes
    any_held room (OfAny.Work job receipt) bytes d = (d.0.0, d.0.1, worked job.strand d.0.0 room job receipt.place bytes d.0.2 d.1 d.2)
    any_held room (OfAny.Idle out) bytes d =
        let r = refused d.2 d.0.2 (λ (x : Machine). (x.is_broken ≡ false) × LeastReady x None × (out ≡ length x.out)) (d.0.0, d.0.1, d.1 ∙ ap (λ (x : Machine). length x.out) d.0.2) in
        (r.0, r.1, r.2.0, r.2.1, r.2.2)
    any_held room OfAny.Spent bytes d = refused d.1 d.0.2.3 (λ (x : Machine). (r : ℕ × ℕ) × LeastReady x (Some r) × IsSpent x r.0 r.1) (d.0.0, d.0.1, (d.0.2.0, d.0.2.1, d.0.2.2))
    any_held room (OfAny.Room size) bytes d = refused d.1 d.0.2.5 (λ (x : Machine). (r : ℕ × ℕ) × LeastReady x (Some r) × WantsRoom x r.0 r.1 room size) (d.0.0, d.0.1, (d.0.2.0, d.0.2.1, d.0.2.2, d.0.2.3, d.0.2.4))
    any_held room OfAny.Broken bytes d = refused_broken d.1 d.0.1 d.0.0
    any_held room OfAny.Busy bytes d = absurd d

  module _ {S : Type 0} (place : ℕ) where
    pub finish_held : (answer : TryFinish S) → FinishDid m place answer n c → HeldFinish v m place answer w
    finish_held End.Home d = let long : ℕ = length n.journal in record {
      held = h.held;
      sound = d.0;
      core = h.core ∙ d.1;
      home = home_is (Home place 0 long) d.2 ∙ ap (λ (l : List ℕ). v.home ++ place ∷ l) (places_after-none (long - 0) long (omega arith));
      others = (mine_stays (ap (λ (x : Machine). length x.journal) d.1), lost_is (Home place 0 long) d.2 ∙ append-nil v.lost);
    }
    finish_held End.NoMemory d = record {
      held = h.held;
      core = h.core ∙ d.0;
      lost = lost_is (Lost place) d.1;
      others = (mine_stays (ap (λ (x : Machine). length x.journal) d.0), home_is (Lost place) d.1 ∙ append-nil v.home);
    }
    finish_held (End.Busy back) d = absurd d

    pub go_on_held : (sights : Bool) (most : ℕ) (answer : TryFinish S) → GoOnDid sights most m place answer n c → HeldFinishOn v m place sights most answer w
    go_on_held sights most End.Home d = let long : ℕ = length n.journal in let more = run_longer sights m n place d.0 d.2 in let old : long - d.0 ≡ length m.journal = omega arith in record {
      held = h.held;
      sound = d.1;
      made = d.0;
      few = d.3;
      core = subst (HasRunOnRecords sights (came_home m place) d.0) (sym h.core) d.2;
      ends = subst (IsEndOnRecords most d.0) (sym h.core) d.4;
      mine = h.mine ∙ ap (λ (j : List Entry). v.mine ++ places_after (length m.journal) (length j)) seen_is;
      home = home_is (Home place d.0 long) d.5 ∙ (λ i. v.home ++ place ∷ places_after (old i) (length (seen_is i)));
      lost = lost_is (Home place d.0 long) d.5 ∙ append-nil v.lost;
    }
    go_on_held sights most End.NoMemory d = either_of d
        (λ t. inl (record {
          held = h.held;
          core = h.core ∙ t.0;
          lost = lost_is (Lost place) t.1;
          others = (mine_stays (ap (λ (x : Machine). length x.journal) t.0), home_is (Lost place) t.1 ∙ append-nil v.home);
        }))
        (λ t. inr (let long : ℕ = length n.journal in let more = t.3 in let old : long - t.0 ≡ length m.journal = omega arith in record {
          held = h.held;
          sound = t.1;
          core = subst (HasBrokenOnRecords sights most (came_home m place)) (sym h.core) t.2;
          mine = h.mine ∙ ap (λ (j : List Entry). v.mine ++ places_after (length m.journal) (length j)) seen_is;
          home = home_is (Short place t.0 long) t.4 ∙ (λ i. v.home ++ place ∷ places_after (old i) (length (seen_is i) - 1));
          lost = lost_is (Short place t.0 long) t.4 ∙ ap (λ (j : List Entry). v.lost ++ length j ∷ []) seen_is;
        }))
    go_on_held sights most (End.Busy back) d = absurd d

-- A call that tries once says what one that waits says, where it takes the slot

module _ {S : Type 0} (stands : S → Strand → List Event → Type 0) (v w : View) where
  pub try_turn_told : (s k room : ℕ) (answer : TryTurn S) (bytes : List ℕ) → TurnTold stands v s k room answer w bytes → TryTurnTold stands v s k room answer w bytes
  try_turn_told s k room (One.Work job receipt) bytes t = t
  try_turn_told s k room One.NotReady bytes t = t
  try_turn_told s k room One.Spent bytes t = t
  try_turn_told s k room (One.Room n) bytes t = t
  try_turn_told s k room One.Broken bytes t = t
  try_turn_told s k room One.Busy bytes t = absurd t.1

  pub busy_turn_told : (s k room : ℕ) (answer : TryTurn S) (bytes : List ℕ) → IsBusy v w → answer ≡ One.Busy → TryTurnTold stands v s k room answer w bytes
  busy_turn_told s k room answer bytes busy is = subst (λ (x : TryTurn S). TryTurnTold stands v s k room x w bytes) (sym is) busy

  pub try_any_told : (room : ℕ) (answer : TryAny S) (bytes : List ℕ) → AnyTold stands v room answer w bytes → TryAnyTold stands v room answer w bytes
  try_any_told room (OfAny.Work job receipt) bytes t = t
  try_any_told room (OfAny.Idle out) bytes t = t
  try_any_told room OfAny.Spent bytes t = t
  try_any_told room (OfAny.Room n) bytes t = t
  try_any_told room OfAny.Broken bytes t = t
  try_any_told room OfAny.Busy bytes t = absurd t.1

  pub busy_any_told : (room : ℕ) (answer : TryAny S) (bytes : List ℕ) → IsBusy v w → answer ≡ OfAny.Busy → TryAnyTold stands v room answer w bytes
  busy_any_told room answer bytes busy is = subst (λ (x : TryAny S). TryAnyTold stands v room x w bytes) (sym is) busy

module _ {S : Type 0} (v w : View) where
  pub try_finish_told : (done : FinishedState S) (answer : TryFinish S) → FinishTold v done.place answer w → TryFinishTold v done answer w
  try_finish_told done End.Home t = t
  try_finish_told done End.NoMemory t = t
  try_finish_told done (End.Busy back) t = absurd t.1

  pub busy_finish_told : (done : FinishedState S) (answer : TryFinish S) → IsBusy v w → answer ≡ End.Busy done → TryFinishTold v done answer w
  busy_finish_told done answer busy is = subst (λ (x : TryFinish S). TryFinishTold v done x w) (sym is) (busy, refl)
