-- What a worker leaves its pass in, and how its work ends.
use Rattle.std.specs.Prelude.{◌≡◌, ℕ, Bool, ◌+◌, ◌<◌, ◌≤◌, true, false, [], ◌∷◌, length, Some, None, ◌⊎◌}
use mathlib.Core.List.{IsPrefix}
use Rattle.core_machine.specs.declared.job.RunEnd.TheVariants as Run
use Rattle.core_machine.specs.Machine.{Machine}
use Rattle.core_machine.specs.Answered.{LeastReady, Ends}
use Rattle.board.specs.Counts.{times}
use Rattle.board.specs.Rule.{machine_of}
use Rattle.board.specs.Calls.{WantsRoom, WentOn, less_one_try}
use Rattle.board.specs.declared.view.View.{View}
use Rattle.workers.specs.declared.working.WorkEnd.{WorkEnd}
use Rattle.workers.specs.declared.working.WorkEnd.TheVariants.{Complete, Spent, Broken, NoMemory, Tired}
use Rattle.workers.specs.declared.turns.AfterTurn.{AfterTurn}
use Rattle.workers.specs.declared.turns.AfterTurn.TheVariants.{Done, Idle, Ended}

-- each job of an entry that the pass made is home or lost
abbrev pub IsSettled : View → Type 0
IsSettled v = (p : ℕ) → times p v.mine ≡ times p v.home + times p v.lost

-- the pass has its shares, and knows no less than before of the same net
pub record HasWorked (v w : View) : Type 0 where
  pub net : (w.net ≡ v.net) × (w.budget ≡ v.budget)
  pub shares : w.shares ≡ v.shares
  pub seen : IsPrefix v.seen w.seen

-- the least event that may be is a look at a record of n bytes, and the room holds fewer
abbrev pub LacksRoom : View → ℕ → ℕ → Type 0
LacksRoom v room n = (r : ℕ × ℕ) × LeastReady (machine_of v) (Some r) × WantsRoom (machine_of v) r.0 r.1 room n

-- how the work ended, said of the core as the pass knows it then, and of how many bytes the room holds: complete and spent are what they are of a run, and after want of memory the core is broken or the room is too small
abbrev pub EndsSo : WorkEnd → View → ℕ → Type 0
EndsSo Complete v room = Ends Run.Complete (machine_of v)
EndsSo Spent v room = Ends Run.Spent (machine_of v)
EndsSo Broken v room = v.is_broken ≡ true
EndsSo Tired v room = v.tries < 3
EndsSo NoMemory v room = (v.is_broken ≡ true) ⊎ ((n : ℕ) × LacksRoom v room n)

-- the pass made an entry and brought its job home, and then the core went on by steps on records, with sights only where that is said
pub record HasTurned (sights : Bool) (v w : View) : Type 0 where
  pub made : View
  pub longer : length v.seen < length made.seen
  pub core : Machine
  pub place : ℕ
  pub most : ℕ
  pub home : WentOn (less_one_try made) core place sights most w

-- what a turn of the pass of the view v, with a room of so many bytes, leaves: done, the job of an entry is home or the room holds the record for which it was too small; idle, no strand may have an event and some are out
abbrev pub TurnsSo : Bool → AfterTurn → View → ℕ → View → ℕ → Type 0
TurnsSo sights Done v before w after = HasTurned sights v w ⊎ ((n : ℕ) × LacksRoom w before n × (n ≤ after))
TurnsSo sights Idle v before w after = (w.is_broken ≡ false) × LeastReady (machine_of w) None × (0 < length w.out)
TurnsSo sights (Ended end) v before w after = EndsSo end w after

-- Inside

-- each job of an entry that the pass made is home or lost, but for the job of one place, which is out
abbrev pub Owes : View → ℕ → Type 0
Owes v place = (p : ℕ) → times p v.mine ≡ times p v.home + times p v.lost + times p (place ∷ [])

-- a job came home and the core went on, or it is broken for want of memory
abbrev pub ComesSo : Bool → ℕ → AfterTurn → View → View → Type 0
ComesSo sights place answer v w =
    ((answer ≡ Done) × ((m : Machine) × (most : ℕ) × WentOn (less_one_try v) m place sights most w))
    ⊎ ((answer ≡ Ended NoMemory) × (w.is_broken ≡ true))

-- the room holds so many bytes now, or there was no memory and it holds as many as before
abbrev pub GrowsSo : AfterTurn → ℕ → ℕ → ℕ → Type 0
GrowsSo answer size before after = ((answer ≡ Done) × (size ≤ after)) ⊎ ((answer ≡ Ended NoMemory) × (after ≡ before))
