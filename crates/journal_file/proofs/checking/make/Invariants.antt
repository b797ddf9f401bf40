-- The room grows until it holds the record that the strand sees.
use Rattle.std.proofs.Common.{◌≡◌, ◌-◌, ℕ, length, Option, Some}
use Rattle.std.specs.Prelude.{vec_capacity}
use Rattle.pipe_model.specs.Event.{Event}
use Rattle.pipe_model.specs.Event.Event.{Saw}
use Rattle.core_machine.specs.Machine.{licence_of}
use Rattle.journal_file.proofs.checking.make.Given as goal

-- the length of the record that an event sees
abbrev pub size_of : Option Event → ℕ
size_of (Some (Saw i rec)) = length rec
size_of _ = 0

abbrev pub invariant-loop-job : goal.invariant-loop-job
invariant-loop-job g l = l.core ≡ l.initial.core

abbrev pub decreases-loop-job : goal.decreases-loop-job
decreases-loop-job g l = size_of (licence_of l.core l.entry.strand l.entry.stream) - vec_capacity l.room
