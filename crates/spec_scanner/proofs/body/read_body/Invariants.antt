use Rattle.std.proofs.Common.{◌-◌, ◌≤◌, drop, length}
use Rattle.spec_scanner.proofs.Bodies.{Lead}
use Rattle.spec_scanner.proofs.body.read_body.Given as goal

abbrev pub invariant-loop-item : goal.invariant-loop-item
invariant-loop-item l = record { within : l.at ≤ length l.text; lead : Lead l.signs l.start (drop l.start l.text) l.items.items l.at (drop l.at l.text) }

abbrev pub decreases-loop-item : goal.decreases-loop-item
decreases-loop-item l = length l.text - l.at
