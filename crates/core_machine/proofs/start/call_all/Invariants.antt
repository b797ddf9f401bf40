use Rattle.std.proofs.Common.{◌≡◌, ◌-◌, ◌≤◌, length}
use Rattle.core_machine.specs.Start.{IsCalled}
use Rattle.core_machine.proofs.start.call_all.Given as goal

abbrev pub invariant-loop-strand : goal.invariant-loop-strand
invariant-loop-strand g l = IsCalled g.S.Stage.stands l.floor.net l.strand l.actors.items l.floor.desk l.floor.pool
    × (l.strand ≤ l.count) × (l.count ≡ length l.floor.net.strands) × (l.floor.net ≡ l.initial.floor.net)

abbrev pub decreases-loop-strand : goal.decreases-loop-strand
decreases-loop-strand g l = l.count - l.strand
