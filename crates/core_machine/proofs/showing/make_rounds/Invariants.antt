use Rattle.std.proofs.Common.{◌≡◌, ◌≤◌, ◌+◌, ◌-◌, ◌*◌, length}
use Rattle.core_machine.specs.Machine.{Machine}
use Rattle.core_machine.specs.Pairs.{AreOn}
use Rattle.core_machine.proofs.Clears.{IsClearTo}
use Rattle.core_machine.proofs.showing.make_rounds.Given as goal

-- The two are as many rounds further, from each core on from which they were where they began. So many bytes ahead are clear for the reader.
abbrev pub invariant-loop-rounds : goal.invariant-loop-rounds
invariant-loop-rounds g l =
    ((m : Machine) → AreOn g.S.Stage.stands g.S.Stage.showing m l.pair l.fn.floor l.fn.actors.items l.fn.source 0 → length m.journal + 3 * l.most ≤ m.budget →
    AreOn g.S.Stage.stands g.S.Stage.showing m l.pair l.floor l.actors.items l.source l.rounds)
    × (l.floor.net ≡ l.fn.floor.net) × (l.rounds ≤ l.most) × IsClearTo g.S.Stage.stands g.S.Stage.ahead l.actors.items l.pair.to l.source l.clear l.awaits

abbrev pub decreases-loop-rounds : goal.decreases-loop-rounds
decreases-loop-rounds g l = l.most - l.rounds
