-- The doors so far and those to come are the doors of all strands, and so it is with their inputs.
use Rattle.std.proofs.Common.{◌≡◌, ◌≤◌, ◌+◌, ◌*◌, ◌++◌, length, drop}
use Rattle.run_desk.specs.Blank.{doors_from, inputs_in}
use Rattle.run_desk.proofs.blank.close_doors.Given as goal

abbrev pub invariant-loop-strand : goal.invariant-loop-strand
invariant-loop-strand l =
    (length l.doors.items ≡ l.strand-index) × (l.doors.items ++ doors_from l.strand-index l.inputs (drop l.strand-index l.strands) ≡ doors_from 0 0 l.strands)
    × (l.inputs + inputs_in (drop l.strand-index l.strands) ≡ inputs_in l.strands) × (l.inputs ≤ 65535 * l.strand-index)
