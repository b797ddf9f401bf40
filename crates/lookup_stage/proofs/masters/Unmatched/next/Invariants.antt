-- What is left stays, but for masters that a detail matched.
use Rattle.std.proofs.Common.{◌≡◌, length}
use Rattle.lookup_stage.proofs.Entries.{left_of}
use Rattle.lookup_stage.proofs.masters.Unmatched.next.Given as goal

abbrev pub invariant-loop-master : goal.invariant-loop-master
invariant-loop-master l = left_of l.self-inside.masters ≡ left_of l.initial.self-inside.masters

abbrev pub decreases-loop-master : goal.decreases-loop-master
decreases-loop-master l = length l.self-inside.masters
