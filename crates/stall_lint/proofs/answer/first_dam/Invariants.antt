-- None is so far.
use Rattle.stall_lint.proofs.Telling.{NoneBelow}
use Rattle.stall_lint.proofs.answer.first_dam.Given as goal

abbrev pub invariant-loop-strand : goal.invariant-loop-strand
invariant-loop-strand l = NoneBelow l.strands l.strand
