-- The strands so far meet what they owe.
use Rattle.std.proofs.Common.{◌≡◌, ℕ, ◌<◌, Some}
use Rattle.pipe_model.specs.declared.net.Strand.{Strand}
use Rattle.pipe_model.specs.Settled.{Meets}
use Rattle.pipe_model.specs.State.{strand_in}
use Rattle.pipe_model.specs.Table.{form}
use Rattle.braid_check.proofs.answer.first_loose.Given as goal

abbrev pub invariant-loop-strand : goal.invariant-loop-strand
invariant-loop-strand l = (t : ℕ) (q : Strand) → t < l.strand → strand_in l.net t ≡ Some q → Meets l.net t (form q).meeting
