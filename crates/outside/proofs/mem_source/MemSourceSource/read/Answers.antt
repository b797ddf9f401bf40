-- The piece that was given and what is left are what was left.
use Rattle.std.proofs.Common.{arith}
use Rattle.std.proofs.lemmas.Grind.{common_steps}
use Rattle.outside.proofs.GivenBytes.{given_and_left}
use Rattle.outside.proofs.mem_source.MemSourceSource.read.Goals as goal

pub returns-clause-bytes : goal.returns-clause-bytes
returns-clause-bytes c = (grind (arith, common_steps), grind (arith, common_steps), grind (arith, common_steps, given_and_left))
