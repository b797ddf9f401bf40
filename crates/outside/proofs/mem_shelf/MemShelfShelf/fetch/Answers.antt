-- A file was found, so a copy of it was due.
use Rattle.std.proofs.Common.{arith}
use Rattle.std.proofs.lemmas.Grind.{common_steps}
use Rattle.outside.proofs.mem_shelf.MemShelfShelf.fetch.Goals as goal
use Rattle.outside.proofs.mem_shelf.MemShelfShelf.fetch.Goals.{in-Ok, in-Err}

pub returns-clause-answer : goal.returns-clause-answer
returns-clause-answer c =
    elim c.match-from_slice.branch [
      | in-Ok w ↦ grind (arith, common_steps)
      | in-Err w ↦ rw w.result-is (c.in-Some.file.now.bytes, grind (arith, common_steps))
    ]
