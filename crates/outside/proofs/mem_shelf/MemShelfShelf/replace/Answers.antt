-- The file was put among the shelf's files.
use Rattle.std.proofs.Common.{arith}
use Rattle.std.proofs.lemmas.Grind.{common_steps}
use Rattle.outside.proofs.FilePuts.{named_file_is_put, other_files_stay}
use Rattle.outside.proofs.mem_shelf.MemShelfShelf.replace.Goals as goal

pub returns-clause-files : goal.returns-clause-files
returns-clause-files c = (grind (arith, common_steps, named_file_is_put), λ other apart. grind (arith, common_steps, other_files_stay))
