-- A file that is put among files.
use Rattle.std.proofs.Common.{◌≡◌, ◌≢◌, ℕ, List, [], ◌∷◌, ◌++◌, arith, refl}
use Rattle.std.specs.Prelude.{Some, position, slice_set}
use Rattle.std.specs.Option.{option_map_or}
use Rattle.std.proofs.lemmas.Grind.{common_steps}
use Rattle.std.proofs.lemmas.Slice.Eq.{bytes_eq-Decides}
use Rattle.outside.specs.declared.mem_shelf.File.{File}
use Rattle.outside.specs.InMemory.{is_named, files_of, put_file}

-- the place is the first of the name, or the end
pub put_file_at_place : (files : List File) (file : File) → put_file files file ≡ option_map_or (λ k. slice_set files k file) (position (is_named file.name) files) (files ++ file ∷ [])
put_file_at_place [] file = refl
put_file_at_place (old ∷ rest) file = grind (arith, common_steps, put_file_at_place rest file)

-- the name has the bytes
pub named_file_is_put : (files : List File) (file : File) → files_of (put_file files file) file.name ≡ Some file.bytes
named_file_is_put [] file = grind (arith, common_steps, bytes_eq-Decides file.name file.name)
named_file_is_put (old ∷ rest) file = grind (arith, common_steps, named_file_is_put rest file, bytes_eq-Decides file.name file.name)

-- every other name has what it had
pub other_files_stay : (files : List File) (file : File) (other : List ℕ) → other ≢ file.name → files_of (put_file files file) other ≡ files_of files other
other_files_stay [] file other apart = grind (arith, common_steps, bytes_eq-Decides file.name other)
other_files_stay (old ∷ rest) file other apart = grind (arith, common_steps, other_files_stay rest file other apart, bytes_eq-Decides file.name other, bytes_eq-Decides old.name file.name, bytes_eq-Decides old.name other)
