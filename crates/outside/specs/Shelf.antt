-- What a fetch and a replacement do to the files and to the count of faults.
use Rattle.std.specs.Prelude.{◌≡◌, ◌≢◌, ℕ, List, Some, None, IfSome, ⊤}
use Rattle.std.specs.declared.option.Option.{Option}
use Rattle.outside.specs.declared.shelf.Fetched.{Fetched}
use Rattle.outside.specs.declared.shelf.Fetched.TheVariants as fetched
use Rattle.outside.specs.declared.shelf.Replaced.{Replaced}
use Rattle.outside.specs.declared.shelf.Replaced.TheVariants as replaced
use Rattle.outside.specs.Faults.{Rose}
use Rattle.outside.specs.Files.{Files}

-- the answer is right of these files: the file's bytes, or that there is none
abbrev pub IsFetched : Files → List ℕ → Fetched → Type 0
IsFetched files name (fetched.Found bytes) = files name ≡ Some bytes
IsFetched files name fetched.Absent = files name ≡ None
IsFetched files name fetched.Failed = ⊤
IsFetched files name fetched.NoMemory = ⊤

-- a fetch tells what the name has, and changes nothing
abbrev pub Fetches : Option Files → Option Files → List ℕ → Fetched → Type 0
Fetches old new name answer = (new ≡ old) × IfSome old (λ files. IsFetched files name answer)

-- a fetch that failed raised the count, and any other left it
abbrev pub CountsFetch : ℕ → ℕ → Fetched → Type 0
CountsFetch before now (fetched.Found bytes) = now ≡ before
CountsFetch before now fetched.Absent = now ≡ before
CountsFetch before now fetched.Failed = Rose before now
CountsFetch before now fetched.NoMemory = now ≡ before

-- the bytes stand at the name, where the replacement was carried out
abbrev pub IsStored : Files → List ℕ → List ℕ → Replaced → Type 0
IsStored files name bytes replaced.Stored = files name ≡ Some bytes
IsStored files name bytes replaced.Failed = ⊤
IsStored files name bytes replaced.NoMemory = ⊤

-- a replacement leaves all other names as they were
abbrev pub Replaces : Option Files → Option Files → List ℕ → List ℕ → Replaced → Type 0
Replaces None new name bytes answer = new ≡ None
Replaces (Some old) None name bytes answer = ⊥
Replaces (Some old) (Some new) name bytes answer = IsStored new name bytes answer × ((other : List ℕ) → other ≢ name → new other ≡ old other)

-- a replacement that failed raised the count, and any other left it
abbrev pub CountsReplace : ℕ → ℕ → Replaced → Type 0
CountsReplace before now replaced.Stored = now ≡ before
CountsReplace before now replaced.Failed = Rose before now
CountsReplace before now replaced.NoMemory = now ≡ before

-- a replacement that wanted memory raised the count of those, and any other left it
abbrev pub CountsWant : ℕ → ℕ → Replaced → Type 0
CountsWant before now replaced.Stored = now ≡ before
CountsWant before now replaced.Failed = now ≡ before
CountsWant before now replaced.NoMemory = Rose before now
