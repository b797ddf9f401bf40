-- What a write does to the bytes that were written and to the count of faults.
use Rattle.std.specs.Prelude.{◌≡◌, ℕ, ◌≤◌, List, length, take}
use Rattle.std.specs.Io.KnownBytes.{Appends, Keeps}
use Rattle.std.specs.declared.option.Option.{Option}
use Rattle.outside.specs.declared.sink.WriteAnswer.{WriteAnswer}
use Rattle.outside.specs.declared.sink.WriteAnswer.TheVariants.{Took, Failed}
use Rattle.outside.specs.Faults.{Rose}

-- a write took one or more bytes of the piece's front, or nothing, since it failed
abbrev pub Writes : Option (List ℕ) → Option (List ℕ) → WriteAnswer → List ℕ → Type 0
Writes old new (Took n) piece = (1 ≤ n) × (n ≤ length piece) × Appends old new (take n piece)
Writes old new Failed piece = Keeps old new

-- a write that failed raised the count, and any other left it
abbrev pub CountsWrite : ℕ → ℕ → WriteAnswer → Type 0
CountsWrite before now (Took n) = now ≡ before
CountsWrite before now Failed = Rose before now
