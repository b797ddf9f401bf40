-- What a read does to the bytes that are left and to the count of faults.
use Rattle.std.specs.Prelude.{◌≡◌, ℕ, ◌≤◌, List, length, take}
use Rattle.std.specs.Io.KnownBytes.{Consumes, Keeps, IsAtEnd}
use Rattle.std.specs.declared.option.Option.{Option}
use Rattle.outside.specs.declared.source.ReadAnswer.{ReadAnswer}
use Rattle.outside.specs.declared.source.ReadAnswer.TheVariants.{Bytes, End, Failed}
use Rattle.outside.specs.Faults.{Rose}

-- a read gave one or more bytes at the front of the room, the first of those left; or nothing, where no byte is left; or nothing, since it failed
abbrev pub Reads : Option (List ℕ) → Option (List ℕ) → ReadAnswer → List ℕ → Type 0
Reads old new (Bytes n) room = (1 ≤ n) × (n ≤ length room) × Consumes old new (take n room)
Reads old new End room = Keeps old new × IsAtEnd new
Reads old new Failed room = Keeps old new

-- a read that failed raised the count, and any other left it
abbrev pub CountsRead : ℕ → ℕ → ReadAnswer → Type 0
CountsRead before now (Bytes n) = now ≡ before
CountsRead before now End = now ≡ before
CountsRead before now Failed = Rose before now
