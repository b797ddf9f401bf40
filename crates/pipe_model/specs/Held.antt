-- The bytes that a record holds by itself, or as a part of what it holds with others.
use Rattle.std.specs.Prelude.{ℕ, ◌+◌, ◌≤◌, List, length, drop, take}
use Rattle.std.specs.Arc.{arc_value}
use Rattle.pipe_model.specs.declared.record.Bytes.{Bytes}
use Rattle.pipe_model.specs.declared.record.Bytes.TheVariants.{Own, Shared}

abbrev pub bytes_held : Bytes → List ℕ
bytes_held (Own bytes) = bytes.items
bytes_held (Shared whole start count) = take count (drop start (arc_value whole).items)

-- the part is within the bytes
abbrev pub IsHolding : Bytes → Type 0
IsHolding (Own bytes) = Unit {0}
IsHolding (Shared whole start count) = start + count ≤ length (arc_value whole).items
