-- What LOCATE keeps of its arguments.
use Rattle.std.specs.Prelude.{◌≡◌, ◌≤◌, ℕ, List, Option, None}
use Rattle.pipe_model.specs.declared.range.Range.{Range}
use Rattle.pipe_model.specs.declared.range.Span.TheVariants.{Columns}

pub record LocatesState : Type 0 where
  pub range : Range
  pub sought : Option (List ℕ)

-- the range is all of a record
abbrev pub IsWhole : Range → Type 0
IsWhole range = (range.span ≡ Columns) × (range.first ≤ 1) × (range.last ≡ None)
