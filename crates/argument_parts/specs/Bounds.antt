-- Which spellings are ranges: each number is 1 to 1,048,576, and the last isn't less than the first.
use Rattle.std.specs.Prelude.{◌≡◌, ℕ, ◌+◌, ◌-◌, ◌<◌, ◌≤◌}
use Rattle.std.specs.declared.option.Option.{Option}
use Rattle.std.specs.declared.option.Option.TheVariants.{Some, None}
use Rattle.pipe_model.specs.declared.range.Span.{Span}
use Rattle.pipe_model.specs.declared.range.Range.{Range}
use Rattle.argument_parts.specs.declared.bounds.Misfit.{Misfit}
use Rattle.argument_parts.specs.declared.bounds.Misfit.TheVariants.{First, Second, Reversed}
use Rattle.argument_parts.specs.declared.ranges.Ending.{Ending}
use Rattle.argument_parts.specs.declared.ranges.Ending.TheVariants.{Alone, To, Open, Long}
use Rattle.argument_parts.specs.declared.ranges.Spelling.{Spelling}

-- a range may have the number
abbrev pub Fits : ℕ → Type 0
Fits number = (1 ≤ number) × (number ≤ 1048576)

-- the last number of a range from a first one with this ending
abbrev pub IsLast : ℕ → Ending → Option ℕ → Type 0
IsLast first Alone last = last ≡ Some first
IsLast first (To number) last = Fits number × (first ≤ number) × (last ≡ Some number)
IsLast first Open last = last ≡ None
IsLast first (Long len) last = Fits len × (last ≡ Some (first + len - 1))

-- the spelling is this range
pub record IsRangeOf (span : Span) (spelling : Spelling) (range : Range) : Type 0 where
  pub of_span : range.span ≡ span
  pub fits : Fits spelling.first
  pub begins : range.first ≡ spelling.first
  pub ends : IsLast spelling.first spelling.ending range.last

-- the second number that is spelled, if there is one, is out of range
abbrev pub IsSecondMisfit : Ending → Type 0
IsSecondMisfit Alone = ⊥
IsSecondMisfit (To number) = ¬ Fits number
IsSecondMisfit Open = ⊥
IsSecondMisfit (Long len) = ¬ Fits len

-- the last number is in range and less than the first
abbrev pub IsReversed : ℕ → Ending → Type 0
IsReversed first Alone = ⊥
IsReversed first (To number) = Fits number × (number < first)
IsReversed first Open = ⊥
IsReversed first (Long len) = ⊥

-- the spelling is no range, for this reason; the first number comes before the second
abbrev pub IsMisfit : Spelling → Misfit → Type 0
IsMisfit spelling First = ¬ Fits spelling.first
IsMisfit spelling Second = Fits spelling.first × IsSecondMisfit spelling.ending
IsMisfit spelling Reversed = Fits spelling.first × IsReversed spelling.first spelling.ending
