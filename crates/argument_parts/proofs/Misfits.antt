-- A spelling that is a range is no misfit.
use Rattle.std.proofs.Common.{ℕ, arith, Option}
use Rattle.pipe_model.specs.declared.range.Span.{Span}
use Rattle.pipe_model.specs.declared.range.Range.{Range}
use Rattle.argument_parts.specs.declared.bounds.Misfit.{Misfit}
use Rattle.argument_parts.specs.declared.bounds.Misfit.TheVariants.{First, Second, Reversed}
use Rattle.argument_parts.specs.declared.ranges.Ending.{Ending}
use Rattle.argument_parts.specs.declared.ranges.Ending.TheVariants.{Alone, To, Open, Long}
use Rattle.argument_parts.specs.declared.ranges.Spelling.{Spelling}
use Rattle.argument_parts.specs.Bounds.{IsLast, IsMisfit, IsRangeOf, IsReversed, IsSecondMisfit}

-- a last number is in range
last_fits : (first : ℕ) (ending : Ending) (last : Option ℕ) → IsLast first ending last → ¬ IsSecondMisfit ending
last_fits first Alone last is misfit = misfit
last_fits first (To number) last is misfit = misfit is.0
last_fits first Open last is misfit = misfit
last_fits first (Long len) last is misfit = misfit is.0

-- a last number isn't less than the first
last_above : (first : ℕ) (ending : Ending) (last : Option ℕ) → IsLast first ending last → ¬ IsReversed first ending
last_above first Alone last is reversed = reversed
last_above first (To number) last is reversed = omega (arith, is.1, reversed.1)
last_above first Open last is reversed = reversed
last_above first (Long len) last is reversed = reversed

-- a range is no misfit
pub no_misfit_at : (span : Span) (spelling : Spelling) (range : Range) (misfit : Misfit) → IsRangeOf span spelling range → ¬ IsMisfit spelling misfit
no_misfit_at span spelling range First is misfit = misfit is.fits
no_misfit_at span spelling range Second is misfit = last_fits spelling.first spelling.ending range.last is.ends misfit.1
no_misfit_at span spelling range Reversed is misfit = last_above spelling.first spelling.ending range.last is.ends misfit.1
