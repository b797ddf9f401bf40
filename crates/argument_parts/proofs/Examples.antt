-- Worked cases of the definitions.
use Rattle.std.proofs.Common.{◌≡◌, refl, codes, arith, Some}
use Rattle.hex.proofs.OnLiterals.{hex_on_literals}
use Rattle.pipe_model.specs.declared.range.Span.TheVariants.{Columns}
use Rattle.argument_parts.specs.Bounds.{IsRangeOf, IsMisfit}
use Rattle.argument_parts.specs.Numbers.{IsNumber, decimal}
use Rattle.argument_parts.specs.Ranges.{IsSpelling}
use Rattle.argument_parts.specs.Strings.{IsHexadecimal}
use Rattle.pipe_model.specs.Words.{IsUnblanked}
use Rattle.argument_parts.specs.declared.bounds.Misfit.TheVariants.{Second, Reversed}
use Rattle.argument_parts.specs.declared.ranges.Ending.TheVariants.{To, Long}

-- 0120 is 120
leading_zeros : decimal (codes "0120") ≡ 120
leading_zeros = refl

-- ten digits are a number
ten_digits : IsNumber (codes "4294967296") 4294967296
ten_digits = record { some = omega arith; few = omega arith; digits = refl; worth = refl }

-- two blanks are passed
unblanked : IsUnblanked (codes "  a b") (codes "a b")
unblanked = record { blanks = 2; spells = refl; other = λ same. omega arith }

-- 5-30 is spelled from 5 to 30
spelled : IsSpelling (codes "5-30") (record { first = 5; ending = To 30 })
spelled = record {
  number = codes "5";
  after = codes "-30";
  spells = refl;
  counts = record { some = omega arith; few = omega arith; digits = refl; worth = refl };
  ends = (codes "30", refl, record { some = omega arith; few = omega arith; digits = refl; worth = refl });
}

-- 5.3 is from 5 to 7
long_range : IsRangeOf Columns (record { first = 5; ending = Long 3 }) (record { span = Columns; first = 5; last = Some 7 })
long_range = record { of_span = refl; fits = (omega arith, omega arith); begins = refl; ends = ((omega arith, omega arith), refl) }

-- 5-3 is reversed, and 5-0 is out of range at its second number
reversed_range : IsMisfit (record { first = 5; ending = To 3 }) Reversed
reversed_range = ((omega arith, omega arith), ((omega arith, omega arith), omega arith))

nought_last : IsMisfit (record { first = 5; ending = To 0 }) Second
nought_last = ((omega arith, omega arith), λ fits. omega (arith, fits.0))

-- x4A6b is the string Jk
hexadecimal_string : IsHexadecimal (codes "x4A6b") (codes "Jk")
unfolding hex_on_literals
hexadecimal_string = record { digits = codes "4A6b"; spells = refl; filled = omega arith; worth = refl }
