-- The range that a word spells, or the fault of its numbers.
use Rattle.std.specs.Prelude.{◌≡◌, ℕ, ◌+◌, List, length}
use Rattle.pipe_model.specs.declared.range.Span.{Span}
use Rattle.pipe_model.specs.declared.range.Range.{Range}
use Rattle.argument_parts.specs.declared.bounds.Misfit.{Misfit}
use Rattle.argument_parts.specs.declared.bounds.Misfit.TheVariants.{First, Second, Reversed}
use Rattle.argument_parts.specs.declared.fault.FaultKind.TheVariants.{OutOfRange, Reversed as ReversedRange}
use Rattle.argument_parts.specs.declared.ranges.Spelling.{Spelling}
use Rattle.argument_parts.specs.declared.spelled.WordFault.{WordFault}
use Rattle.argument_parts.specs.Bounds.{IsMisfit, IsRangeOf}
use Rattle.argument_parts.specs.Ranges.{IsSpelling}

-- the word spells the range
pub record IsPlainRange (span : Span) (word : List ℕ) (range : Range) : Type 0 where
  pub spelling : Spelling
  pub spelled : IsSpelling word spelling
  pub range_is : IsRangeOf span spelling range

-- a misfit is a fault at its number, of which the second begins at a place
abbrev pub fault_of : ℕ → Misfit → WordFault
fault_of second First = record { at = 0; kind = OutOfRange }
fault_of second Second = record { at = second; kind = OutOfRange }
fault_of second Reversed = record { at = second; kind = ReversedRange }

-- the word spells a range that has this fault; the second number stands one byte after the first
pub record IsRangeFault (word : List ℕ) (fault : WordFault) : Type 0 where
  pub spelling : Spelling
  pub spelled : IsSpelling word spelling
  pub misfit : Misfit
  pub misfits : IsMisfit spelling misfit
  pub fault_is : fault ≡ fault_of (length spelled.number + 1) misfit
