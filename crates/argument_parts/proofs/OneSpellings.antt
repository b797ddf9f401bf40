-- A word is one spelling, one range, and has one fault.
use Rattle.std.proofs.Common.{◌≡◌, ℕ, ◌+◌, ◌<◌, true, false, List, [], ◌∷◌, length, get_or, Option, refl, sym, ap, ◌∙◌, subst, arith, length-append}
use Rattle.pipe_model.specs.declared.range.Range.{Range}
use Rattle.pipe_model.specs.declared.range.Span.{Span}
use Rattle.argument_parts.proofs.Misfits.{no_misfit_at}
use Rattle.argument_parts.proofs.Spellings.{ends_stop, same_parts}
use Rattle.argument_parts.specs.Bounds.{IsLast, IsMisfit, IsRangeOf, IsReversed, IsSecondMisfit}
use Rattle.argument_parts.specs.Numbers.{IsNumber, decimal}
use Rattle.argument_parts.specs.PlainRanges.{IsPlainRange, IsRangeFault, fault_of}
use Rattle.argument_parts.specs.Ranges.{Ends, IsSpelling}
use Rattle.argument_parts.specs.declared.bounds.Misfit.{Misfit}
use Rattle.argument_parts.specs.declared.bounds.Misfit.TheVariants.{First, Second, Reversed}
use Rattle.argument_parts.specs.declared.ranges.Ending.{Ending}
use Rattle.argument_parts.specs.declared.ranges.Ending.TheVariants.{Alone, To, Open, Long}
use Rattle.argument_parts.specs.declared.ranges.Spelling.{Spelling}
use Rattle.argument_parts.specs.declared.spelled.WordFault.{WordFault}

-- the word that is spelled isn't empty
pub spelling_filled : (word : List ℕ) (spelling : Spelling) → IsSpelling word spelling → 0 < length word
spelling_filled word spelling spelled = omega (arith, spelled.counts.some, ap length spelled.spells, length-append spelled.number spelled.after)

-- digits have one value
pub one_value : (digits other : List ℕ) (a b : ℕ) → digits ≡ other → IsNumber digits a → IsNumber other b → a ≡ b
one_value digits other a b same first second = first.worth ∙ ap decimal same ∙ sym second.worth

-- an asterisk is no number
no_star : (digits : List ℕ) (value : ℕ) → digits ≡ 42 ∷ [] → ¬ IsNumber digits value
no_star digits value is number = let all : false ≡ true = (subst (λ b. IsNumber b value) is number).digits in cc

-- what is spelled after the first number is one ending
one_ending : (after : List ℕ) (a b : Ending) → Ends after a → Ends after b → a ≡ b
one_ending after Alone Alone first second = refl
one_ending after Alone (To m) first second = absurd (omega (arith, ap (λ bytes. get_or bytes 0 0) (sym first ∙ second.1)))
one_ending after Alone Open first second = absurd (omega (arith, ap (λ bytes. get_or bytes 0 0) (sym first ∙ second)))
one_ending after Alone (Long m) first second = absurd (omega (arith, ap (λ bytes. get_or bytes 0 0) (sym first ∙ second.1)))
one_ending after (To n) Alone first second = absurd (omega (arith, ap (λ bytes. get_or bytes 0 0) (sym first.1 ∙ second)))
one_ending after (To n) (To m) first second =
    let both = sym first.1 ∙ second.1 in
    let digits : first.0 ≡ second.0 = cc in
    ap To (one_value first.0 second.0 n m digits first.2 second.2)
one_ending after (To n) Open first second =
    let both = sym first.1 ∙ second in
    let star : first.0 ≡ 42 ∷ [] = cc in
    absurd (no_star first.0 n star first.2)
one_ending after (To n) (Long m) first second = absurd (omega (arith, ap (λ bytes. get_or bytes 0 0) (sym first.1 ∙ second.1)))
one_ending after Open Alone first second = absurd (omega (arith, ap (λ bytes. get_or bytes 0 0) (sym first ∙ second)))
one_ending after Open (To m) first second =
    let both = sym second.1 ∙ first in
    let star : second.0 ≡ 42 ∷ [] = cc in
    absurd (no_star second.0 m star second.2)
one_ending after Open Open first second = refl
one_ending after Open (Long m) first second = absurd (omega (arith, ap (λ bytes. get_or bytes 0 0) (sym first ∙ second.1)))
one_ending after (Long n) Alone first second = absurd (omega (arith, ap (λ bytes. get_or bytes 0 0) (sym first.1 ∙ second)))
one_ending after (Long n) (To m) first second = absurd (omega (arith, ap (λ bytes. get_or bytes 0 0) (sym first.1 ∙ second.1)))
one_ending after (Long n) Open first second = absurd (omega (arith, ap (λ bytes. get_or bytes 0 0) (sym first.1 ∙ second)))
one_ending after (Long n) (Long m) first second =
    let both = sym first.1 ∙ second.1 in
    let digits : first.0 ≡ second.0 = cc in
    ap Long (one_value first.0 second.0 n m digits first.2 second.2)

-- two spellings of one word have one first number and one ending after it
numbers_same : (word : List ℕ) (a b : Spelling) (first : IsSpelling word a) (second : IsSpelling word b) → (first.number ≡ second.number) × (first.after ≡ second.after)
numbers_same word a b first second = same_parts word first.number first.after (record {
  spells = first.spells;
  digits_all = first.counts.digits;
  stops = ends_stop first.after a.ending first.ends;
}) b second

pub one_spelling : (word : List ℕ) (a b : Spelling) → IsSpelling word a → IsSpelling word b → a ≡ b
one_spelling word a b first second =
    let parts = numbers_same word a b first second in
    let begins : a.first ≡ b.first = one_value first.number second.number a.first b.first parts.0 first.counts second.counts in
    let ends : a.ending ≡ b.ending = one_ending first.after a.ending b.ending first.ends (subst (λ after. Ends after b.ending) (sym parts.1) second.ends) in
    ap (λ number. record { first = number; ending = a.ending }) begins ∙ ap (λ ending. record { first = b.first; ending = ending }) ends

-- a first number and an ending have one last number
one_last : (first : ℕ) (ending : Ending) (a b : Option ℕ) → IsLast first ending a → IsLast first ending b → a ≡ b
one_last first Alone a b is other = is ∙ sym other
one_last first (To number) a b is other = is.2 ∙ sym other.2
one_last first Open a b is other = is ∙ sym other
one_last first (Long len) a b is other = is.1 ∙ sym other.1

-- a word is one range
pub one_plain_range : (span : Span) (word : List ℕ) (a b : Range) → IsPlainRange span word a → IsPlainRange span word b → a ≡ b
one_plain_range span word a b first second =
    let spelling : first.spelling ≡ second.spelling = one_spelling word first.spelling second.spelling first.spelled second.spelled in
    let other : IsRangeOf span first.spelling b = subst (λ spelling. IsRangeOf span spelling b) (sym spelling) second.range_is in
    let spans : a.span ≡ b.span = first.range_is.of_span ∙ sym other.of_span in
    let firsts : a.first ≡ b.first = first.range_is.begins ∙ sym other.begins in
    let lasts : a.last ≡ b.last = one_last first.spelling.first first.spelling.ending a.last b.last first.range_is.ends other.ends in
    ap (λ span. record { span = span; first = a.first; last = a.last }) spans ∙ ap (λ number. record { span = b.span; first = number; last = a.last }) firsts ∙ ap (λ last. record { span = b.span; first = b.first; last = last }) lasts

-- a word that is a range has no fault of a range
pub no_range_fault : (span : Span) (word : List ℕ) (range : Range) (fault : WordFault) → IsPlainRange span word range → ¬ IsRangeFault word fault
no_range_fault span word range fault read misfit =
    let spelling : read.spelling ≡ misfit.spelling = one_spelling word read.spelling misfit.spelling read.spelled misfit.spelled in
    no_misfit_at span misfit.spelling range misfit.misfit (subst (λ spelling. IsRangeOf span spelling range) spelling read.range_is) misfit.misfits

-- a reversed range has no number out of range
not_both : (first : ℕ) (ending : Ending) → IsSecondMisfit ending → ¬ IsReversed first ending
not_both first Alone second reversed = reversed
not_both first (To number) second reversed = second reversed.0
not_both first Open second reversed = reversed
not_both first (Long len) second reversed = reversed

-- a spelling has one misfit
one_misfit : (spelling : Spelling) (a b : Misfit) → IsMisfit spelling a → IsMisfit spelling b → a ≡ b
one_misfit spelling First First is other = refl
one_misfit spelling First Second is other = absurd (is other.0)
one_misfit spelling First Reversed is other = absurd (is other.0)
one_misfit spelling Second First is other = absurd (other is.0)
one_misfit spelling Second Second is other = refl
one_misfit spelling Second Reversed is other = absurd (not_both spelling.first spelling.ending is.1 other.1)
one_misfit spelling Reversed First is other = absurd (other is.0)
one_misfit spelling Reversed Second is other = absurd (not_both spelling.first spelling.ending other.1 is.1)
one_misfit spelling Reversed Reversed is other = refl

-- a word has one fault of a range
pub one_range_fault : (word : List ℕ) (a b : WordFault) → IsRangeFault word a → IsRangeFault word b → a ≡ b
one_range_fault word a b first second =
    let spelling : first.spelling ≡ second.spelling = one_spelling word first.spelling second.spelling first.spelled second.spelled in
    let misfit : first.misfit ≡ second.misfit = one_misfit first.spelling first.misfit second.misfit first.misfits (subst (λ spelling. IsMisfit spelling second.misfit) (sym spelling) second.misfits) in
    let numbers = (numbers_same word first.spelling second.spelling first.spelled second.spelled).0 in
    first.fault_is ∙ ap (λ digits. fault_of (length digits + 1) first.misfit) numbers ∙ ap (fault_of (length second.spelled.number + 1)) misfit ∙ sym second.fault_is
