-- A text that doesn't begin as a part does.
use Rattle.std.proofs.Common.{ℕ, List, refl}
use Rattle.argument_parts.specs.Keywords.{IsKeyword}
use Rattle.argument_parts.specs.Parts.{IsNoPart, IsPart}
use Rattle.argument_parts.specs.RangeWords.{IsNoRange, IsUnspelled}
use Rattle.argument_parts.specs.Spots.{IsNoSpot}
use Rattle.argument_parts.specs.WholeNumbers.{IsCounter, IsNoWhole}
use Rattle.argument_parts.specs.Refusals.{Wants}
use Rattle.argument_parts.specs.Strings.{IsString}
use Rattle.argument_parts.specs.declared.part.Part.TheVariants as Asked
use Rattle.argument_parts.specs.declared.part.Value.{Value}
use Rattle.argument_parts.specs.declared.part.Value.TheVariants as Read
use Rattle.argument_parts.specs.declared.refusal.Refusal.{Refusal}
use Rattle.argument_parts.specs.declared.refusal.Refusal.TheVariants.{Fault, NoMemory}
use Rattle.argument_parts.specs.declared.part.Word.{Word}

pub no_range_part : (text : List ℕ) → IsNoRange text → IsNoPart Asked.Range text
no_range_part text none = (λ value rest is. none.none is.0 rest is.2, none.no_misfit)

pub no_columns_part : (text : List ℕ) → IsUnspelled text → IsNoPart Asked.Columns text
no_columns_part text none = (λ value rest is. none is.2.word rest is.2.range_is.spelling is.2.first is.2.range_is.spelled, λ fault misfit. none misfit.word misfit.rest misfit.misfit.spelling misfit.first misfit.misfit.spelled)

pub no_word_part : (text : List ℕ) (key : Word) → ((rest : List ℕ) → ¬ IsKeyword text key rest) → IsNoPart (Asked.Word key) text
no_word_part text key none = (λ value rest is. none rest is.1, λ fault misfit. misfit)

pub no_counter_part : (text : List ℕ) → ((k : ℕ) (rest : List ℕ) → ¬ IsCounter text k rest) → IsNoPart Asked.Counter text
no_counter_part text none = (λ value rest is. none is.0 rest is.2, λ fault misfit. misfit)

pub no_whole_part : (text : List ℕ) → IsNoWhole text → IsNoPart Asked.Whole text
no_whole_part text none = (λ value rest is. none is.2.word rest is.0 is.2.first is.2.counts, λ fault misfit. none misfit.word misfit.rest misfit.value misfit.first misfit.counts)

pub no_spot_part : (text : List ℕ) → IsNoSpot text → IsNoPart Asked.Spot text
no_spot_part text none = (λ value rest is. none.none is.0 rest is.2, none.no_misfit)

-- memory is wanted for a string
pub string_wanted : (text : List ℕ) (refusal : Refusal) → Wants ((string : List ℕ) × (rest : List ℕ) × IsString text string rest) refusal → Wants ((value : Value) × (rest : List ℕ) × IsPart Asked.String text value rest) refusal
string_wanted text (Fault fault) wants = tt
string_wanted text NoMemory wants = (Read.String wants.0, wants.1, (wants.0, refl, wants.2))
