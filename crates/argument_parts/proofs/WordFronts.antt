-- A text that begins as a range or a number does begins with a word that is no string.
use Rattle.std.proofs.Common.{◌≡◌, ◌≢◌, ℕ, true, List, [], ◌∷◌, ◌++◌, get_or, refl, sym, ap, ◌∙◌, arith, inl, inr, append-nil}
use Rattle.std.specs.Char.{is_ascii_alphanumeric, is_ascii_digit, to_ascii_lowercase}
use Rattle.std.proofs.lemmas.Bool.Decides.{nat_tests}
use Rattle.std.proofs.lemmas.List.{append_assoc}
use Rattle.pipe_model.specs.declared.range.Range.{Range}
use Rattle.pipe_model.specs.declared.range.Span.{Span}
use Rattle.pipe_model.specs.declared.range.Span.TheVariants.{Columns, Words, Fields}
use Rattle.argument_parts.proofs.Letters.{spelling_begins}
use Rattle.argument_parts.proofs.OneFronts.{fields_begin, no_empty_name, words_begin}
use Rattle.argument_parts.proofs.OneSpellings.{spelling_filled}
use Rattle.argument_parts.specs.Numbers.{IsNumber}
use Rattle.argument_parts.specs.Ranges.{IsSpelling}
use Rattle.argument_parts.specs.RangeWords.{IsApart, IsJoined, IsRange, IsRangeMisfit}
use Rattle.argument_parts.specs.SpanNames.{IsSpanName}
use Rattle.argument_parts.specs.Strings.{IsOtherWord}
use Rattle.pipe_model.specs.Words.{IsFirstWord}
use Rattle.argument_parts.specs.declared.part.TextFault.{TextFault}
use Rattle.argument_parts.specs.declared.ranges.Ending.TheVariants.{Alone}
use Rattle.argument_parts.specs.declared.ranges.Spelling.{Spelling}

-- a byte that begins a word which is no string
abbrev IsOtherByte : ℕ → Type 0
IsOtherByte byte = (is_ascii_alphanumeric byte ≡ true) × (byte ≢ 120)

digit_other : (byte : ℕ) → is_ascii_digit byte ≡ true → IsOtherByte byte
digit_other byte is = grind (arith, nat_tests)

w_other : (byte : ℕ) → to_ascii_lowercase byte ≡ 119 → IsOtherByte byte
w_other byte is = grind (arith, nat_tests)

f_other : (byte : ℕ) → to_ascii_lowercase byte ≡ 102 → IsOtherByte byte
f_other byte is = grind (arith, nat_tests)

-- a word that says what is counted begins so
name_other : (byte : ℕ) (name : List ℕ) (span : Span) → IsSpanName (byte ∷ name) span → IsOtherByte byte
name_other byte name Columns names = absurd names
name_other byte name Words names = w_other byte (words_begin (byte ∷ name) names)
name_other byte name Fields names = f_other byte (fields_begin (byte ∷ name) names)

-- a text that begins so
begins_other : (text bytes : List ℕ) (byte : ℕ) → text ≡ byte ∷ bytes → IsOtherByte byte → IsOtherWord text
begins_other text bytes byte is other =
    let front : get_or text 0 0 ≡ byte = ap (λ bytes. get_or bytes 0 0) is in
    record { begins = ap is_ascii_alphanumeric front ∙ other.0; other = λ same. other.1 (sym front ∙ same) }

spelled_other : (text word rest : List ℕ) (spelling : Spelling) → text ≡ word ++ rest → IsSpelling word spelling → IsOtherWord text
spelled_other text [] rest spelling is spelled = absurd (omega (arith, spelling_filled [] spelling spelled))
spelled_other text (byte ∷ word) rest spelling is spelled = begins_other text (word ++ rest) byte is (digit_other byte (spelling_begins (byte ∷ word) spelling spelled))

named_other : (text name after : List ℕ) (span : Span) → text ≡ name ++ after → IsSpanName name span → IsOtherWord text
named_other text [] after span is names = absurd (no_empty_name span names)
named_other text (byte ∷ name) after span is names = begins_other text (name ++ after) byte is (name_other byte name span names)

joined_other : (text name numbers rest : List ℕ) (span : Span) → IsJoined text name numbers rest span → IsOtherWord text
joined_other text name numbers rest span joined =
    named_other text name (numbers ++ rest) span (joined.first.spells ∙ ap (λ word. word ++ rest) joined.spells ∙ append_assoc name numbers rest) joined.names

apart_other : (text front : List ℕ) (span : Span) → IsApart text front span → IsOtherWord text
apart_other text front span apart = named_other text apart.name apart.after span apart.first.spells apart.names

-- a text that begins as a range does isn't a string and has no fault of a string
pub range_other : (text : List ℕ) (range : Range) (rest : List ℕ) → IsRange text range rest → IsOtherWord text
range_other text range rest (inl is) = spelled_other text is.word rest is.range_is.spelling is.first.spells is.range_is.spelled
range_other text range rest (inr (inl is)) = joined_other text is.name is.numbers rest is.span is.joined
range_other text range rest (inr (inr is)) = apart_other text is.front is.span is.apart

pub misfit_other : (text : List ℕ) (fault : TextFault) → IsRangeMisfit text fault → IsOtherWord text
misfit_other text fault (inl is) = spelled_other text is.word is.rest is.misfit.spelling is.first.spells is.misfit.spelled
misfit_other text fault (inr (inl is)) = joined_other text is.name is.numbers is.rest is.span is.joined
misfit_other text fault (inr (inr (inl is))) = apart_other text is.front is.span is.apart
misfit_other text fault (inr (inr (inr (inl is)))) = apart_other text is.front is.span is.apart
misfit_other text fault (inr (inr (inr (inr is)))) = apart_other text [] is.span is.apart

-- a text whose first word is a number isn't a string and has no fault of a string
pub counted_other : (text word rest : List ℕ) (value : ℕ) → IsFirstWord text word rest → IsNumber word value → IsOtherWord text
counted_other text word rest value first counts =
    spelled_other text word rest (record { first = value; ending = Alone }) first.spells (record { number = word; after = []; spells = sym (append-nil word); counts = counts; ends = refl })
