-- Where a range or a string may come, a delimited string is one.
use Rattle.std.proofs.Common.{ℕ, ◌<◌, List, [], ◌∷◌, length, refl, inl, inr}
use Rattle.argument_parts.proofs.StringParts.{no_any_string_of_word}
use Rattle.argument_parts.proofs.WordFronts.{range_other}
use Rattle.argument_parts.specs.Parts.{IsFirstPart, IsNot}
use Rattle.argument_parts.specs.Strings.{IsDelimited}
use Rattle.argument_parts.specs.declared.part.Part.TheVariants as Asked
use Rattle.argument_parts.specs.declared.part.Value.TheVariants as Read

-- what is delimited is no range
pub delimited_is_no_range : (text string rest : List ℕ) → IsDelimited text string rest → IsNot Asked.Range text
delimited_is_no_range text string rest is value after range = no_any_string_of_word text (range_other text range.0 after range.2) string rest (inl is)

-- it is the string
pub delimited_comes : (text string rest : List ℕ) → 0 < length string → IsDelimited text string rest → IsFirstPart (Asked.Range ∷ (Asked.String ∷ [])) text (Read.String string) rest
delimited_comes text string rest filled is = inr (delimited_is_no_range text string rest is, inl (string, refl, inl (is, filled)))
