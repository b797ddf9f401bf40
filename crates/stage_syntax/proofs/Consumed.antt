-- An argument is spelled by one byte at least.
use Rattle.std.proofs.Common.{◌≢◌, ℕ, ◌+◌, ◌<◌, ◌≤◌, List, [], ◌∷◌, ◌++◌, length, get_or, replicate, ap, ◌∙◌, arith, inl, inr, length-append}
use Rattle.pipe_model.specs.declared.kind.Times.{Times}
use Rattle.pipe_model.specs.declared.kind.Times.TheVariants.{Only, All}
use Rattle.pipe_model.specs.declared.items.Spot.{Spot}
use Rattle.pipe_model.specs.declared.items.Spot.TheVariants.{Column, Next, NextWord}
use Rattle.pipe_model.specs.declared.range.Range.{Range}
use Rattle.argument_parts.specs.Parts.{AreTimes, IsFirstPart, IsNext, IsPart}
use Rattle.argument_parts.specs.PairsOfStrings.{AreStrings, IsAnyString}
use Rattle.argument_parts.specs.RangeWords.{IsRange}
use Rattle.argument_parts.specs.Spots.{IsSpot}
use Rattle.argument_parts.specs.Strings.{IsDelimited, IsHexadecimalWord, IsString}
use Rattle.pipe_model.specs.Words.{IsFirstWord, IsUnblanked}
use Rattle.argument_parts.specs.declared.part.Part.{Part}
use Rattle.argument_parts.specs.declared.part.Part.TheVariants as Asked
use Rattle.argument_parts.specs.declared.part.Value.{Value}

-- what stands after blanks isn't longer
unblanked_within : (text rest : List ℕ) → IsUnblanked text rest → length rest ≤ length text
unblanked_within text rest unblanked = omega (arith, ap length unblanked.spells, length-append (replicate unblanked.blanks 32) rest)

rest_within : (text word rest : List ℕ) → IsFirstWord text word rest → length rest ≤ length text
rest_within text word rest first = omega (arith, ap length first.spells, length-append word rest)

delimited_takes : (text string rest : List ℕ) → IsDelimited text string rest → length rest < length text
delimited_takes text string rest is = omega (arith, ap length is.spells, length-append string (is.delimiter ∷ rest))

module _ (text : List ℕ) (some : 0 < length text) (other : get_or text 0 0 ≢ 32) where
  -- a text that doesn't begin with a blank
  begins : (text : List ℕ) → 0 < length text → get_or text 0 0 ≢ 32 → get_or text 0 32 ≢ 32
  begins [] some other = absurd (omega (arith, some))
  begins (byte ∷ text) some other = other

  -- has a first word
  word_takes : (word rest : List ℕ) → IsFirstWord text word rest → length rest < length text
  word_takes [] rest first = absurd (begins text some other (ap (λ bytes. get_or bytes 0 32) first.spells ∙ first.stops))
  word_takes (byte ∷ word) rest first = omega (arith, ap length first.spells, length-append (byte ∷ word) rest)

  hexadecimal_takes : (string rest : List ℕ) → IsHexadecimalWord text string rest → length rest < length text
  hexadecimal_takes string rest is = word_takes is.word rest is.first

  string_takes : (string rest : List ℕ) → IsString text string rest → length rest < length text
  string_takes string rest (inl is) = delimited_takes text string rest is.0
  string_takes string rest (inr is) = hexadecimal_takes string rest is

  any_string_takes : (string rest : List ℕ) → IsAnyString text string rest → length rest < length text
  any_string_takes string rest (inl is) = delimited_takes text string rest is
  any_string_takes string rest (inr is) = hexadecimal_takes string rest is

  range_takes : (range : Range) (rest : List ℕ) → IsRange text range rest → length rest < length text
  range_takes range rest (inl is) = word_takes is.word rest is.first
  range_takes range rest (inr (inl is)) = word_takes is.joined.word rest is.joined.first
  range_takes range rest (inr (inr is)) =
      omega (arith, word_takes is.apart.name is.apart.after is.apart.first, unblanked_within is.apart.after is.front is.apart.unblanked, rest_within is.front is.word rest is.first)

  times_takes : (times : Times) (rest : List ℕ) → AreTimes text times rest → length rest < length text
  times_takes (Only n) rest is = word_takes is.word rest is.first
  times_takes All rest is = word_takes (42 ∷ []) rest is

  spot_takes : (spot : Spot) (rest : List ℕ) → IsSpot text spot rest → length rest < length text
  spot_takes (Column first len) rest is = word_takes is.word rest is.first_is
  spot_takes (Next len) rest is = word_takes is.word rest is.first_is
  spot_takes (NextWord len) rest is = word_takes is.word rest is.first_is

-- a string isn't longer than the text
any_string_within : (text string rest : List ℕ) → IsAnyString text string rest → length rest ≤ length text
any_string_within text string rest (inl is) = omega (arith, delimited_takes text string rest is)
any_string_within text string rest (inr is) = rest_within text is.word rest is.first

module _ (text : List ℕ) (some : 0 < length text) (other : get_or text 0 0 ≢ 32) where
  pair_takes : (first second rest : List ℕ) → AreStrings text first second rest → length rest < length text
  pair_takes first second rest (inl is) =
      omega (arith, ap length is.spells, length-append first (is.delimiter ∷ second ++ (is.delimiter ∷ rest)), length-append second (is.delimiter ∷ rest))
  pair_takes first second rest (inr is) =
      omega (arith, hexadecimal_takes text some other first is.before.after is.before.hexadecimal, unblanked_within is.before.after is.front is.before.unblanked, any_string_within is.front second rest is.string)

  part_takes : (part : Part) (value : Value) (rest : List ℕ) → IsPart part text value rest → length rest < length text
  part_takes Asked.Range value rest is = range_takes text some other is.0 rest is.2
  part_takes Asked.Columns value rest is = range_takes text some other is.0 rest (inl is.2)
  part_takes Asked.String value rest is = string_takes text some other is.0 rest is.2
  part_takes Asked.AnyString value rest is = any_string_takes text some other is.0 rest is.2
  part_takes Asked.Strings value rest is = pair_takes is.0 is.1 rest is.3
  part_takes Asked.Byte value rest is = string_takes text some other (is.0 ∷ []) rest is.2
  part_takes (Asked.Number least most) value rest is = word_takes text some other is.2.word rest is.2.first
  part_takes Asked.Times value rest is = times_takes text some other is.0 rest is.2
  part_takes (Asked.Word key) value rest is = word_takes text some other is.1.word rest is.1.first
  part_takes Asked.Name value rest is = word_takes text some other is.0 rest is.2.first
  part_takes Asked.Counter value rest is = word_takes text some other (35 ∷ ((48 + is.0) ∷ [])) rest is.2.first
  part_takes Asked.Whole value rest is = word_takes text some other is.2.word rest is.2.first
  part_takes Asked.Spot value rest is = spot_takes text some other is.0 rest is.2

  pub first_takes : (parts : List Part) (value : Value) (rest : List ℕ) → IsFirstPart parts text value rest → length rest < length text
  first_takes [] value rest is = absurd is
  first_takes (part ∷ parts) value rest (inl is) = part_takes part value rest is
  first_takes (part ∷ parts) value rest (inr is) = first_takes parts value rest is.1

pub next_takes : (parts : List Part) (text : List ℕ) (value : Value) (rest : List ℕ) → IsNext parts text value rest → length rest < length text
next_takes parts text value rest next =
    omega (arith, first_takes next.front next.some next.unblanked.other parts value rest next.part, unblanked_within text next.front next.unblanked)
