-- What is read of an argument is as the table wants it: a range is proper, a string isn't empty, a number is within its limits.
use Rattle.std.proofs.Common.{◌≡◌, ◌⊎◌, inl, inr, ℕ, suc, ◌+◌, ◌-◌, ◌≤◌, ◌<◌, Bool, true, List, [], ◌∷◌, ◌++◌, length, refl, sym, ◌∙◌, ap, subst, arith, append-nil, append_assoc, Option, Some, None, le-leb, lt-ltb, false, ne_eqb, length-append}
use Rattle.std.specs.Prelude.{⊤, ℤ}
use Rattle.std.specs.List.{Contains, list_all}
use Rattle.std.proofs.lemmas.List.Elements.{Contains-append_right}
use Rattle.hex.proofs.HexLemmas.{decode_of-ok}
use Rattle.std.specs.Int.{is_in_range}
use Rattle.pipe_model.specs.declared.kind.Kind.{Kind}
use Rattle.pipe_model.specs.declared.range.Range.{Range}
use Rattle.pipe_model.specs.declared.range.Span.{Span}
use Rattle.pipe_model.specs.Proper.{are_columns, greatest, is_count, is_counter, is_field_length, is_length, is_filled, is_last, is_name, is_range, is_size, is_spot}
use Rattle.pipe_model.specs.declared.items.Spot.{Spot}
use Rattle.pipe_model.specs.declared.items.Spot.TheVariants.{Column, Next, NextWord}
use Rattle.pipe_model.specs.Members.{has}
use Rattle.pipe_model.specs.declared.kind.Times.{Times}
use Rattle.pipe_model.specs.declared.kind.Times.TheVariants.{Only, All}
use Rattle.pipe_model.specs.declared.range.Span.TheVariants.{Columns}
use Rattle.argument_parts.specs.declared.part.Part.{Part}
use Rattle.argument_parts.specs.declared.part.Part.TheVariants as Asked
use Rattle.argument_parts.specs.declared.part.Value.{Value}
use Rattle.argument_parts.specs.declared.part.Value.TheVariants as Read
use Rattle.argument_parts.specs.declared.ranges.Ending.{Ending}
use Rattle.argument_parts.specs.declared.ranges.Ending.TheVariants.{Alone, To, Open, Long}
use Rattle.argument_parts.specs.declared.ranges.Spelling.{Spelling}
use Rattle.pipe_model.proofs.Truths.{both}
use Rattle.argument_parts.specs.Bounds.{Fits, IsLast, IsRangeOf}
use Rattle.argument_parts.specs.PlainRanges.{IsPlainRange}
use Rattle.stage_syntax.proofs.Consumed.{first_takes}
use Rattle.argument_parts.specs.NamesOfFiles.{IsName}
use Rattle.argument_parts.specs.Parts.{AreTimes, IsFirstPart, IsNext, IsPart}
use Rattle.argument_parts.specs.RangeWords.{IsRange}
use Rattle.stage_syntax.specs.Rows.{Makes, Row}
use Rattle.stage_syntax.specs.Rows.Makes.{Ended, GoesOn}
use Rattle.argument_parts.specs.Spots.{FitsLength, IsColumnLength, IsSpot}
use Rattle.argument_parts.specs.Strings.{IsString}

-- Ranges

in_range : (low high number : ℕ) → low ≤ number → number ≤ high → is_in_range low high number ≡ true
in_range low high number above below = rw (le-leb low number above, le-leb number high below) refl

size_of : (number : ℕ) → Fits number → is_size number ≡ true
size_of number fits = in_range 1 greatest number fits.0 fits.1

last_of : (first : ℕ) (ending : Ending) (last : Option ℕ) → Fits first → IsLast first ending last → is_last first last ≡ true
last_of first Alone last fits is = ap (is_last first) is ∙ in_range first (first + 1048575) first (omega arith) (omega arith)
last_of first (To number) last fits is = ap (is_last first) is.2 ∙ in_range first (first + 1048575) number is.1 (omega (arith, fits.0, is.0.1))
last_of first Open last fits is = ap (is_last first) is
last_of first (Long len) last fits is = ap (is_last first) is.1 ∙ in_range first (first + 1048575) _ (omega (arith, is.0.0)) (omega (arith, is.0.0, is.0.1))

range_of_spelling : (span : Span) (spelling : Spelling) (range : Range) → IsRangeOf span spelling range → is_range range ≡ true
range_of_spelling span spelling range is =
    let size = ap is_size is.begins ∙ size_of spelling.first is.fits in
    let last = ap (λ (first : ℕ). is_last first range.last) is.begins ∙ last_of spelling.first spelling.ending range.last is.fits is.ends in
    rw (size, last) refl

plain_is_proper : (span : Span) (word : List ℕ) (range : Range) → IsPlainRange span word range → is_range range ≡ true
plain_is_proper span word range is = range_of_spelling span is.spelling range is.range_is

pub range_is_proper : (text : List ℕ) (range : Range) (rest : List ℕ) → IsRange text range rest → is_range range ≡ true
range_is_proper text range rest (inl bare) = plain_is_proper _ bare.word range bare.range_is
range_is_proper text range rest (inr (inl joined)) = plain_is_proper joined.span joined.numbers range joined.range_is
range_is_proper text range rest (inr (inr apart)) = plain_is_proper apart.span apart.word range apart.range_is

-- Names

no_blank : (name : List ℕ) → ¬ Contains name 32 → has name 32 ≡ false
no_blank [] none = refl
no_blank (byte ∷ name) none =
    let other : ¬ (byte ≡ 32) = λ same. none (0, omega arith, same) in
    rw (ne_eqb byte 32 other) (no_blank name (λ found. none (Contains-append_right (byte ∷ []) name 32 found)))

name_is_proper : (text name rest : List ℕ) → length rest < length text → IsName text name rest → is_name name ≡ true
name_is_proper text name rest less is =
    let some : 1 ≤ length name = omega (arith, less, ap length is.first.spells, length-append name rest) in
    rw (in_range 1 255 (length name) some is.few, no_blank name is.first.whole) refl

-- Strings

filled : (string : List ℕ) → 0 < length string → is_filled string ≡ true
filled [] some = absurd (omega (arith, some))
filled (byte ∷ string) some = refl

pub string_is_filled : (text string rest : List ℕ) → IsString text string rest → is_filled string ≡ true
string_is_filled text string rest (inl delimited) = filled string delimited.1
string_is_filled text string rest (inr word) =
    let digits = word.worth.digits in
    filled string (omega (arith, word.worth.filled, (decode_of-ok digits string word.worth.worth).2))

-- Places of fields

column_length : (first : ℕ) (ending : Ending) (len : Option ℕ) → Fits first → IsColumnLength first ending len → is_field_length len ≡ true
column_length first Alone len fits is = ap is_field_length is
column_length first (To last) len fits is = ap is_field_length is.2 ∙ in_range 1 greatest (suc last - first) (omega (arith, is.1)) (omega (arith, fits.0, is.0.1))
column_length first Open len fits is = absurd is
column_length first (Long n) len fits is = ap is_field_length is.1 ∙ size_of n is.0

fits_length : (len : Option ℕ) → FitsLength len → is_field_length len ≡ true
fits_length None fits = refl
fits_length (Some len) fits = size_of len fits

spot_is_proper : (text : List ℕ) (spot : Spot) (rest : List ℕ) → IsSpot text spot rest → is_spot spot ≡ true
spot_is_proper text (Column first len) rest is =
    let size : is_size first ≡ true = ap is_size is.begins ∙ size_of is.spelling.first is.fits in
    rw (size, column_length is.spelling.first is.spelling.ending len is.fits is.ends) refl
spot_is_proper text (Next len) rest is = fits_length len is.fits
spot_is_proper text (NextWord len) rest is = fits_length len is.fits

-- Arguments

-- a value that the part may have
abbrev pub IsValueOf : Part → Value → Type 0
IsValueOf Asked.Range value = (range : Range) × (value ≡ Read.Range range) × (is_range range ≡ true)
IsValueOf Asked.Columns value = (range : Range) × (value ≡ Read.Range range) × (is_range range ≡ true) × (range.span ≡ Columns)
IsValueOf Asked.String value = (string : List ℕ) × (value ≡ Read.String string) × (is_filled string ≡ true)
IsValueOf Asked.AnyString value = (string : List ℕ) × (value ≡ Read.String string)
IsValueOf Asked.Strings value = (first : List ℕ) × (second : List ℕ) × (value ≡ Read.Strings first second)
IsValueOf Asked.Byte value = (byte : ℕ) × (value ≡ Read.Byte byte)
IsValueOf (Asked.Number least most) value = (number : ℕ) × (value ≡ Read.Number number) × (least ≤ number) × (number ≤ most)
IsValueOf Asked.Times value = (times : Times) × (value ≡ Read.Times times) × (is_count times ≡ true)
IsValueOf (Asked.Word key) value = value ≡ Read.Word key
IsValueOf Asked.Name value = (name : List ℕ) × (value ≡ Read.String name) × (is_name name ≡ true)
IsValueOf Asked.Counter value = (k : ℕ) × (value ≡ Read.Counter k) × (is_counter k ≡ true)
IsValueOf Asked.Whole value = (number : ℤ) × (value ≡ Read.Whole number)
IsValueOf Asked.Spot value = (spot : Spot) × (value ≡ Read.Spot spot) × (is_spot spot ≡ true)

count_is_proper : (text : List ℕ) (times : Times) (rest : List ℕ) → AreTimes text times rest → is_count times ≡ true
count_is_proper text (Only n) rest is = le-leb n 2147483647 is.few
count_is_proper text All rest is = refl

value_of : (part : Part) (text : List ℕ) (value : Value) (rest : List ℕ) → length rest < length text → IsPart part text value rest → IsValueOf part value
value_of Asked.Range text value rest less is = (is.0, is.1, range_is_proper text is.0 rest is.2)
value_of Asked.Columns text value rest less is = (is.0, is.1, plain_is_proper Columns is.2.word is.0 is.2.range_is, is.2.range_is.range_is.of_span)
value_of Asked.String text value rest less is = (is.0, is.1, string_is_filled text is.0 rest is.2)
value_of Asked.AnyString text value rest less is = (is.0, is.1)
value_of Asked.Strings text value rest less is = (is.0, is.1, is.2)
value_of Asked.Byte text value rest less is = (is.0, is.1)
value_of (Asked.Number least most) text value rest less is = (is.0, is.1, is.2.enough, is.2.few)
value_of Asked.Times text value rest less is = (is.0, is.1, count_is_proper text is.0 rest is.2)
value_of (Asked.Word key) text value rest less is = is.0
value_of Asked.Name text value rest less is = (is.0, is.1, name_is_proper text is.0 rest less is.2)
value_of Asked.Counter text value rest less is = (is.0, is.1, lt-ltb is.0 10 is.2.few)
value_of Asked.Whole text value rest less is = (is.0, is.1)
value_of Asked.Spot text value rest less is = (is.0, is.1, spot_is_proper text is.0 rest is.2)

-- a value that one of the parts may have
abbrev pub IsOfOne : List Part → Value → Type 0
IsOfOne [] value = ⊥
IsOfOne (part ∷ parts) value = IsValueOf part value ⊎ IsOfOne parts value

-- its ranges, counts, counters and places are such as a specification can name
abbrev pub is_proper : Value → Bool
is_proper (Read.Range range) = is_range range
is_proper (Read.Times times) = is_count times
is_proper (Read.Counter k) = is_counter k
is_proper (Read.Spot spot) = is_spot spot
is_proper _ = true

proper_of_part : (part : Part) (value : Value) → IsValueOf part value → is_proper value ≡ true
proper_of_part Asked.Range value is = ap is_proper is.1 ∙ is.2
proper_of_part Asked.Columns value is = ap is_proper is.1 ∙ is.2
proper_of_part Asked.String value is = ap is_proper is.1
proper_of_part Asked.AnyString value is = ap is_proper is.1
proper_of_part Asked.Strings value is = ap is_proper is.2
proper_of_part Asked.Byte value is = ap is_proper is.1
proper_of_part (Asked.Number least most) value is = ap is_proper is.1
proper_of_part Asked.Times value is = ap is_proper is.1 ∙ is.2
proper_of_part (Asked.Word key) value is = ap is_proper is
proper_of_part Asked.Name value is = ap is_proper is.1
proper_of_part Asked.Counter value is = ap is_proper is.1 ∙ is.2
proper_of_part Asked.Whole value is = ap is_proper is.1
proper_of_part Asked.Spot value is = ap is_proper is.1 ∙ is.2

-- so it is whatever else may stand there
pub proper_of_one : (parts : List Part) (value : Value) → IsOfOne parts value → is_proper value ≡ true
proper_of_one [] value is = absurd is
proper_of_one (part ∷ parts) value (inl is) = proper_of_part part value is
proper_of_one (part ∷ parts) value (inr is) = proper_of_one parts value is

pub range_of_one : (parts : List Part) (range : Range) → IsOfOne parts (Read.Range range) → is_range range ≡ true
range_of_one parts range is = proper_of_one parts (Read.Range range) is

pub times_of_one : (parts : List Part) (times : Times) → IsOfOne parts (Read.Times times) → is_count times ≡ true
times_of_one parts times is = proper_of_one parts (Read.Times times) is

-- a string that the part gives isn't empty
abbrev pub fills : Part → Bool
fills Asked.AnyString = false
fills Asked.Name = false
fills _ = true

string_of_part : (part : Part) (string : List ℕ) → fills part ≡ true → IsValueOf part (Read.String string) → is_filled string ≡ true
string_of_part Asked.Range string fill is = let value = is.1 in cc
string_of_part Asked.Columns string fill is = let value = is.1 in cc
string_of_part Asked.String string fill is = let value = is.1 in let same : is.0 ≡ string = cc in subst (λ (string : List ℕ). is_filled string ≡ true) same is.2
string_of_part Asked.AnyString string fill is = cc
string_of_part Asked.Strings string fill is = let value = is.2 in cc
string_of_part Asked.Byte string fill is = let value = is.1 in cc
string_of_part (Asked.Number least most) string fill is = let value = is.1 in cc
string_of_part Asked.Times string fill is = let value = is.1 in cc
string_of_part (Asked.Word key) string fill is = cc
string_of_part Asked.Name string fill is = cc
string_of_part Asked.Counter string fill is = let value = is.1 in cc
string_of_part Asked.Whole string fill is = let value = is.1 in cc
string_of_part Asked.Spot string fill is = let value = is.1 in cc

-- nor is one of several such parts
pub string_of_one : (parts : List Part) (string : List ℕ) → list_all fills parts ≡ true → IsOfOne parts (Read.String string) → is_filled string ≡ true
string_of_one [] string fill is = absurd is
string_of_one (part ∷ parts) string fill (inl is) = string_of_part part string (both (fills part) (list_all fills parts) fill).0 is
string_of_one (part ∷ parts) string fill (inr is) = string_of_one parts string (both (fills part) (list_all fills parts) fill).1 is

-- a count is one that can be named
pub count_of_times : (times : Times) → IsOfOne (Asked.Times ∷ []) (Read.Times times) → is_count times ≡ true
count_of_times times is = times_of_one (Asked.Times ∷ []) times is

-- a range of columns names columns, where two strings may stand in its place
pub columns_of : (range : Range) → IsOfOne (Asked.Columns ∷ (Asked.Strings ∷ [])) (Read.Range range) → are_columns range.span ≡ true
columns_of range (inl is) = let value = is.1 in let same : is.0 ≡ range = cc in subst (λ (range : Range). are_columns range.span ≡ true) same (ap are_columns is.3)
columns_of range (inr (inl is)) = let value = is.2 in cc
columns_of range (inr (inr is)) = absurd is

-- a length is none above the greatest
pub length_of : (n : ℕ) → IsOfOne (Asked.Number 0 greatest ∷ []) (Read.Number n) → is_length n ≡ true
length_of n (inl is) = let value = is.1 in let same : is.0 ≡ n = cc in le-leb n greatest (subst (λ (n : ℕ). n ≤ greatest) same is.3)
length_of n (inr is) = absurd is

-- values that a row's arguments after some others may have
abbrev pub AreOfRow : Row → List Value → List Value → Type 0
AreOfRow row before [] = ⊤
AreOfRow row before (value ∷ values) = IsOfOne (row.next before) value × AreOfRow row (before ++ value ∷ []) values

first_of_one : (parts : List Part) (text : List ℕ) (value : Value) (rest : List ℕ) → length rest < length text → IsFirstPart parts text value rest → IsOfOne parts value
first_of_one [] text value rest less is = is
first_of_one (part ∷ parts) text value rest less (inl is) = inl (value_of part text value rest less is)
first_of_one (part ∷ parts) text value rest less (inr is) = inr (first_of_one parts text value rest less is.1)

next_of_one : (parts : List Part) (text : List ℕ) (value : Value) (rest : List ℕ) → IsNext parts text value rest → IsOfOne parts value
next_of_one parts text value rest next = first_of_one parts next.front value rest (first_takes next.front next.some next.unblanked.other parts value rest next.part) next.part

-- the arguments that a kind is made of, after those before
record AreMadeOf (row : Row) (before : List Value) (kind : Kind) : Type 0 where
  values : List Value
  made : row.kind (before ++ values) ≡ Some kind
  are : AreOfRow row before values

made_of : {row : Row} {before : List Value} {lefts text : List ℕ} {kind : Kind} → Makes row before lefts text kind → AreMadeOf row before kind
made_of {row} (Ended values lefts text kind ended is) = record { values = []; made = ap row.kind (append-nil values) ∙ is; are = tt }
made_of {row} (GoesOn values lefts text value rest kind next right makes) =
    let more = made_of makes in
    record {
      values = value ∷ more.values;
      made = ap row.kind (sym (append_assoc values (value ∷ []) more.values)) ∙ more.made;
      are = (next_of_one (row.next values) text value rest next, more.are);
    }

-- a row makes its kinds of values that its arguments may have
pub made_of_row : (row : Row) (text : List ℕ) (kind : Kind) → Makes row [] [] text kind → (values : List Value) × (row.kind values ≡ Some kind) × AreOfRow row [] values
made_of_row row text kind makes = let made = made_of makes in (made.values, made.made, made.are)

-- and none of the values that it was made of is wrong
record AreRight (row : Row) (before : List Value) (kind : Kind) : Type 0 where
  values : List Value
  made : row.kind (before ++ values) ≡ Some kind
  are : AreOfRow row before values
  lefts : List ℕ
  each : length lefts ≡ length (before ++ values)
  right : row.wrong (before ++ values) lefts ≡ None

right_of : {row : Row} {before : List Value} {lefts text : List ℕ} {kind : Kind} → length lefts ≡ length before → row.wrong before lefts ≡ None → Makes row before lefts text kind → AreRight row before kind
right_of {row} each right (Ended values lefts text kind ended is) =
    record {
      values = [];
      made = ap row.kind (append-nil values) ∙ is;
      are = tt;
      lefts = lefts;
      each = each ∙ ap (λ (values : List Value). length values) (sym (append-nil values));
      right = ap (λ (values : List Value). row.wrong values lefts) (append-nil values) ∙ right;
    }
right_of {row} each right (GoesOn values lefts text value rest kind next none makes) =
    let more = right_of (length-append lefts _ ∙ (ap (λ (n : ℕ). n + 1) each ∙ sym (length-append values (value ∷ [])))) none makes in
    let all : values ++ value ∷ more.values ≡ (values ++ value ∷ []) ++ more.values = sym (append_assoc values (value ∷ []) more.values) in
    record {
      values = value ∷ more.values;
      made = ap row.kind all ∙ more.made;
      are = (next_of_one (row.next values) text value rest next, more.are);
      lefts = more.lefts;
      each = more.each ∙ ap (λ (values : List Value). length values) (sym all);
      right = ap (λ (values : List Value). row.wrong values more.lefts) all ∙ more.right;
    }

-- the same of a row whose values may be wrong, each with how many bytes are left of the text where it begins
pub right_of_row : (row : Row) (text : List ℕ) (kind : Kind) → row.wrong [] [] ≡ None → Makes row [] [] text kind
    → (values : List Value) × (lefts : List ℕ) × (row.kind values ≡ Some kind) × AreOfRow row [] values × (length lefts ≡ length values) × (row.wrong values lefts ≡ None)
right_of_row row text kind none makes = let made = right_of refl none makes in (made.values, made.lefts, made.made, made.are, made.each, made.right)
