-- What was read of a number, and what there is no number for.
use Rattle.std.proofs.Common.{◌≡◌, ◌≢◌, ℕ, zero, suc, ◌+◌, ◌-◌, ◌*◌, ◌^◌, ◌<◌, ◌≤◌, List, [], ◌∷◌, ◌++◌, length, get_or, drop, refl, sym, ap, ◌∙◌, subst, arith, append_assoc, append-nil, length-append, take}
use Rattle.std.specs.Char.{digit_value}
use Rattle.std.specs.Fmt.{decimal}
use Rattle.std.specs.Str.Parse.{AllDigits, digits_value}
use Rattle.std.proofs.Math.Seq.{take-append_seam}
use Rattle.std.proofs.lemmas.List.{take_rest}
use Rattle.std.proofs.lemmas.Fmt.{decimal_is_IsNumeral, decimal-digits_value, decimal_digit, first_decimal}
use Rattle.std.proofs.lemmas.Str.{digit_value_digit}
use Rattle.std.proofs.lemmas.Str.Parse.{digit_from_value, numerals_by_value, tells_digits}
use Rattle.journal_file.proofs.Digits.{GoesOn, goes_on, no_digit, digits_more, value_behind, value_grows}

-- digits were read, of this value, and these bytes are left
pub record HasRead (text left : List ℕ) (value : ℕ) : Type 0 where
  pub digits : List ℕ
  pub each : AllDigits 10 digits
  pub worth : value ≡ digits_value 10 digits
  pub spells : text ≡ digits ++ left

-- the text begins with no number of at most `most` and this byte
abbrev pub LacksNumber : List ℕ → ℕ → ℕ → Type 0
LacksNumber text end most = (n : ℕ) (rest : List ℕ) → n ≤ most → ¬ (text ≡ decimal n ++ (end ∷ rest))

-- the first byte of what is left
pub first_left : (text left : List ℕ) (value byte : ℕ) → HasRead text left value → 1 ≤ length left → get_or left 0 0 ≡ byte → HasRead text (byte ∷ take (length left - 1) (drop 1 left)) value
first_left text [] value byte read some is = absurd (omega arith)
first_left text (first ∷ left) value byte read some is = rw (take_rest (first ∷ left) 1, ← is) read

-- nothing was read
pub read_nothing : (text : List ℕ) → HasRead text text 0
read_nothing text = record { digits = []; each = tt; worth = refl; spells = refl }

-- one digit more was read
pub read_digit : (text left : List ℕ) (byte value : ℕ) → HasRead text (byte ∷ left) value → digit_value byte < 10 → HasRead text left (value * 10 + (byte - 48))
read_digit text left byte value read is =
    let worth : digit_value byte ≡ byte - 48 = omega (arith, digit_value_digit byte (digit_from_value byte is)) in
    record {
      digits = read.digits ++ byte ∷ [];
      each = digits_more read.digits byte read.each is;
      worth = rw (value_behind read.digits (byte ∷ []) 0, ← read.worth, worth) refl;
      spells = rw append_assoc read.spells;
    }

-- the digits read go on to those of a number that the text begins with
number_goes_on : (text left : List ℕ) (value n end : ℕ) (rest : List ℕ) (read : HasRead text left value) → n < 2 ^ 64 → end < 48 → text ≡ decimal n ++ (end ∷ rest) → GoesOn read.digits (decimal n) left (end ∷ rest)
number_goes_on text left value n end rest read small low same =
    goes_on read.digits (decimal n) left end rest read.each (decimal_is_IsNumeral n small).0.1 low (sym read.spells ∙ same)

-- behind the digits stands another byte, which is no digit
pub other_byte : (text left : List ℕ) (value byte end most : ℕ) → HasRead text (byte ∷ left) value → most < 2 ^ 60 → end < 48 → ¬ (digit_value byte < 10) → byte ≢ end → LacksNumber text end most
other_byte text left value byte end most read small low none other n rest within same =
    let on = number_goes_on text (byte ∷ left) value n end rest read (omega arith) low same in
    by_tail on.tail on.each on.left
  where
    by_tail : (tail : List ℕ) → AllDigits 10 tail → byte ∷ left ≡ tail ++ (end ∷ rest) → ⊥
    by_tail [] all is = let e : byte ≡ end = cc in other e
    by_tail (digit ∷ tail) all is = let e : byte ≡ digit = cc in none (rw e all.0)

-- nothing stands behind the digits
pub no_byte : (text : List ℕ) (value end most : ℕ) → HasRead text [] value → most < 2 ^ 60 → end < 48 → LacksNumber text end most
no_byte text value end most read small low n rest within same =
    let on = number_goes_on text [] value n end rest read (omega arith) low same in
    by_tail on.tail on.left
  where
    by_tail : (tail : List ℕ) → [] ≡ tail ++ (end ∷ rest) → ⊥
    by_tail [] is = cc
    by_tail (digit ∷ tail) is = cc

-- the digits have a value that is too large
pub too_large : (text left : List ℕ) (value end most : ℕ) → HasRead text left value → most < 2 ^ 60 → end < 48 → most < value → LacksNumber text end most
too_large text left value end most read small low large n rest within same =
    let fits : n < 2 ^ 64 = omega arith in
    let on = number_goes_on text left value n end rest read fits low same in
    let worth = ap (digits_value 10) on.digits in
    omega (arith, worth, (decimal_is_IsNumeral n fits).1, value_behind read.digits on.tail 0, value_grows on.tail (digits_value 10 read.digits), read.worth)

-- the digits are those of the number
pub number_ends : (text left : List ℕ) (value n end : ℕ) (rest : List ℕ) (read : HasRead text (end ∷ left) value) → n < 2 ^ 64 → end < 48 → text ≡ decimal n ++ (end ∷ rest) → (decimal n ≡ read.digits) × (left ≡ rest)
number_ends text left value n end rest read small low same =
    let on = number_goes_on text (end ∷ left) value n end rest read small low same in
    by_tail on.tail on.each on.digits on.left
  where
    by_tail : (tail : List ℕ) → AllDigits 10 tail → decimal n ≡ read.digits ++ tail → end ∷ left ≡ tail ++ (end ∷ rest) → (decimal n ≡ read.digits) × (left ≡ rest)
    by_tail [] all whole is = (whole ∙ append-nil read.digits, cc)
    by_tail (digit ∷ tail) all whole is = let e : end ≡ digit = cc in absurd (no_digit end low (rw e all.0))

-- there are digits, and no needless zero before them
abbrev pub IsPlain : List ℕ → Type 0
IsPlain digits = (0 < length digits) × (get_or digits 0 0 ≡ 48 → length digits ≡ 1)

-- a number is written so
number_is_plain : (n : ℕ) → n < 2 ^ 64 → IsPlain (decimal n)
number_is_plain zero small = rw (decimal_digit 0 (omega arith)) (omega arith, λ _. refl)
number_is_plain (suc n) small =
    ((decimal_is_IsNumeral (suc n) small).0.0, λ first. absurd (omega (arith, first_decimal (suc n) (omega arith) small)))

-- the digits are written otherwise
pub not_plain : (text left : List ℕ) (value end most : ℕ) (read : HasRead text (end ∷ left) value) → most < 2 ^ 60 → end < 48 → ¬ IsPlain read.digits → LacksNumber text end most
not_plain text left value end most read small low none n rest within same =
    let fits : n < 2 ^ 64 = omega arith in
    let ends = number_ends text left value n end rest read fits low same in
    none (subst IsPlain ends.0 (number_is_plain n fits))

-- the digits are those of their value
pub plain : (text left : List ℕ) (value end : ℕ) (read : HasRead text (end ∷ left) value) → value < 2 ^ 64 → IsPlain read.digits → text ≡ decimal value ++ (end ∷ left)
plain text left value end read small is =
    let written = decimal-digits_value (numerals_by_value _ tells_digits) read.digits read.each is.0 is.1 (omega (arith, read.worth)) in
    let same : decimal value ≡ read.digits = ap decimal read.worth ∙ written in
    read.spells ∙ ap (λ digits. digits ++ (end ∷ left)) (sym same)

-- the digits are what stands before what is left
pub digits_read : (text left : List ℕ) (value : ℕ) (read : HasRead text left value) → take (length text - length left) text ≡ read.digits
digits_read text left value read =
    let size : length text - length left ≡ length read.digits = omega (arith, ap length read.spells, length-append read.digits left) in
    rw (size, read.spells) (take-append_seam read.digits left)

-- an empty rest
pub none_left : (text left : List ℕ) (value : ℕ) → HasRead text left value → length left < 1 → HasRead text [] value
none_left text [] value read none = read
none_left text (byte ∷ left) value read none = absurd (omega arith)

-- one byte more was read, which is a digit
pub first_digit : (text left : List ℕ) (value digit : ℕ) → HasRead text left value → 1 ≤ length left → digit_value (get_or left 0 0) < 10 → digit ≡ get_or left 0 0 - 48
    → HasRead text (take (length left - 1) (drop 1 left)) (value * 10 + digit)
first_digit text left value digit read some is worth =
    rw worth (read_digit text (take (length left - 1) (drop 1 left)) (get_or left 0 0) value (first_left text left value (get_or left 0 0) read some refl) is)

-- the byte behind the digits, which are written as a number is
pub plain_left : (text left : List ℕ) (value byte : ℕ) → HasRead text left value → 1 ≤ length left → get_or left 0 0 ≡ byte → value < 2 ^ 64 → IsPlain (take (length text - length left) text)
    → text ≡ decimal value ++ (byte ∷ take (length left - 1) (drop 1 left))
plain_left text [] value byte read some is small written = absurd (omega arith)
plain_left text (first ∷ left) value byte read some is small written =
    rw (take_rest (first ∷ left) 1, ← is) (plain text left value first read small (subst IsPlain (digits_read text (first ∷ left) value read) written))

-- the byte behind the digits, which are written otherwise
pub not_plain_left : (text left : List ℕ) (value byte most : ℕ) → HasRead text left value → 1 ≤ length left → get_or left 0 0 ≡ byte → most < 2 ^ 60 → byte < 48 → ¬ IsPlain (take (length text - length left) text)
    → LacksNumber text byte most
not_plain_left text [] value byte most read some is small low none = absurd (omega arith)
not_plain_left text (first ∷ left) value byte most read some is small low none =
    let below : first < 48 = omega (arith, is) in
    subst (λ end. LacksNumber text end most) is (not_plain text left value first most read small below (λ written. none (subst IsPlain (sym (digits_read text (first ∷ left) value read)) written)))
