-- A text that is a string and a rest has no fault of a string.
use Rattle.std.proofs.Common.{◌≡◌, ℕ, ◌<◌, ◌==◌, ◌||◌, Bool, true, false, not, List, [], ◌∷◌, ◌++◌, length, get_or, refl, sym, ap, ◌∙◌, arith, subst, inl, inr}
use Rattle.std.specs.Char.{is_ascii_alphanumeric}
use Rattle.std.specs.List.{Contains}
use Rattle.std.proofs.lemmas.List.Elements.{Contains-append_right}
use Rattle.argument_parts.specs.declared.fault.FaultKind.{FaultKind}
use Rattle.argument_parts.specs.declared.fault.FaultKind.TheVariants.{Missing, Extra, NotANumber, OutOfRange, Unclosed, EmptyString, UnknownWord, BadHex, Reversed}
use Rattle.argument_parts.specs.Strings.{IsDelimited, IsHexadecimalWord, IsNoString, IsString, IsUnclosed, is_delimiter}

-- a letter or a digit is no delimiter
sign_or_delimiter : (a b : Bool) → not (a || b) ≡ true → b ≡ true → ⊥
sign_or_delimiter true b chosen sign = cc
sign_or_delimiter false true chosen sign = cc
sign_or_delimiter false false chosen sign = cc

no_letter : (byte : ℕ) → is_delimiter byte ≡ true → is_ascii_alphanumeric byte ≡ true → ⊥
no_letter byte chosen sign = sign_or_delimiter (byte == 32) (is_ascii_alphanumeric byte) chosen sign

-- a delimited text begins with its delimiter
pub delimited_front : (text string rest : List ℕ) (delimited : IsDelimited text string rest) → get_or text 0 0 ≡ delimited.delimiter
delimited_front text string rest delimited = ap (λ bytes. get_or bytes 0 0) delimited.spells

-- a hexadecimal word begins with x
pub hexadecimal_front : (text string rest : List ℕ) → IsHexadecimalWord text string rest → get_or text 0 0 ≡ 120
hexadecimal_front text string rest hexadecimal =
    ap (λ bytes. get_or bytes 0 0) (hexadecimal.first.spells ∙ ap (λ word. word ++ rest) hexadecimal.worth.spells)

-- a byte that is the front of a text and a letter or a digit is no delimiter there
pub no_front : (text : List ℕ) (byte front : ℕ) → get_or text 0 0 ≡ byte → is_delimiter byte ≡ true → get_or text 0 0 ≡ front → is_ascii_alphanumeric front ≡ true → ⊥
no_front text byte front is chosen other sign = no_letter byte chosen (ap is_ascii_alphanumeric (sym is ∙ other) ∙ sign)

-- what is delimited isn't unclosed
pub not_unclosed : (text string rest : List ℕ) → IsDelimited text string rest → ¬ IsUnclosed text
not_unclosed text string rest delimited unclosed =
    let both = sym delimited.spells ∙ unclosed.spells in
    let heads : delimited.delimiter ≡ unclosed.delimiter = cc in
    let tails : string ++ (delimited.delimiter ∷ rest) ≡ unclosed.after = cc in
    let stands : Contains (string ++ (delimited.delimiter ∷ rest)) delimited.delimiter = Contains-append_right string (delimited.delimiter ∷ rest) delimited.delimiter (0, omega arith, refl) in
    unclosed.alone (subst (λ byte. Contains unclosed.after byte) heads (subst (λ bytes. Contains bytes delimited.delimiter) tails stands))

-- a string that isn't empty isn't an empty one
not_empty : (text string rest after : List ℕ) → IsDelimited text string rest → 0 < length string → ¬ IsDelimited text [] after
not_empty text [] rest after delimited filled empty = omega arith
not_empty text (byte ∷ string) rest after delimited filled empty =
    let both = sym delimited.spells ∙ empty.spells in
    let same : byte ≡ delimited.delimiter = cc in
    delimited.whole (0, omega arith, same)

-- a string has no fault of a string
pub no_fault : (text string rest : List ℕ) (kind : FaultKind) → IsString text string rest → ¬ IsNoString text kind
no_fault text string rest Unclosed (inl read) fault = not_unclosed text string rest read.0 fault
no_fault text string rest Unclosed (inr read) fault = no_front text fault.delimiter 120 (ap (λ bytes. get_or bytes 0 0) fault.spells) fault.chosen (hexadecimal_front text string rest read) refl
no_fault text string rest EmptyString (inl read) fault = not_empty text string rest fault.0 read.0 read.1 fault.1
no_fault text string rest EmptyString (inr read) fault = no_front text fault.1.delimiter 120 (delimited_front text [] fault.0 fault.1) fault.1.chosen (hexadecimal_front text string rest read) refl
no_fault text string rest BadHex (inl read) fault = no_front text read.0.delimiter 120 (delimited_front text string rest read.0) read.0.chosen fault.begins refl
no_fault text string rest BadHex (inr read) fault = fault.none string rest read
no_fault text string rest UnknownWord (inl read) fault = no_front text read.0.delimiter (get_or text 0 0) (delimited_front text string rest read.0) read.0.chosen refl fault.begins
no_fault text string rest UnknownWord (inr read) fault = fault.other (hexadecimal_front text string rest read)
no_fault text string rest Missing read fault = fault
no_fault text string rest Extra read fault = fault
no_fault text string rest NotANumber read fault = fault
no_fault text string rest OutOfRange read fault = fault
no_fault text string rest Reversed read fault = fault
