-- Strings: between two delimiters, or as hexadecimal digits.
use Rattle.std.specs.Prelude.{◌≡◌, ◌≢◌, ℕ, ◌<◌, ◌==◌, ◌||◌, ◌⊎◌, Bool, true, not, List, [], ◌∷◌, ◌++◌, length, get_or, Ok}
use Rattle.std.specs.Char.{is_ascii_alphanumeric}
use Rattle.std.specs.List.{Contains}
use Rattle.hex.specs.Hex.{decode_of}
use Rattle.pipe_model.specs.Words.{IsFirstWord}
use Rattle.argument_parts.specs.declared.fault.FaultKind.{FaultKind}
use Rattle.argument_parts.specs.declared.fault.FaultKind.TheVariants.{Missing, Extra, NotANumber, OutOfRange, Unclosed, EmptyString, UnknownWord, BadHex, Reversed}
use Rattle.argument_parts.specs.declared.part.TextFault.{TextFault}

-- any byte but a blank, a letter or a digit
abbrev pub is_delimiter : ℕ → Bool
is_delimiter byte = not (byte == 32 || is_ascii_alphanumeric byte)

-- the text is a delimiter, the string, in which it doesn't stand, the same delimiter and the rest
pub record IsDelimited (text string rest : List ℕ) : Type 0 where
  pub delimiter : ℕ
  pub chosen : is_delimiter delimiter ≡ true
  pub whole : ¬ Contains string delimiter
  pub spells : text ≡ delimiter ∷ string ++ (delimiter ∷ rest)

-- the text is a delimiter that doesn't stand a second time
pub record IsUnclosed (text : List ℕ) : Type 0 where
  pub delimiter : ℕ
  pub after : List ℕ
  pub chosen : is_delimiter delimiter ≡ true
  pub alone : ¬ Contains after delimiter
  pub spells : text ≡ delimiter ∷ after

-- the word is `x` and hexadecimal digits, two for each byte of the string, which isn't empty
pub record IsHexadecimal (word string : List ℕ) : Type 0 where
  pub digits : List ℕ
  pub spells : word ≡ 120 ∷ digits
  pub filled : 0 < length digits
  pub worth : decode_of digits ≡ Ok string

-- the first word of the text is hexadecimal
pub record IsHexadecimalWord (text string rest : List ℕ) : Type 0 where
  pub word : List ℕ
  pub first : IsFirstWord text word rest
  pub worth : IsHexadecimal word string

-- the text is a string that isn't empty, in either form, and the rest
abbrev pub IsString : List ℕ → List ℕ → List ℕ → Type 0
IsString text string rest = (IsDelimited text string rest × (0 < length string)) ⊎ IsHexadecimalWord text string rest

-- the text begins with `x`, and its first word isn't hexadecimal
pub record IsBadHex (text : List ℕ) : Type 0 where
  pub begins : get_or text 0 0 ≡ 120
  pub none : (string rest : List ℕ) → ¬ IsHexadecimalWord text string rest

-- which is a fault at its front
abbrev pub IsBadHexAt : List ℕ → TextFault → Type 0
IsBadHexAt text fault = IsBadHex text × (fault ≡ record { left = length text; kind = BadHex })

-- the text begins with a letter other than `x`, or with a digit
pub record IsOtherWord (text : List ℕ) : Type 0 where
  pub begins : is_ascii_alphanumeric (get_or text 0 0) ≡ true
  pub other : get_or text 0 0 ≢ 120

-- a text whose first byte is no blank isn't a string and a rest, for this reason
abbrev pub IsNoString : List ℕ → FaultKind → Type 0
IsNoString text Unclosed = IsUnclosed text
IsNoString text EmptyString = (rest : List ℕ) × IsDelimited text [] rest
IsNoString text BadHex = IsBadHex text
IsNoString text UnknownWord = IsOtherWord text
IsNoString text Missing = ⊥
IsNoString text Extra = ⊥
IsNoString text NotANumber = ⊥
IsNoString text OutOfRange = ⊥
IsNoString text Reversed = ⊥

-- a text whose first byte is no blank isn't a string and a rest, and this is the fault, at its front
abbrev pub IsStringFault : List ℕ → TextFault → Type 0
IsStringFault text fault = (fault.left ≡ length text) × IsNoString text fault.kind
