-- Whole numbers of SPECS: digits, with a minus sign or without one, whose value has 64 bits; and the names of its counters.
use Rattle.std.specs.Prelude.{◌≡◌, ℕ, ◌+◌, ◌<◌, Bool, true, false, List, [], ◌∷◌, ◌++◌, length, ℤ, pos, neg_ℤ}
use Rattle.std.specs.Str.{all_ascii_digits}
use Rattle.std.specs.declared.option.Option.TheVariants.{Some, None}
use Rattle.pipe_model.specs.Numbers.{within_i64}
use Rattle.pipe_model.specs.Words.{IsFirstWord}
use Rattle.argument_parts.specs.declared.fault.FaultKind.TheVariants.{OutOfRange}
use Rattle.argument_parts.specs.declared.part.TextFault.{TextFault}
use Rattle.argument_parts.specs.Numbers.{decimal}

abbrev pub sign_of : Bool → List ℕ
sign_of true = 45 ∷ []
sign_of false = []

abbrev pub signed : Bool → ℕ → ℤ
signed true n = neg_ℤ (pos n)
signed false n = pos n

-- the word is a sign or none and digits, one at least, of this value
pub record IsWhole (word : List ℕ) (value : ℤ) : Type 0 where
  pub minus : Bool
  pub digits : List ℕ
  pub spells : word ≡ sign_of minus ++ digits
  pub some : 0 < length digits
  pub digits_all : all_ascii_digits digits ≡ true
  pub worth : value ≡ signed minus (decimal digits)

-- the first word of the text is a whole number of 64 bits, and the rest
pub record IsWholeIn (text : List ℕ) (value : ℤ) (rest : List ℕ) : Type 0 where
  pub word : List ℕ
  pub first : IsFirstWord text word rest
  pub counts : IsWhole word value
  pub within : within_i64 value ≡ Some value

-- the first word of the text is a whole number of more bits, which is a fault at its front
pub record IsWholeMisfit (text : List ℕ) (fault : TextFault) : Type 0 where
  pub word : List ℕ
  pub rest : List ℕ
  pub value : ℤ
  pub first : IsFirstWord text word rest
  pub counts : IsWhole word value
  pub outside : within_i64 value ≡ None
  pub fault_is : fault ≡ record { left = length text; kind = OutOfRange }

-- the first word of the text is no whole number
abbrev pub IsNoWhole : List ℕ → Type 0
IsNoWhole text = (word rest : List ℕ) (value : ℤ) → IsFirstWord text word rest → ¬ IsWhole word value

-- the first word of the text is `#` and a digit, which names a counter, and the rest
pub record IsCounter (text : List ℕ) (k : ℕ) (rest : List ℕ) : Type 0 where
  pub first : IsFirstWord text (35 ∷ ((48 + k) ∷ [])) rest
  pub few : k < 10
