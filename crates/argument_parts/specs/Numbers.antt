-- Numbers: one to ten decimal digits.
use Rattle.std.specs.Prelude.{◌≡◌, ℕ, ◌+◌, ◌-◌, ◌*◌, ◌^◌, ◌<◌, ◌≤◌, true, false, List, [], ◌∷◌, ◌++◌, length, get_or}
use Rattle.std.specs.Char.{is_ascii_digit}
use Rattle.std.specs.List.{All}
use Rattle.std.specs.Str.{all_ascii_digits}

-- the value of decimal digits, each with the weight of its place
abbrev pub decimal : List ℕ → ℕ
decimal [] = 0
decimal (digit ∷ digits) = (digit - 48) * 10 ^ length digits + decimal digits

-- the word is a number of this value
pub record IsNumber (word : List ℕ) (value : ℕ) : Type 0 where
  pub some : 0 < length word
  pub few : length word ≤ 10
  pub digits : all_ascii_digits word ≡ true
  pub worth : value ≡ decimal word

-- the digits are as many as stand at the front of the word, and the rest is after them
pub record AreFirstDigits (word digits rest : List ℕ) : Type 0 where
  pub spells : word ≡ digits ++ rest
  pub digits_all : all_ascii_digits digits ≡ true
  pub stops : is_ascii_digit (get_or rest 0 0) ≡ false

-- what stands before the first decimal digit of the word, and the rest, which is empty or begins with that digit
pub record AreFirstOthers (word others rest : List ℕ) : Type 0 where
  pub spells : word ≡ others ++ rest
  pub no_digit : All (λ byte. is_ascii_digit byte ≡ false) others
  pub stops : is_ascii_digit (get_or rest 0 48) ≡ true
