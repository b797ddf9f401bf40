-- What was read of a word's digits.
use Rattle.std.proofs.Common.{◌≡◌, ℕ, suc, ◌+◌, ◌-◌, ◌&&◌, ◌*◌, ◌^◌, ◌<◌, ◌≤◌, true, List, [], ◌∷◌, length, take, drop, get_or, refl, ap, arith}
use Rattle.std.specs.Char.{is_ascii_digit}
use Rattle.std.specs.Str.{all_ascii_digits}
use Rattle.std.proofs.Math.Nat.{pow-succ'}
use Rattle.std.proofs.lemmas.Str.Parse.{tells_all_ascii_digits}
use Rattle.std.proofs.lemmas.List.{take_rest}
use Rattle.argument_parts.specs.Numbers.{decimal}

-- digits were read, their value is known, and the rest of the word is left
pub record ReadDigits (word left : List ℕ) (value : ℕ) : Type 0 where
  pub some : 0 < length word
  pub few : length word ≤ 10
  pub done : ℕ
  pub parts : done + length left ≡ length word
  pub small : value < 10 ^ done
  pub digits : all_ascii_digits left ≡ true → all_ascii_digits word ≡ true
  pub digits_of : all_ascii_digits word ≡ true → all_ascii_digits left ≡ true
  pub worth : value * 10 ^ length left + decimal left ≡ decimal word

-- one digit more was read, of a word that goes on
digit_and_rest : (word rest : List ℕ) (digit value : ℕ) → ReadDigits word (digit ∷ rest) value → is_ascii_digit digit ≡ true → ReadDigits word rest (value * 10 + (digit - 48))
digit_and_rest word rest digit value read is = record {
  some = read.some;
  few = read.few;
  done = suc read.done;
  parts = omega (arith, read.parts);
  small = omega (arith, read.small, (tells_all_ascii_digits.parts digit [] (rw is refl)).0, pow-succ' 10 read.done);
  digits = λ all. read.digits (rw is all);
  digits_of = λ all. let both : (is_ascii_digit digit && all_ascii_digits rest) ≡ true = read.digits_of all in rw is at both;
  worth = omega (arith, read.worth, ap (λ power. value * power) (pow-succ' 10 (length rest)));
}

-- one digit more was read
pub one_digit_more : (word left : List ℕ) (value digit : ℕ) → ReadDigits word left value → 1 ≤ length left → is_ascii_digit (get_or left 0 0) ≡ true
    → digit ≡ get_or left 0 0 - 48 → ReadDigits word (take (length left - 1) (drop 1 left)) (value * 10 + digit)
one_digit_more word [] value digit read some is worth = absurd (omega arith)
one_digit_more word (byte ∷ rest) value digit read some is worth = rw (take_rest (byte ∷ rest) 1) (rw worth (digit_and_rest word rest byte value read is))
