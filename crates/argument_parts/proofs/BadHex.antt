-- A word that begins as a hexadecimal one does and isn't one.
use Rattle.std.proofs.Common.{◌≡◌, ℕ, List, get_or, subst}
use Rattle.pipe_model.proofs.FirstWords.{same_word}
use Rattle.pipe_model.specs.Words.{IsFirstWord}
use Rattle.argument_parts.specs.Strings.{IsBadHex, IsHexadecimal}

-- where the first word isn't hexadecimal, there is no hexadecimal word
pub bad_hex : (text word rest : List ℕ) → IsFirstWord text word rest → ((string : List ℕ) → ¬ IsHexadecimal word string) → get_or text 0 0 ≡ 120 → IsBadHex text
bad_hex text word rest first none begins = record {
  begins = begins;
  none = λ string more hexadecimal.
      let other = hexadecimal.first in
      let same = same_word text hexadecimal.word more word rest other first in
      none string (subst (λ bytes. IsHexadecimal bytes string) same hexadecimal.worth);
}
