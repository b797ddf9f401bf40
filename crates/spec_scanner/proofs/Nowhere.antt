-- Where a byte stands first.
use Rattle.std.proofs.Common.{◌≡◌, ℕ, suc, ◌<◌, List, ◌∷◌, ◌++◌, length, take, drop, get_or, ap, ◌∙◌, Some}
use borrow.Author.Tests.{eqb-true}
use Rattle.std.proofs.Math.Seq.{split_at}
use Rattle.bstr.specs.Find.{IsFirstByte, is_byte}

-- the bytes are those before the first place, the byte and the rest
pub split_first : (bytes : List ℕ) (byte at : ℕ) → IsFirstByte (is_byte byte) bytes (Some at) → bytes ≡ take at bytes ++ (byte ∷ drop (suc at) bytes)
split_first bytes byte at first = split_at bytes at 0 first.0.high ∙ ap (λ (b : ℕ). take at bytes ++ b ∷ drop (suc at) bytes) (eqb-true (get_or bytes at 0) byte first.1)

pub first_within : (bytes : List ℕ) (byte at : ℕ) → IsFirstByte (is_byte byte) bytes (Some at) → at < length bytes
first_within bytes byte at first = first.0.high
