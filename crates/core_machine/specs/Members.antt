-- Sets of numbers: as the bits of words, and with a size.
use Rattle.std.specs.Prelude.{◌≡◌, ◌<◌, ◌≤◌, ◌*◌, ◌-◌, ◌^◌, min, length, ℕ, ◌/◌, ◌%◌, ◌==◌, List, slice_get, unwrap_or, Bool, true, false}
use Rattle.std.specs.Int.{bit_at}

-- a word by its number, which is 0 behind the end
abbrev pub word_at : List ℕ → ℕ → ℕ
word_at words k = unwrap_or (slice_get words k) 0

-- 1 where the words hold the number, else 0
abbrev pub has : List ℕ → ℕ → ℕ
has words s = bit_at (word_at words (s / 64)) (s % 64)

-- the word whose first bits, so many, are 1
abbrev pub low_word : ℕ → ℕ
low_word count = 2 ^ min count 64 - 1

-- it is the least number that the words hold
abbrev pub IsLeastBit : List ℕ → ℕ → Type 0
IsLeastBit words s = (has words s ≡ 1) × ((t : ℕ) → t < s → has words t ≡ 0)

-- a set of numbers below a size
pub record Members : Type 0 where
  pub size : ℕ
  pub words : List ℕ

-- the number is in the set
abbrev pub is_member : Members → ℕ → Bool
is_member set s = has set.words s == 1

-- it is in the set, and no lesser number is
abbrev pub IsLeast : Members → ℕ → Type 0
IsLeast set s = (is_member set s ≡ true) × ((t : ℕ) → t < s → is_member set t ≡ false)

-- the words hold no number from the size on, which has 32 bits, and the summary holds the numbers of the words that aren't 0
pub record HasBits (size : ℕ) (words summary : List ℕ) : Type 0 where
  pub few : size < 4294967296
  pub fits : size < 64 * length words
  pub summary_fits : length words < 64 * length summary
  pub inside : (t : ℕ) → size ≤ t → has words t ≡ 0
  pub full : (k : ℕ) → has summary k ≡ 1 → 0 < word_at words k
  pub empty : (k : ℕ) → has summary k ≡ 0 → word_at words k ≡ 0
