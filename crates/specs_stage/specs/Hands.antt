-- What the words found of a record stand for; it serves the inside.
use Rattle.std.specs.Prelude.{◌≡◌, ◌≤◌, ◌<◌, ◌-◌, ℕ, List, [], ◌∷◌, ◌++◌, length, drop, take}
use Rattle.std.specs.declared.option.Option.{Option}
use Rattle.pipe_model.specs.Ranges.{Place, between, words_from}

-- the places of the words of what stands at the end of a record of this length
abbrev pub words_at_end : ℕ → List ℕ → List Place
words_at_end len rest = words_from (len - length rest) rest

-- the words found and those of the rest are those of the record
pub record AreFound (rec rest : List ℕ) (found : List Place) : Type 0 where
  pub words : found ++ words_at_end (length rec) rest ≡ words_from 0 rec
  pub rest_is : rest ≡ drop (length rec - length rest) rec
  pub within : length rest ≤ length rec

-- no word stands at the end of a record of this length
abbrev pub HasNoWord : ℕ → List ℕ → Type 0
HasNoWord len rest = words_at_end len rest ≡ []

-- the word is the first one at the end of a record of this length, and this stands behind it
pub record IsNextWord (len : ℕ) (rest : List ℕ) (word : Place) (behind : List ℕ) : Type 0 where
  pub words : words_at_end len rest ≡ word ∷ words_at_end len behind
  pub behind_is : behind ≡ drop (length rest - length behind) rest
  pub less : length behind < length rest

-- with so many of the words found, those that a range names are found: of the words of a record, which are no more than it has bytes
abbrev pub AreEnough : ℕ → ℕ → Option ℕ → ℕ → Type 0
AreEnough len first last count = (words : List Place) → length words ≤ len → drop (first - 1) (take count words) ≡ between first last words
