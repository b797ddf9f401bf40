-- The words before a range, which say what its numbers count.
use Rattle.std.specs.Prelude.{◌≡◌, ℕ, List, codes, ◌⊎◌}
use Rattle.std.specs.Str.{str_to_ascii_lowercase}
use Rattle.pipe_model.specs.declared.range.Span.{Span}
use Rattle.pipe_model.specs.declared.range.Span.TheVariants.{Columns, Words, Fields}

-- the word, in any case, is one of three
abbrev pub IsOneOf : List ℕ → List ℕ → List ℕ → List ℕ → Type 0
IsOneOf word a b c = (str_to_ascii_lowercase word ≡ a) ⊎ ((str_to_ascii_lowercase word ≡ b) ⊎ (str_to_ascii_lowercase word ≡ c))

-- the word says what is counted; columns have no word
abbrev pub IsSpanName : List ℕ → Span → Type 0
IsSpanName word Columns = ⊥
IsSpanName word Words = IsOneOf word (codes "w") (codes "word") (codes "words")
IsSpanName word Fields = IsOneOf word (codes "f") (codes "field") (codes "fields")
