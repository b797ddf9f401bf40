-- Words: the runs of bytes other than a blank.
use Rattle.std.specs.Prelude.{◌≡◌, ◌≢◌, ℕ, List, ◌++◌, replicate, get_or}
use Rattle.std.specs.List.{Contains}

-- the rest of the text is what stands after the blanks at its front
pub record IsUnblanked (text rest : List ℕ) : Type 0 where
  pub blanks : ℕ
  pub spells : text ≡ replicate blanks 32 ++ rest
  pub other : get_or rest 0 0 ≢ 32

-- the word has no blank, and the rest of the text after it is empty or begins with a blank
pub record IsFirstWord (text word rest : List ℕ) : Type 0 where
  pub spells : text ≡ word ++ rest
  pub whole : ¬ Contains word 32
  pub stops : get_or rest 0 32 ≡ 32
