-- Keywords as parts.
use Rattle.std.proofs.Common.{◌≡◌, ℕ, List, refl, ap, ◌∙◌}
use Rattle.std.specs.Str.{str_to_ascii_lowercase}
use Rattle.pipe_model.proofs.FirstWords.{same_word}
use Rattle.argument_parts.specs.Keywords.{IsKeyword, spelling_of}
use Rattle.pipe_model.specs.Words.{IsFirstWord}
use Rattle.argument_parts.specs.declared.part.Word.{Word}
use Rattle.argument_parts.specs.declared.part.Word.TheVariants as Keys

-- a keyword is spelled in lower case
pub lower_spelling : (key : Word) → str_to_ascii_lowercase (spelling_of key) ≡ spelling_of key
lower_spelling Keys.First = refl
lower_spelling Keys.Last = refl
lower_spelling Keys.Both = refl
lower_spelling Keys.Leading = refl
lower_spelling Keys.Trailing = refl
lower_spelling Keys.Left = refl
lower_spelling Keys.Right = refl
lower_spelling Keys.Upper = refl
lower_spelling Keys.Lower = refl
lower_spelling Keys.Count = refl
lower_spelling Keys.Singles = refl
lower_spelling Keys.Multiple = refl
lower_spelling Keys.Ascending = refl
lower_spelling Keys.Descending = refl
lower_spelling Keys.Lines = refl
lower_spelling Keys.Words = refl
lower_spelling Keys.Bytes = refl
lower_spelling Keys.Fixed = refl
lower_spelling Keys.Linend = refl
lower_spelling Keys.String = refl
lower_spelling Keys.Sf = refl
lower_spelling Keys.Number = refl
lower_spelling Keys.Print = refl
lower_spelling Keys.Read = refl
lower_spelling Keys.Write = refl
lower_spelling Keys.Pad = refl
lower_spelling Keys.Set = refl
lower_spelling Keys.Eof = refl
lower_spelling Keys.Strip = refl
lower_spelling Keys.C2x = refl
lower_spelling Keys.X2c = refl
lower_spelling Keys.Center = refl
lower_spelling Keys.Put = refl
lower_spelling Keys.Add = refl
lower_spelling Keys.Subtract = refl
lower_spelling Keys.Num = refl

-- a first word that is another one isn't the keyword
pub other_word : (text word rest more : List ℕ) (key : Word) → IsFirstWord text word rest → ¬ (str_to_ascii_lowercase word ≡ spelling_of key) → ¬ IsKeyword text key more
other_word text word rest more key first other is =
    other (ap str_to_ascii_lowercase (same_word text word rest is.word more first is.first) ∙ is.spells)
