-- Keywords, which are read in any case.
use Rattle.std.specs.Prelude.{◌≡◌, ℕ, List, codes}
use Rattle.std.specs.Str.{str_to_ascii_lowercase}
use Rattle.pipe_model.specs.Words.{IsFirstWord}
use Rattle.argument_parts.specs.declared.part.Word.{Word}
use Rattle.argument_parts.specs.declared.part.Word.TheVariants as Keys

abbrev pub spelling_of : Word → List ℕ
spelling_of Keys.First = codes "first"
spelling_of Keys.Last = codes "last"
spelling_of Keys.Both = codes "both"
spelling_of Keys.Leading = codes "leading"
spelling_of Keys.Trailing = codes "trailing"
spelling_of Keys.Left = codes "left"
spelling_of Keys.Right = codes "right"
spelling_of Keys.Upper = codes "upper"
spelling_of Keys.Lower = codes "lower"
spelling_of Keys.Count = codes "count"
spelling_of Keys.Singles = codes "singles"
spelling_of Keys.Multiple = codes "multiple"
spelling_of Keys.Ascending = codes "a"
spelling_of Keys.Descending = codes "d"
spelling_of Keys.Lines = codes "lines"
spelling_of Keys.Words = codes "words"
spelling_of Keys.Bytes = codes "bytes"
spelling_of Keys.Fixed = codes "fixed"
spelling_of Keys.Linend = codes "linend"
spelling_of Keys.String = codes "string"
spelling_of Keys.Sf = codes "sf"
spelling_of Keys.Number = codes "number"
spelling_of Keys.Print = codes "print"
spelling_of Keys.Read = codes "read"
spelling_of Keys.Write = codes "write"
spelling_of Keys.Pad = codes "pad"
spelling_of Keys.Set = codes "set"
spelling_of Keys.Eof = codes "eof"
spelling_of Keys.Strip = codes "strip"
spelling_of Keys.C2x = codes "c2x"
spelling_of Keys.X2c = codes "x2c"
spelling_of Keys.Center = codes "center"
spelling_of Keys.Put = codes "="
spelling_of Keys.Add = codes "+="
spelling_of Keys.Subtract = codes "-="
spelling_of Keys.Num = codes "num"

-- the first word of the text is the keyword, in any case
pub record IsKeyword (text : List ℕ) (key : Word) (rest : List ℕ) : Type 0 where
  pub word : List ℕ
  pub first : IsFirstWord text word rest
  pub spells : str_to_ascii_lowercase word ≡ spelling_of key
