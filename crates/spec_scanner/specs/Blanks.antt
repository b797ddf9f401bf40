-- The blanks around a part.
use Rattle.std.specs.Prelude.{ℕ, List, replicate}

-- n blanks
abbrev pub blanks : ℕ → List ℕ
blanks n = replicate n 32
