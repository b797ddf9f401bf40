-- The straight line: `console | locate /string/ | .. | console`.
use Rattle.std.specs.Prelude.{◌≡◌, ℕ, ◌<◌, ◌≤◌, ◌==◌, Bool, List, [], ◌∷◌, ◌++◌, length, Contains, codes, ⊤}
use Rattle.std.specs.Str.{str_to_ascii_lowercase}
use Rattle.std.specs.List.{slice_split}
use Rattle.spec_scanner.specs.Blanks.{blanks}

-- `|`, which stands between two stages
abbrev pub is_separator : ℕ → Bool
is_separator b = b == 124

-- the part is `console`, in any case, between any number of blanks
pub record IsConsole (part : List ℕ) : Type 0 where
  pub before : ℕ
  pub name : List ℕ
  pub after : ℕ
  pub names : str_to_ascii_lowercase name ≡ codes "console"
  pub spells : part ≡ blanks before ++ (name ++ blanks after)

-- the part is `locate`, in any case, one or more blanks and the string between two slashes, between any number of blanks;
-- the string isn't empty and has no slash
pub record IsLocate (part string : List ℕ) : Type 0 where
  pub before : ℕ
  pub name : List ℕ
  pub between : ℕ
  pub after : ℕ
  pub names : str_to_ascii_lowercase name ≡ codes "locate"
  pub apart : 0 < between
  pub filled : 0 < length string
  pub whole : ¬ Contains string 47
  pub spells : part ≡ blanks before ++ (name ++ (blanks between ++ (47 ∷ string ++ (47 ∷ blanks after))))

-- each part is a LOCATE, of the string at its place
abbrev pub AreLocates : List (List ℕ) → List (List ℕ) → Type 0
AreLocates [] [] = ⊤
AreLocates [] (string ∷ strings) = ⊥
AreLocates (part ∷ parts) [] = ⊥
AreLocates (part ∷ parts) (string ∷ strings) = IsLocate part string × AreLocates parts strings

-- the text, cut at each separator, is a CONSOLE, LOCATEs of these strings and a CONSOLE: 65,536 bytes and 1,024 stages at most
pub record IsStraight (text : List ℕ) (strings : List (List ℕ)) : Type 0 where
  pub first : List ℕ
  pub middle : List (List ℕ)
  pub last : List ℕ
  pub short : length text ≤ 65536
  pub cut : slice_split is_separator text ≡ first ∷ (middle ++ (last ∷ []))
  pub few : length middle ≤ 1022
  pub begins : IsConsole first
  pub locates : AreLocates middle strings
  pub ends : IsConsole last
