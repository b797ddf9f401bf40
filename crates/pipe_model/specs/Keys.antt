-- Keys, which are parts of records that stages compare.
use Rattle.std.specs.Prelude.{ℕ, ◌==◌, nat_lt, Bool, true, false, ◌&&◌, if◌then◌else◌, List, [], ◌∷◌}

-- the first is less, byte by byte: a proper prefix is less
abbrev pub is_less : List ℕ → List ℕ → Bool
is_less key [] = false
is_less [] (b ∷ bytes) = true
is_less (a ∷ key) (b ∷ bytes) = if a == b then is_less key bytes else nat_lt a b

-- they have the same bytes
abbrev pub is_same : List ℕ → List ℕ → Bool
is_same [] [] = true
is_same (a ∷ key) (b ∷ bytes) = a == b && is_same key bytes
is_same _ _ = false
