-- Words, counted from the front of a record.
use Rattle.std.specs.Prelude.{ℕ, ◌+◌, ◌==◌, Bool, not, ◌&&◌, if◌then◌else◌, List, [], ◌∷◌}

-- how many words begin in a text, before which a word may begin or one goes on
abbrev pub words_begun : Bool → List ℕ → ℕ
words_begun is_between [] = 0
words_begun is_between (b ∷ text) = (if is_between && not (b == 32) then 1 else 0) + words_begun (b == 32) text
