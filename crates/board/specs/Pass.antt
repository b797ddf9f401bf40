-- What a pass is between two calls. It serves the inside.
use Rattle.std.specs.Prelude.{◌≡◌, ℕ, ◌+◌, ◌<◌, ◌≤◌, List, [], ◌∷◌, slice_index_or, None}
use Rattle.board.specs.Counts.{times}
use Rattle.board.specs.Plays.{blank}
use Rattle.board.specs.declared.view.View.{View}

-- the places that were brought home and those that were lost are among those that were made, and none is both
abbrev pub HasParts : View → Type 0
HasParts v = (p : ℕ) → times p v.home + times p v.lost ≤ times p v.mine

-- the one view of a pass
abbrev pub the_view : List View → View
the_view views = slice_index_or views 0 blank

-- a pass has one view, which has no slot in hand, with these shares and tries
abbrev pub IsPass : List View → ℕ → ℕ → Type 0
IsPass views shares tries =
    (views ≡ the_view views ∷ []) × ((the_view views).held ≡ None) × ((the_view views).shares ≡ shares) × ((the_view views).tries ≡ tries) × (0 < shares) × HasParts (the_view views)
