-- The first line of a text.
use Rattle.std.specs.Prelude.{◌≡◌, ℕ, ◌+◌, ◌<◌, ◌≤◌, List, ◌∷◌, length, take, drop}
use Rattle.pipe_model.specs.Records.{lines}

pub record IsFirstLine (line text : List ℕ) : Type 0 where
  pub starts : take (length line) text ≡ line
  -- the other lines are those of what stands behind it and its line feed
  pub first : lines text ≡ line ∷ lines (drop (length line + 1) text)
  pub within : length line ≤ length text
  pub filled : 0 < length text
