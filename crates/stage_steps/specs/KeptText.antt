-- What is kept of the records that a stage sees.
use Rattle.std.specs.Prelude.{ℕ, List}

pub record KeptText : Type 0 where
  -- the text of all records that were seen
  pub all : List ℕ
  -- the text of those that were taken
  pub taken : List ℕ
