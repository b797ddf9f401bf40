-- A master that is kept.
use Rattle.std.specs.Prelude.{ℕ, Bool, List}

pub record Entry : Type 0 where
  pub key : List ℕ
  pub rec : List ℕ
  -- a detail matched it
  pub is_matched : Bool
