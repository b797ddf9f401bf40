-- What a journal is seen as.
use Rattle.std.specs.Prelude.{ℕ, List}
use Rattle.pipe_model.specs.declared.step.Entry.{Entry}

-- its entries, and for how many it has room
pub record Steps : Type 0 where
  pub items : List Entry
  pub room : ℕ
