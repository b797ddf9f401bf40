-- The record at hand, which waits to be written on one output, or doesn't.
use Rattle.std.specs.Prelude.{ℕ, ◌<◌, length, List, [], ◌∷◌}
use Rattle.std.specs.declared.option.Option.{Option}
use Rattle.std.specs.declared.option.Option.TheVariants.{Some, None}
use Rattle.pipe_model.specs.Row.{Act}
use Rattle.pipe_model.specs.Row.Act.{Writes}
use Rattle.pipe_model.specs.Shape.{Records}

-- the act that is left, of a stage that writes the record at hand on at most one output
abbrev pub waiting_act : Option ℕ → List ℕ → List Act
waiting_act None rec = []
waiting_act (Some o) rec = Writes o rec ∷ []

-- where a record waits, there was one
abbrev pub IsWaiting : Option ℕ → Records → Type 0
IsWaiting None recs = Unit {0}
IsWaiting (Some o) recs = 0 < length recs

abbrev pub how_many : {A : Type 0} → Option A → ℕ
how_many None = 0
how_many (Some o) = 1
