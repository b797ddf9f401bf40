-- Records by the inputs they came from.
use Rattle.std.specs.Prelude.{ℕ, ◌==◌, List, [], ◌∷◌, filter}
use Rattle.pipe_model.specs.Row.{Pair}
use Rattle.pipe_model.specs.Shape.{Records, records_of}

-- the records of one input, in their order
abbrev pub records_from : ℕ → List Pair → Records
records_from i seen = records_of (filter (λ p. p.0 == i) seen)

-- what the record at hand causes, by its input and itself
abbrev pub at_hand_causes : (ℕ → List ℕ → List Pair) → List Pair → List Pair
at_hand_causes outs [] = []
at_hand_causes outs (p ∷ []) = outs p.0 p.1
at_hand_causes outs (p ∷ q ∷ ps) = at_hand_causes outs (q ∷ ps)
