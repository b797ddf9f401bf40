-- DAM: each of its strands has one input and one output.
use Rattle.std.specs.Prelude.{◌≡◌, [], ◌∷◌, false, refl}
use Rattle.pipe_model.specs.declared.kind.Kind.TheVariants.{Dam}
use Rattle.pipe_model.specs.Event.Want.{Read, Take, Prime}
use Rattle.pipe_model.specs.Table.{form}
use Rattle.row_examples.specs.Wants.{part_of_stage, wants_of_part, all, on, writes, ends}

-- the first strand of DAM waits for nothing
first : wants_of_part (part_of_stage Dam 0 (all 1) (all 1)) [] (on 0 "a|b") ≡ Read 0 ∷ writes 0 "a" ∷ Take 0 ∷ Read 0 ∷ writes 0 "b" ∷ Take 0 ∷ Read 0 ∷ ends ∷ []
first = refl

-- each later one waits until the first one saw a record, and then does the same
later : wants_of_part (part_of_stage Dam 2 (all 1) (all 1)) [] (on 0 "a|b") ≡ Prime ∷ Read 0 ∷ writes 0 "a" ∷ Take 0 ∷ Read 0 ∷ writes 0 "b" ∷ Take 0 ∷ Read 0 ∷ ends ∷ []
later = refl

-- where the first one saw none, it ends without a look at its own records
empty : wants_of_part (part_of_stage Dam 1 (all 1) (all 1)) [] [] ≡ Prime ∷ ends ∷ []
empty = refl

not_connected : wants_of_part (part_of_stage Dam 1 (all 1) (false ∷ [])) [] (on 0 "a") ≡ Prime ∷ Read 0 ∷ Take 0 ∷ Read 0 ∷ ends ∷ []
not_connected = refl

refused : wants_of_part (part_of_stage Dam 1 (all 1) (all 1)) (0 ∷ []) (on 0 "a|b") ≡ Prime ∷ Read 0 ∷ writes 0 "a" ∷ ends ∷ []
refused = refl

-- no strand of it counts as thin, though the first one does what a thin one does
is_thick : (form (part_of_stage Dam 0 (all 1) (all 1))).thin ≡ false
is_thick = refl
