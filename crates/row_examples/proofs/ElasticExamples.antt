-- ELASTIC, two strands with a queue between them, and COPY.
use Rattle.std.specs.Prelude.{◌≡◌, [], ◌∷◌, false, refl}
use Rattle.pipe_model.specs.declared.kind.Kind.TheVariants.{Elastic, Copy}
use Rattle.pipe_model.specs.Event.Want.{Read, Take}
use Rattle.row_examples.specs.Wants.{part_of_stage, wants_of, wants_of_part, all, on, writes, ends}

-- both strands of ELASTIC take a record before they write it
elastic_in : wants_of_part (part_of_stage Elastic 0 (all 1) (all 1)) [] (on 0 "a|b") ≡ Read 0 ∷ Take 0 ∷ writes 0 "a" ∷ Read 0 ∷ Take 0 ∷ writes 0 "b" ∷ Read 0 ∷ ends ∷ []
elastic_in = refl

elastic_out : wants_of_part (part_of_stage Elastic 1 (all 1) (all 1)) [] (on 0 "a") ≡ Read 0 ∷ Take 0 ∷ writes 0 "a" ∷ Read 0 ∷ ends ∷ []
elastic_out = refl

elastic_refused : wants_of_part (part_of_stage Elastic 1 (all 1) (all 1)) (0 ∷ []) (on 0 "a|b") ≡ Read 0 ∷ Take 0 ∷ writes 0 "a" ∷ ends ∷ []
elastic_refused = refl

-- so does COPY
copy_one : wants_of Copy (all 1) (all 1) (on 0 "a|b") ≡ Read 0 ∷ Take 0 ∷ writes 0 "a" ∷ Read 0 ∷ Take 0 ∷ writes 0 "b" ∷ Read 0 ∷ ends ∷ []
copy_one = refl

copy_nowhere : wants_of Copy (all 1) (false ∷ []) (on 0 "a|b") ≡ Read 0 ∷ Take 0 ∷ Read 0 ∷ Take 0 ∷ Read 0 ∷ ends ∷ []
copy_nowhere = refl
