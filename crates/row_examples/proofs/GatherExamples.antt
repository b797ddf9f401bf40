-- GATHER.
use Rattle.std.specs.Prelude.{◌≡◌, [], ◌∷◌, ◌++◌, true, false, refl}
use Rattle.pipe_model.specs.declared.kind.Kind.TheVariants.{Gather}
use Rattle.pipe_model.specs.Event.Want.{Read, Take}
use Rattle.row_examples.specs.Wants.{wants_of, wants_refused, written_by, all, on, writes, ends}

-- one record of each input in turn
around : written_by Gather (all 3) (all 1) (on 0 "a|d" ++ on 1 "b|e" ++ on 2 "c|f") ≡ on 0 "a|b|c|d|e|f"
around = refl

-- inputs that have ended are left out
uneven : written_by Gather (all 3) (all 1) (on 0 "a|d|f|g" ++ on 1 "b" ++ on 2 "c|e") ≡ on 0 "a|b|c|d|e|f|g"
uneven = refl

-- the turn goes on behind an input whose end was seen
wants : wants_of Gather (all 3) (all 1) (on 0 "a|c" ++ on 2 "b") ≡
    Read 0 ∷ writes 0 "a" ∷ Take 0 ∷ Read 1 ∷ Read 2 ∷ writes 0 "b" ∷ Take 2 ∷ Read 0 ∷ writes 0 "c" ∷ Take 0 ∷ Read 2 ∷ Read 0 ∷ ends ∷ []
wants = refl

hole : wants_of Gather (false ∷ true ∷ []) (all 1) (on 1 "a|b") ≡ Read 0 ∷ Read 1 ∷ writes 0 "a" ∷ Take 1 ∷ Read 1 ∷ writes 0 "b" ∷ Take 1 ∷ Read 1 ∷ ends ∷ []
hole = refl

refused : wants_refused (0 ∷ []) Gather (all 2) (all 1) (on 0 "a" ++ on 1 "b") ≡ Read 0 ∷ writes 0 "a" ∷ ends ∷ []
refused = refl
