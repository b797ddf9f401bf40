-- DEAL.
use Rattle.std.specs.Prelude.{◌≡◌, [], ◌∷◌, ◌++◌, true, false, refl}
use Rattle.pipe_model.specs.declared.kind.Kind.TheVariants.{Deal}
use Rattle.pipe_model.specs.Event.Want.{Read, Take}
use Rattle.pipe_model.specs.Table.{form}
use Rattle.row_examples.specs.Wants.{part_of_stage, wants_of, wants_refused, written_by, all, on, writes, ends}

-- one record to each output in turn
around : written_by Deal (all 1) (all 3) (on 0 "a|b|c|d|e") ≡ on 0 "a" ++ on 1 "b" ++ on 2 "c" ++ on 0 "d" ++ on 1 "e"
around = refl

wants : wants_of Deal (all 1) (all 2) (on 0 "a|b") ≡ Read 0 ∷ writes 0 "a" ∷ Take 0 ∷ Read 0 ∷ writes 1 "b" ∷ Take 0 ∷ Read 0 ∷ ends ∷ []
wants = refl

-- the outputs that aren't connected have no turn
connected : written_by Deal (all 1) (false ∷ true ∷ false ∷ true ∷ []) (on 0 "a|b|c") ≡ on 1 "a" ++ on 3 "b" ++ on 1 "c"
connected = refl

nowhere : wants_of Deal (all 1) (false ∷ []) (on 0 "a") ≡ Read 0 ∷ Take 0 ∷ Read 0 ∷ ends ∷ []
nowhere = refl

-- an output that refused keeps its turn, and its records are dropped
refused : wants_refused (1 ∷ []) Deal (all 1) (all 2) (on 0 "a|b|c|d|e") ≡
    Read 0 ∷ writes 0 "a" ∷ Take 0 ∷ Read 0 ∷ writes 1 "b" ∷ Take 0 ∷ Read 0 ∷ writes 0 "c" ∷ Take 0 ∷ Read 0 ∷ Take 0 ∷ Read 0 ∷ writes 0 "e" ∷ Take 0 ∷ Read 0 ∷ ends ∷ []
refused = refl

-- it writes only what the record at hand causes
is_thin : (form (part_of_stage Deal 0 (all 1) (all 2))).thin ≡ true
is_thin = refl
