-- FANOUT.
use Rattle.std.specs.Prelude.{◌≡◌, [], ◌∷◌, ◌++◌, true, false, refl}
use Rattle.pipe_model.specs.declared.kind.Kind.TheVariants.{FanOut}
use Rattle.pipe_model.specs.Event.Want.{Read, Take}
use Rattle.pipe_model.specs.Table.{form}
use Rattle.row_examples.specs.Wants.{part_of_stage, wants_of, wants_refused, written_by, all, on, writes, ends}

-- each output in order, and then the record is taken
to_each : wants_of FanOut (all 1) (all 3) (on 0 "a") ≡ Read 0 ∷ writes 0 "a" ∷ writes 1 "a" ∷ writes 2 "a" ∷ Take 0 ∷ Read 0 ∷ ends ∷ []
to_each = refl

only_connected : written_by FanOut (all 1) (false ∷ true ∷ false ∷ true ∷ []) (on 0 "a|b") ≡ on 1 "a" ++ on 3 "a" ++ on 1 "b" ++ on 3 "b"
only_connected = refl

-- without outputs it takes all records
none_connected : wants_of FanOut (all 1) (false ∷ false ∷ []) (on 0 "a") ≡ Read 0 ∷ Take 0 ∷ Read 0 ∷ ends ∷ []
none_connected = refl

-- an output that refused is left out, and when all have refused it ends
one_refuses : wants_refused (0 ∷ []) FanOut (all 1) (all 2) (on 0 "a|b") ≡ Read 0 ∷ writes 0 "a" ∷ writes 1 "a" ∷ Take 0 ∷ Read 0 ∷ writes 1 "b" ∷ Take 0 ∷ Read 0 ∷ ends ∷ []
one_refuses = refl

all_refuse : wants_refused (0 ∷ 1 ∷ []) FanOut (all 1) (all 2) (on 0 "a|b") ≡ Read 0 ∷ writes 0 "a" ∷ writes 1 "a" ∷ ends ∷ []
all_refuse = refl

-- it writes only what the record at hand causes
is_thin : (form (part_of_stage FanOut 0 (all 1) (all 2))).thin ≡ true
is_thin = refl
