-- GATE.
use Rattle.std.specs.Prelude.{◌≡◌, [], ◌∷◌, ◌++◌, true, false, refl}
use Rattle.pipe_model.specs.declared.kind.Kind.TheVariants as Kinds
use Rattle.pipe_model.specs.Event.Want.{Gate, Take}
use Rattle.pipe_model.specs.Form.Meeting.{Loose}
use Rattle.pipe_model.specs.Table.{form}
use Rattle.row_examples.specs.Wants.{part_of_stage, wants_of, wants_refused, written_by, all, on, writes, ends}

-- a record of input 0 ends it, and isn't taken
shuts : wants_of Kinds.Gate (all 2) (all 2) (on 1 "a|b" ++ on 0 "stop" ++ on 1 "c") ≡ Gate ∷ writes 1 "a" ∷ Take 1 ∷ Gate ∷ writes 1 "b" ∷ Take 1 ∷ Gate ∷ ends ∷ []
shuts = refl

-- so does the end of input 0
shuts_at_end : wants_of Kinds.Gate (all 2) (all 2) (on 1 "a") ≡ Gate ∷ writes 1 "a" ∷ Take 1 ∷ Gate ∷ ends ∷ []
shuts_at_end = refl

-- each input on the output of its number, in the order in which they come
own_outputs : written_by Kinds.Gate (all 4) (all 4) (on 2 "a" ++ on 1 "b" ++ on 3 "c" ++ on 2 "d" ++ on 0 "stop") ≡ on 2 "a" ++ on 1 "b" ++ on 3 "c" ++ on 2 "d"
own_outputs = refl

-- what would go to an output that isn't connected is taken
not_connected : wants_of Kinds.Gate (all 2) (true ∷ false ∷ []) (on 1 "a") ≡ Gate ∷ Take 1 ∷ Gate ∷ ends ∷ []
not_connected = refl

one_refuses : wants_refused (1 ∷ []) Kinds.Gate (all 3) (all 3) (on 1 "a|b" ++ on 2 "c") ≡ Gate ∷ writes 1 "a" ∷ Take 1 ∷ Gate ∷ Take 1 ∷ Gate ∷ writes 2 "c" ∷ Take 2 ∷ Gate ∷ ends ∷ []
one_refuses = refl

all_refuse : wants_refused (1 ∷ []) Kinds.Gate (all 2) (false ∷ true ∷ []) (on 1 "a|b") ≡ Gate ∷ writes 1 "a" ∷ ends ∷ []
all_refuse = refl

-- no net with it is settled
meets : (form (part_of_stage Kinds.Gate 0 (all 2) (all 1))).meeting ≡ Loose
meets = refl
