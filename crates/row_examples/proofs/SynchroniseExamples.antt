-- SYNCHRONISE.
use Rattle.std.specs.Prelude.{◌≡◌, [], ◌∷◌, ◌++◌, true, false, refl}
use Rattle.pipe_model.specs.declared.kind.Kind.TheVariants.{Synchronise}
use Rattle.pipe_model.specs.Event.Want.{Read, Take}
use Rattle.row_examples.specs.Wants.{wants_of, wants_refused, written_by, all, on, writes, ends}

-- a record of each input is written before one of them is taken; it ends with the first input that does
in_rounds : wants_of Synchronise (all 2) (all 2) (on 0 "a|b" ++ on 1 "c") ≡
    Read 0 ∷ Read 1 ∷ writes 0 "a" ∷ writes 1 "c" ∷ Take 0 ∷ Take 1 ∷ Read 0 ∷ Read 1 ∷ ends ∷ []
in_rounds = refl

-- each input on the output of its number
own_outputs : written_by Synchronise (all 3) (all 3) (on 0 "a|b" ++ on 1 "c|d" ++ on 2 "e|f") ≡ on 0 "a" ++ on 1 "c" ++ on 2 "e" ++ on 0 "b" ++ on 1 "d" ++ on 2 "f"
own_outputs = refl

-- inputs behind the first that ended aren't read
first_end : wants_of Synchronise (all 3) (all 3) (on 0 "a" ++ on 2 "c") ≡ Read 0 ∷ Read 1 ∷ ends ∷ []
first_end = refl

-- an input that isn't connected has ended
not_connected : wants_of Synchronise (false ∷ true ∷ []) (all 2) (on 1 "a") ≡ Read 0 ∷ ends ∷ []
not_connected = refl

-- outputs that aren't connected or have refused are passed over
some_outputs : wants_refused (2 ∷ []) Synchronise (all 3) (true ∷ false ∷ true ∷ []) (on 0 "a|b" ++ on 1 "c|d" ++ on 2 "e|f") ≡
    Read 0 ∷ Read 1 ∷ Read 2 ∷ writes 0 "a" ∷ writes 2 "e" ∷ Take 0 ∷ Take 1 ∷ Take 2 ∷ Read 0 ∷ Read 1 ∷ Read 2 ∷ writes 0 "b" ∷ Take 0 ∷ Take 1 ∷ Take 2 ∷ Read 0 ∷ ends ∷ []
some_outputs = refl

all_refuse : wants_refused (0 ∷ 1 ∷ []) Synchronise (all 2) (all 2) (on 0 "a" ++ on 1 "b") ≡ Read 0 ∷ Read 1 ∷ writes 0 "a" ∷ writes 1 "b" ∷ ends ∷ []
all_refuse = refl
