-- JUXTAPOSE.
use Rattle.std.specs.Prelude.{◌≡◌, [], ◌∷◌, ◌++◌, false, refl}
use Rattle.pipe_model.specs.declared.kind.Kind.TheVariants.{Juxtapose}
use Rattle.pipe_model.specs.Event.Want.{Any, Take}
use Rattle.pipe_model.specs.Form.Meeting.{Braided}
use Rattle.pipe_model.specs.Table.{form}
use Rattle.row_examples.specs.Wants.{part_of_stage, wants_of, wants_refused, written_by, all, on, writes, ends}

-- before each record of input 1 the last one of input 0
prefixes : written_by Juxtapose (all 2) (all 1) (on 0 "h1" ++ on 1 "x|y" ++ on 0 "h2" ++ on 1 "z") ≡ on 0 "h1x|h1y|h2z"
prefixes = refl

-- nothing before the first record of input 0
no_prefix : written_by Juxtapose (all 2) (all 1) (on 1 "x|y" ++ on 0 "h" ++ on 1 "z") ≡ on 0 "x|y|hz"
no_prefix = refl

-- a later prefix takes the place of an earlier one, also an empty one
later_prefix : written_by Juxtapose (all 2) (all 1) (on 0 "h|k" ++ on 1 "x" ++ on 0 "" ++ on 1 "y|") ≡ on 0 "kx|y|"
later_prefix = refl

-- a record of input 0 is taken, and nothing is written
in_order : wants_of Juxtapose (all 2) (all 1) (on 0 "h" ++ on 1 "x") ≡ Any ∷ Take 0 ∷ Any ∷ writes 0 "hx" ∷ Take 1 ∷ Any ∷ ends ∷ []
in_order = refl

refused : wants_refused (0 ∷ []) Juxtapose (all 2) (all 1) (on 0 "h" ++ on 1 "x|y") ≡ Any ∷ Take 0 ∷ Any ∷ writes 0 "hx" ∷ ends ∷ []
refused = refl

not_connected : wants_of Juxtapose (all 2) (false ∷ []) (on 0 "h" ++ on 1 "x") ≡ Any ∷ Take 0 ∷ Any ∷ Take 1 ∷ Any ∷ ends ∷ []
not_connected = refl

-- where its inputs lead back to one strand, the order of its records is settled
meets : (form (part_of_stage Juxtapose 0 (all 2) (all 1))).meeting ≡ Braided
meets = refl
