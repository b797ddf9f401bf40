-- FANIN.
use Rattle.std.specs.Prelude.{◌≡◌, [], ◌∷◌, ◌++◌, true, false, refl}
use Rattle.pipe_model.specs.declared.kind.Kind.TheVariants.{FanIn}
use Rattle.pipe_model.specs.Event.Want.{Read, Take}
use Rattle.pipe_model.specs.Form.Meeting.{Ordered}
use Rattle.pipe_model.specs.Table.{form}
use Rattle.row_examples.specs.Wants.{part_of_stage, wants_of, wants_refused, written_by, all, on, writes, ends}

-- each input to its end, in the order of their numbers, whichever came first
order : written_by FanIn (all 3) (all 1) (on 2 "e" ++ on 1 "c|d" ++ on 0 "a|b") ≡ on 0 "a|b|c|d|e"
order = refl

wants : wants_of FanIn (all 2) (all 1) (on 0 "a" ++ on 1 "b") ≡ Read 0 ∷ writes 0 "a" ∷ Take 0 ∷ Read 0 ∷ Read 1 ∷ writes 0 "b" ∷ Take 1 ∷ Read 1 ∷ ends ∷ []
wants = refl

-- an input that isn't connected has ended
hole : wants_of FanIn (true ∷ false ∷ true ∷ []) (all 1) (on 2 "a") ≡ Read 0 ∷ Read 1 ∷ Read 2 ∷ writes 0 "a" ∷ Take 2 ∷ Read 2 ∷ ends ∷ []
hole = refl

-- a refusal ends it, with the record in sight
refused : wants_refused (0 ∷ []) FanIn (all 2) (all 1) (on 0 "a" ++ on 1 "b") ≡ Read 0 ∷ writes 0 "a" ∷ ends ∷ []
refused = refl

-- its row says which input it reads
meets : (form (part_of_stage FanIn 0 (all 2) (all 1))).meeting ≡ Ordered
meets = refl
