-- FANINANY.
use Rattle.std.specs.Prelude.{◌≡◌, [], ◌∷◌, ◌++◌, refl}
use Rattle.pipe_model.specs.declared.kind.Kind.TheVariants.{FanInAny}
use Rattle.pipe_model.specs.Event.Want.{Any, Take}
use Rattle.pipe_model.specs.Form.Meeting.{Braided}
use Rattle.pipe_model.specs.Table.{form}
use Rattle.row_examples.specs.Wants.{part_of_stage, wants_of, wants_refused, written_by, all, on, writes, ends}

-- what comes first, whichever input it comes to
order : written_by FanInAny (all 3) (all 1) (on 2 "e" ++ on 1 "c|d" ++ on 0 "a|b") ≡ on 0 "e|c|d|a|b"
order = refl

wants : wants_of FanInAny (all 2) (all 1) (on 1 "b" ++ on 0 "a") ≡ Any ∷ writes 0 "b" ∷ Take 1 ∷ Any ∷ writes 0 "a" ∷ Take 0 ∷ Any ∷ ends ∷ []
wants = refl

refused : wants_refused (0 ∷ []) FanInAny (all 2) (all 1) (on 1 "b" ++ on 0 "a") ≡ Any ∷ writes 0 "b" ∷ ends ∷ []
refused = refl

-- where its inputs lead back to one strand, the order of its records is settled
meets : (form (part_of_stage FanInAny 0 (all 2) (all 1))).meeting ≡ Braided
meets = refl
