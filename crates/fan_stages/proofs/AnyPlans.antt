-- The plans of FANINANY and JUXTAPOSE by a record.
use Rattle.std.proofs.Common.{◌≡◌, ◌≢◌, ℕ, Bool, true, false, cond, ◌==◌, List, [], ◌∷◌, ◌++◌, refl, sym, ◌∙◌, ap}
use Rattle.std.proofs.lemmas.Bool.{ne_eqb}
use Rattle.pipe_model.specs.Event.{Want}
use Rattle.pipe_model.specs.Event.Event.{Saw}
use Rattle.pipe_model.specs.Event.Want.{Any}
use Rattle.pipe_model.specs.FanRows.{passed, juxtaposed}
use Rattle.pipe_model.specs.Next.{hears}
use Rattle.pipe_model.specs.Row.{Pair, Act, Known}
use Rattle.pipe_model.specs.Row.Act.{Takes}
use Rattle.pipe_model.specs.Row.Goal.{Asks}
use Rattle.pipe_model.specs.Shape.{asks, writes}
use Rattle.stage_steps.specs.Plans.{last_from}
use Rattle.fan_stages.specs.declared.passing.Passing.{Passing}
use Rattle.fan_stages.specs.declared.passing.Passing.TheVariants.{Writing, Taking}
use Rattle.fan_stages.specs.FanAny.{any_goal, any_plan, IsLeft}
use Rattle.fan_stages.specs.Passing.{passing_acts}
use Rattle.fan_stages.proofs.Sights.{causes_last, last_is, last_same}

module _ (k : Known) (want : Want) (passing : Passing) (all_ended : Bool) (made : ℕ → List ℕ) (is : IsLeft passing all_ended made (asks want)) (i : ℕ) (rec : List ℕ) where
  abbrev now : Known
  now = hears k (Saw i rec)

  -- it writes these pairs, and takes the record
  abbrev acting : List Pair → List Act
  acting pairs = writes pairs ++ Takes i ∷ []

  -- it looks again then: it asked for the record, so not all inputs have ended
  looks_again : (ended : Bool) → Asks want ≡ any_goal ended → Asks Any ≡ any_goal ended
  looks_again true goal_is = cc
  looks_again false goal_is = refl

  goes_on : (outs : List Pair → List Pair) (passing : Passing) (made : ℕ → List ℕ) → acting (outs now.seen) ≡ passing_acts passing made → IsLeft passing all_ended made (any_plan outs now)
  goes_on outs passing made acts = record { acts_are = acts; goal_is = looks_again all_ended is.goal_is }

  -- FANINANY writes the record in sight
  pub passes : IsLeft (Writing i) all_ended (last_from now.seen) (any_plan passed now)
  passes = goes_on passed (Writing i) (last_from now.seen) (ap acting (causes_last (λ j rec. (0, rec) ∷ []) k.seen (i, rec)) ∙ ap (λ r. acting ((0, r) ∷ [])) (sym (last_is k.seen i rec)))

  -- what JUXTAPOSE writes of a record of input 1, whichever record it is
  abbrev joined : List Pair
  joined = (0, last_from now.seen 0 ++ rec) ∷ []

  by_input : acting (juxtaposed now.seen) ≡ acting (cond (i == 0) [] joined)
  by_input = ap acting (causes_last (λ j rec. cond (j == 0) [] ((0, last_from now.seen 0 ++ rec) ∷ [])) k.seen (i, rec))

  -- JUXTAPOSE writes nothing of a record of input 0
  pub keeps : (new : List ℕ) → i ≡ 0 → IsLeft (Taking i) all_ended (λ j. new) (any_plan juxtaposed now)
  keeps new here = goes_on juxtaposed (Taking i) (λ j. new) (by_input ∙ ap (λ j. acting (cond (j == 0) [] joined)) here)

  -- and one of another input behind the last one of input 0
  pub joins : (new : List ℕ) → i ≢ 0 → new ≡ last_from k.seen 0 ++ rec → IsLeft (Writing i) all_ended (λ j. new) (any_plan juxtaposed now)
  joins new other new_is = goes_on juxtaposed (Writing i) (λ j. new)
      (by_input ∙ ap (λ b. acting (cond b [] joined)) (ne_eqb i 0 other) ∙ ap (λ l. acting ((0, l ++ rec) ∷ [])) (last_same k.seen i rec 0 other) ∙ ap (λ l. acting ((0, l) ∷ [])) (sym new_is))
