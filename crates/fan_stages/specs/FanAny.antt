-- What the plans of FANINANY and JUXTAPOSE stand for.
use Rattle.std.specs.Prelude.{◌≡◌, ℕ, Bool, true, false, List, pos}
use Rattle.pipe_model.specs.Event.Want.{Any}
use Rattle.pipe_model.specs.FanRows.{passed, juxtaposed}
use Rattle.pipe_model.specs.Row.{Pair, Goal, Plan, Known}
use Rattle.pipe_model.specs.Row.Goal.{Asks, Ends}
use Rattle.pipe_model.specs.Shape.{first_plan}
use Rattle.stage_steps.specs.Plans.{last_from}
use Rattle.fan_stages.specs.declared.fan_any.FansInAny.{FansInAny}
use Rattle.fan_stages.specs.declared.fan_any.Juxtaposes.{Juxtaposes}
use Rattle.fan_stages.specs.declared.passing.Passing.{Passing}
use Rattle.fan_stages.specs.Passing.{passing_acts, IsOfCame}

-- the plans of who looks at any input, by the pairs that a record causes
abbrev pub any_plan : (List Pair → List Pair) → Known → Plan
any_plan outs k = first_plan outs k k.told

-- what follows, by whether all inputs have ended
abbrev pub any_goal : Bool → Goal
any_goal true = Ends (pos 0)
any_goal false = Asks Any

-- what is left, by the record that is written for one of an input
pub record IsLeft (passing : Passing) (all_ended : Bool) (made : ℕ → List ℕ) (left : Plan) : Type 0 where
  pub acts_are : left.acts ≡ passing_acts passing made
  pub goal_is : left.goal ≡ any_goal all_ended

-- FANINANY: what is left writes the record in sight
pub record FansInAnyStand (x : FansInAny) (plan : Known → Plan) (k : Known) (left : Plan) : Type 0 where
  pub plan_is : plan ≡ any_plan passed
  pub left_is : IsLeft x.passing x.all_ended (last_from k.seen) left
  pub came : IsOfCame x.passing k.seen

-- JUXTAPOSE: the last record of input 0 is the prefix, and what is left writes the new record
pub record JuxtaposesStand (x : Juxtaposes) (plan : Known → Plan) (k : Known) (left : Plan) : Type 0 where
  pub plan_is : plan ≡ any_plan juxtaposed
  pub left_is : IsLeft x.passing x.all_ended (λ i. x.new) left
  pub prefix_is : x.prefix.items ≡ last_from k.seen 0
