-- What FANIN's value stands for.
use Rattle.std.specs.Prelude.{◌≡◌, ◌<◌, ℕ, nat_lt, if◌then◌else◌}
use Rattle.std.specs.declared.option.Option.{Option}
use Rattle.std.specs.declared.option.Option.TheVariants.{Some, None}
use Rattle.pipe_model.specs.Members.{has}
use Rattle.pipe_model.specs.Row.{Plan, Known}
use Rattle.pipe_model.specs.Shape.{all_inputs}
use Rattle.fan_stages.specs.declared.fan_in.FanIn.{FanIn}
use Rattle.fan_stages.specs.Passing.{PassesOn}

-- the input of this number, where there is one
abbrev pub input_within : ℕ → ℕ → Option ℕ
input_within inputs i = if nat_lt i inputs then Some i else None

-- it reads one input, and those before it have ended
pub record FanInStands (x : FanIn) (plan : Known → Plan) (k : Known) (left : Plan) : Type 0 where
  pub few : x.inputs < 65536
  pub ended : (i : ℕ) → has k.ends i ≡ nat_lt i x.input
  pub reads : PassesOn x.inputs (λ inputs seen. all_inputs inputs) x.passing (input_within x.inputs x.input) plan k left
