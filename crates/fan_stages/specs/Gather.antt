-- What GATHER's value stands for.
use Rattle.std.specs.Prelude.{◌≡◌, ℕ, Bool, List, ◌++◌, length, filter, nat_lt, slice_get, if◌then◌else◌}
use Rattle.std.specs.declared.option.Option.{Option}
use Rattle.pipe_model.specs.FanRows.{around, behind_last}
use Rattle.pipe_model.specs.Row.{Plan, Known}
use Rattle.pipe_model.specs.Shape.{all_inputs, can_read}
use Rattle.fan_stages.specs.declared.gather.Gather.{Gather}
use Rattle.fan_stages.specs.Passing.{PassesOn}

-- of those that are open the one whose turn it is, where so many had it
abbrev pub turn_of : List ℕ → ℕ → Option ℕ
turn_of opened place = slice_get opened (if nat_lt place (length opened) then place else 0)

-- the inputs whose turn was, and those whose turn is to come: of each the open ones are kept
pub record IsTurn (can : ℕ → Bool) (all before behind opened : List ℕ) (place : ℕ) : Type 0 where
  pub all_are : all ≡ before ++ behind
  pub open_are : opened ≡ filter can before ++ filter can behind
  pub place_is : place ≡ length (filter can before)

-- it reads the open inputs in turn
pub record GatherStands (x : Gather) (plan : Known → Plan) (k : Known) (left : Plan) : Type 0 where
  pub inputs : ℕ
  pub before : List ℕ
  pub behind : List ℕ
  pub turn : IsTurn (can_read inputs k.ends) (all_inputs inputs) before behind x.open.items x.place
  pub last_is : behind_last k.seen ≡ length before
  pub reads : PassesOn inputs (λ inputs seen. around (behind_last seen) (all_inputs inputs)) x.passing (turn_of x.open.items x.place) plan k left
