-- What SYNCHRONISE's value stands for.
use Rattle.std.specs.Prelude.{◌≡◌, ◌<◌, ◌+◌, ◌-◌, ℕ, Bool, true, false, List, [], ◌++◌, length, drop, slice_get, if◌then◌else◌}
use Rattle.std.specs.declared.option.Option.{Option}
use Rattle.std.specs.declared.option.Option.TheVariants.{Some, None}
use Rattle.pipe_model.specs.FanRows.{synchronising}
use Rattle.pipe_model.specs.Row.{Pair, Act, Plan, Known}
use Rattle.pipe_model.specs.Shape.{look, round_plan, writes}
use Rattle.fan_stages.specs.declared.synchronise.Synchronises.{Synchronises}
use Rattle.fan_stages.specs.Round.{lasts, next_place, takes_by, takes_count, RoundIs}

-- the writes that are left, where so many of the round's records were written
abbrev pub writes_by : Bool → ℕ → List ℕ → List Pair → List Act
writes_by true written opened seen = writes (lasts seen (drop written opened))
writes_by false written opened seen = []

abbrev pub synchronise_acts : Synchronises → List Pair → List Act
synchronise_acts x seen = writes_by x.round.taking x.written x.round.open.items seen ++ takes_by x.round.taking x.round.place x.round.open.items

abbrev pub acts_count : Synchronises → ℕ
acts_count x = (if x.round.taking then length x.round.open.items - x.written else 0) + takes_count x.round

-- the input whose record is written next
abbrev pub GivesWrite : Synchronises → Synchronises → Option ℕ → Type 0
GivesWrite x y None = (y ≡ x) × ((seen : List Pair) → writes_by x.round.taking x.written x.round.open.items seen ≡ [])
GivesWrite x y (Some i) = (x.round.taking ≡ true) × (slice_get x.round.open.items x.written ≡ Some i) × (y.round ≡ x.round) × (y.written ≡ x.written + 1)

-- it is in a round, where none has ended: then no input is open
pub record SynchronisesStand (x : Synchronises) (plan : Known → Plan) (k : Known) (left : Plan) : Type 0 where
  pub inputs : ℕ
  pub plan_is : plan ≡ round_plan inputs synchronising
  pub none_ended : 0 < length x.round.open.items → k.ends ≡ []
  pub round : 0 < length x.round.open.items → RoundIs inputs x.round.open.items x.round.place x.round.taking k
  pub writes_first : x.written < length x.round.open.items → x.round.taking ≡ true → x.round.place ≡ 0
  pub acts_are : left.acts ≡ synchronise_acts x k.seen
  pub goal_is : left.goal ≡ look (slice_get x.round.open.items (next_place x.round))
