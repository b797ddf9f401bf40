-- What OVERLAY's value stands for.
use Rattle.std.specs.Prelude.{◌≡◌, ◌+◌, ℕ, Bool, true, false, List, [], ◌∷◌, ◌++◌, slice_get, if◌then◌else◌}
use Rattle.pipe_model.specs.FanRows.{overlaid, overlaying}
use Rattle.pipe_model.specs.Row.{Act, Plan, Known}
use Rattle.pipe_model.specs.Row.Act.{Writes}
use Rattle.pipe_model.specs.Shape.{look, records_of, round_plan}
use Rattle.fan_stages.specs.declared.overlay.Overlays.{Overlays}
use Rattle.fan_stages.specs.Round.{next_place, takes_left, takes_count, RoundIs}

-- the write of what was made, where it is still left
abbrev pub due_write : Bool → List ℕ → List Act
due_write true made = Writes 0 made ∷ []
due_write false made = []

abbrev pub overlay_count : Overlays → ℕ
overlay_count x = (if x.due then 1 else 0) + takes_count x.round

-- it is in a round, and made what is in sight; while it takes, nothing is made any more
pub record OverlaysStand (x : Overlays) (plan : Known → Plan) (k : Known) (left : Plan) : Type 0 where
  pub inputs : ℕ
  pub plan_is : plan ≡ round_plan inputs (overlaying x.pad)
  pub round : RoundIs inputs x.round.open.items x.round.place x.round.taking k
  pub due_takes : x.due ≡ true → x.round.taking ≡ true
  pub made_is : x.due ≡ false → x.made.items ≡ overlaid x.pad (if x.round.taking then [] else records_of k.sight)
  pub acts_are : left.acts ≡ due_write x.due x.made.items ++ takes_left x.round
  pub goal_is : left.goal ≡ look (slice_get x.round.open.items (next_place x.round))
