-- What an input is kept as, where a stage has a record of each in sight.
use Rattle.std.specs.Prelude.{◌≡◌, ◌<◌, ℕ, Bool, true, false, List, [], ◌∷◌, length}
use Rattle.pipe_model.specs.declared.range.Range.{Range}
use Rattle.pipe_model.specs.Ranges.{part_of}
use Rattle.pipe_model.specs.Inputs.{records_from}
use Rattle.pipe_model.specs.Members.{has}
use Rattle.pipe_model.specs.Row.{Known}
use Rattle.stage_steps.specs.Plans.{last_from}
use Rattle.collate_stage.specs.declared.lane.At.{At}
use Rattle.collate_stage.specs.declared.lane.At.TheVariants.{Lacking, InSight, Ended}
use Rattle.collate_stage.specs.declared.lane.Lane.{Lane}

abbrev pub is_lacking : At → Bool
is_lacking Lacking = true
is_lacking InSight = false
is_lacking Ended = false

abbrev pub in_sight : At → Bool
in_sight Lacking = false
in_sight InSight = true
in_sight Ended = false

abbrev pub is_over : At → Bool
is_over Lacking = false
is_over InSight = false
is_over Ended = true

-- a record with this key is in sight on the input, the one that came last there
pub record IsShown (range : Range) (k : Known) (i : ℕ) (key : List ℕ) : Type 0 where
  pub rec : List ℕ
  pub sight_is : records_from i k.sight ≡ rec ∷ []
  pub last_is : last_from k.seen i ≡ rec
  pub came : 0 < length (records_from i k.seen)
  pub key_is : part_of range rec ≡ key

-- what is in sight on the input
abbrev pub SightIs : Range → Known → ℕ → List ℕ → At → Type 0
SightIs range k i key InSight = IsShown range k i key
SightIs range k i key Lacking = records_from i k.sight ≡ []
SightIs range k i key Ended = records_from i k.sight ≡ []

-- so the input stands, by what the strand knows
pub record LaneIs (range : Range) (k : Known) (i : ℕ) (lane : Lane) : Type 0 where
  pub sight_is : SightIs range k i lane.key.items lane.at
  pub ends_are : has k.ends i ≡ is_over lane.at
