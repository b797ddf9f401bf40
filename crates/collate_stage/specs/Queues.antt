-- The order in which the records in sight on many inputs go.
use Rattle.std.specs.Prelude.{◌≡◌, ℕ, ◌==◌, nat_lt, Bool, true, false, ◌&&◌, ◌||◌, not, List, slice_get, AllPairs}
use Rattle.std.specs.declared.option.Option.{Option}
use Rattle.std.specs.declared.option.Option.TheVariants.{Some, None}
use Rattle.pipe_model.specs.Keys.{is_less, is_same}
use Rattle.pipe_model.specs.Members.{has}
use Rattle.collate_stage.specs.declared.lane.Lane.{Lane}
use Rattle.collate_stage.specs.Lanes.{in_sight}

-- the record with the key on input i goes before the other one on input j
abbrev pub leads : List ℕ → ℕ → List ℕ → ℕ → Bool
leads key i other j = is_less key other || (is_same key other && nat_lt i j)

abbrev pub lane_leads : Option Lane → ℕ → Option Lane → ℕ → Bool
lane_leads None i other j = false
lane_leads (Some lane) i None j = false
lane_leads (Some lane) i (Some other) j = leads lane.key.items i other.key.items j

-- there are both inputs, and the record of the first goes before that of the second
abbrev pub goes_before : List Lane → ℕ → ℕ → Bool
goes_before lanes i j = lane_leads (slice_get lanes i) i (slice_get lanes j) j

abbrev pub lane_sees : Option Lane → Bool
lane_sees None = false
lane_sees (Some lane) = in_sight lane.at

-- a record is in sight on the input
abbrev pub sees_at : List Lane → ℕ → Bool
sees_at lanes i = lane_sees (slice_get lanes i)

-- a record is in sight on the input, which isn't input i
abbrev pub waits : List Lane → ℕ → ℕ → Bool
waits lanes i j = not (i == j) && sees_at lanes j

-- the inputs that are in it: the one whose record goes first is the last
pub record IsQueue (lanes : List Lane) (is_in : ℕ → Bool) (queue : List ℕ) : Type 0 where
  pub members : (i : ℕ) → has queue i ≡ is_in i
  pub order : AllPairs (λ i j. goes_before lanes j i ≡ true) queue
