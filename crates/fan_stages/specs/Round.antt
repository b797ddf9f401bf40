-- Where a stage that acts in rounds stands: which inputs it read, and whose records are in sight.
use Rattle.std.specs.Prelude.{◌≡◌, ◌<◌, ◌+◌, ◌-◌, ◌==◌, ◌&&◌, ℕ, Bool, true, false, not, nat_lt, List, [], ◌++◌, length, drop, filter, map, slice_get, if◌then◌else◌}
use Rattle.std.specs.declared.option.Option.{Option}
use Rattle.std.specs.declared.option.Option.TheVariants.{Some, None}
use Rattle.pipe_model.specs.Inputs.{records_from}
use Rattle.pipe_model.specs.Members.{has}
use Rattle.pipe_model.specs.Row.{Pair, Act, Known}
use Rattle.pipe_model.specs.Row.Act.{Takes}
use Rattle.pipe_model.specs.Shape.{Rounding, all_inputs, has_any}
use Rattle.stage_steps.specs.Plans.{last_from}
use Rattle.fan_stages.specs.declared.round.Round.{Round}

-- the last records of some inputs
abbrev pub lasts : List Pair → List ℕ → List Pair
lasts seen inputs = map (λ i. (i, last_from seen i)) inputs

-- the inputs whose records are in sight: those that were read, or, while it takes, those behind
abbrev pub in_sight : Bool → List ℕ → List ℕ → List ℕ
in_sight true behind ahead = ahead
in_sight false behind ahead = behind

-- the takes that are left
abbrev pub takes_by : Bool → ℕ → List ℕ → List Act
takes_by true place opened = map Takes (drop place opened)
takes_by false place opened = []

abbrev pub takes_left : Round → List Act
takes_left x = takes_by x.taking x.place x.open.items

abbrev pub takes_count : Round → ℕ
takes_count x = if x.taking then length x.open.items - x.place else 0

-- the place of the input that is read next
abbrev pub next_place : Round → ℕ
next_place x = if x.taking then 0 else x.place

-- before the first round
pub record BeginsRound (inputs : ℕ) (x : Round) : Type 0 where
  pub open_are : x.open.items ≡ all_inputs inputs
  pub place_is : x.place ≡ 0
  pub reads : x.taking ≡ false

-- with so many of the open inputs read it goes on to read, or begins to take where that is all
pub record IsSettled (opened : List ℕ) (place : ℕ) (x : Round) : Type 0 where
  pub open_are : x.open.items ≡ opened
  pub place_is : x.place ≡ (if nat_lt place (length opened) then place else 0)
  pub takes : x.taking ≡ (not (nat_lt place (length opened)) && has_any opened)

-- the next record to take, with which the round may end
abbrev pub GivesTake : Round → Round → Option ℕ → Type 0
GivesTake x y None = (y ≡ x) × (takes_left x ≡ [])
GivesTake x y (Some i) = (x.taking ≡ true) × (slice_get x.open.items x.place ≡ Some i) × (y.open.items ≡ x.open.items)
    × (y.place ≡ (if x.place + 1 == length x.open.items then 0 else x.place + 1)) × (y.taking ≡ not (x.place + 1 == length x.open.items))

-- the open inputs, of which some were read in this round
pub record RoundIs (inputs : ℕ) (opened : List ℕ) (place : ℕ) (taking : Bool) (k : Known) : Type 0 where
  pub behind : List ℕ
  pub ahead : List ℕ
  pub all_are : opened ≡ behind ++ ahead
  pub place_is : place ≡ length behind
  pub open_are : opened ≡ filter (λ i. not (has k.ends i)) (all_inputs inputs)
  pub sight_is : k.sight ≡ lasts k.seen (in_sight taking behind ahead)
  pub came : (i : ℕ) → has (in_sight taking behind ahead) i ≡ true → 0 < length (records_from i k.seen)
  pub takes_some : taking ≡ true → place < length opened

-- all that is in sight is taken in each round
abbrev pub rounds : Bool → (Known → List Pair) → Rounding
rounds strict outs = record { strict = strict; outs = outs; takes = λ k i. true }
