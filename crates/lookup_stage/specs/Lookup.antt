-- What LOOKUP's plans stand for.
use Rattle.std.specs.Prelude.{◌≡◌, ◌<◌, ◌+◌, ℕ, Bool, true, List, [], ◌∷◌, ◌++◌, length, map, pos}
use Rattle.std.specs.List.{list_any}
use Rattle.std.specs.declared.option.Option.{Option}
use Rattle.std.specs.declared.option.Option.TheVariants.{Some, None}
use Rattle.pipe_model.specs.declared.range.Range.{Range}
use Rattle.pipe_model.specs.Event.Want.{Read}
use Rattle.pipe_model.specs.Row.{Pair, Act, Goal, Plan, Known}
use Rattle.pipe_model.specs.Row.Act.{Writes, Takes}
use Rattle.pipe_model.specs.Row.Goal.{Asks, Ends}
use Rattle.pipe_model.specs.Shape.{Records, writes, turn_plan}
use Rattle.pipe_model.specs.Counts.{all_on}
use Rattle.pipe_model.specs.Inputs.{records_from}
use Rattle.pipe_model.specs.JoiningRows.{agree, first_of_key, looking_up}
use Rattle.pipe_model.specs.Ranges.{part_of}
use Rattle.stage_steps.specs.Plans.{last_from}
use Rattle.lookup_stage.specs.declared.lookup.Due.{Due}
use Rattle.lookup_stage.specs.declared.lookup.Due.TheVariants.{Nothing, Take, Alone, Both, Master}
use Rattle.lookup_stage.specs.declared.lookup.Lookup.{Lookup}
use Rattle.lookup_stage.specs.declared.lookup.Reading.{Reading}
use Rattle.lookup_stage.specs.declared.lookup.Reading.TheVariants as At
use Rattle.lookup_stage.specs.Entry.{Entry}

-- the plans of LOOKUP's row
abbrev pub lookup_plan : Range → Range → Known → Plan
lookup_plan of_detail of_master k = turn_plan 2 (looking_up of_detail of_master) k k.told

-- a master, and whether one of these details matches it
abbrev pub entry_for : Range → Range → Records → List ℕ → Entry
entry_for of_master of_detail details master = record { key = part_of of_master master; rec = master; is_matched = list_any (agree of_master of_detail master) details }

-- of masters with one key the first, by all masters and details that came
abbrev pub entries_by : Range → Range → Records → Records → List Entry
entries_by of_master of_detail masters details = map (entry_for of_master of_detail details) (first_of_key of_master masters)

-- what is left to do of the record in sight, by the last detail
abbrev pub acts_due : Due → List ℕ → List Act
acts_due Nothing detail = []
acts_due (Take i) detail = Takes i ∷ []
acts_due Alone detail = Writes 1 detail ∷ Takes 0 ∷ []
acts_due (Both master) detail = Writes 0 detail ∷ Writes 0 master ∷ Takes 0 ∷ []
acts_due (Master master) detail = Writes 0 master ∷ Takes 0 ∷ []

-- where a detail is to be written, one came
abbrev pub IsOfDetail : Due → List Pair → Type 0
IsOfDetail Alone seen = 0 < length (records_from 0 seen)
IsOfDetail (Both master) seen = 0 < length (records_from 0 seen)
IsOfDetail _ seen = Unit {0}

-- what is to be done of a detail, by the master with its key
abbrev pub due_for : Option (List ℕ) → Due
due_for None = Alone
due_for (Some master) = Both master

-- all that is left: behind the last detail the masters that no detail matched
abbrev pub acts_left : Lookup → List Pair → List Act
acts_left x seen = acts_due x.due (last_from seen 0) ++ writes (all_on 2 x.unmatched)

-- what follows
abbrev pub goal_at : Reading → Goal
goal_at At.Masters = Asks (Read 1)
goal_at At.Details = Asks (Read 0)
goal_at At.Over = Ends (pos 0)

-- while it reads, by the inputs that ended: it keeps the masters, and none is left over
pub record IsKeeping (ends : List ℕ) (x : Lookup) (k : Known) : Type 0 where
  pub ends_are : k.ends ≡ ends
  pub masters_are : x.masters ≡ entries_by x.of_master x.of_detail (records_from 1 k.seen) (records_from 0 k.seen)
  pub none_left : x.unmatched ≡ []

abbrev pub IsReading : Reading → Lookup → Known → Type 0
IsReading At.Masters x k = IsKeeping [] x k × (records_from 0 k.seen ≡ [])
IsReading At.Details x k = IsKeeping (1 ∷ []) x k
IsReading At.Over x k = Unit {0}

-- the value stands for LOOKUP's plans, for what its strand knows, and for what is left of the plan that was made last
pub record LookupIs (x : Lookup) (plan : Known → Plan) (k : Known) (left : Plan) : Type 0 where
  pub plan_is : plan ≡ lookup_plan x.of_detail x.of_master
  pub goal_is : left.goal ≡ goal_at x.reading
  pub acts_are : left.acts ≡ acts_left x k.seen
  pub came : IsOfDetail x.due k.seen
  pub reading_is : IsReading x.reading x k

-- it looks at records
abbrev pub lookup_looks : Lookup → Bool
lookup_looks x = true

-- how many acts are left at most
abbrev pub lookup_left : Lookup → ℕ
lookup_left x = length (acts_due x.due []) + length x.unmatched
