-- What the lists of SPECS stand for.
use Rattle.std.specs.Prelude.{◌≡◌, ◌≤◌, ◌-◌, ◌==◌, ℕ, Bool, true, false, not, if◌then◌else◌, List, length, drop, slice_get, is_none}
use Rattle.std.specs.declared.option.Option.{Option}
use Rattle.std.specs.declared.option.Option.TheVariants.{None}
use Rattle.pipe_model.specs.Counts.{all_on}
use Rattle.pipe_model.specs.Row.{Act}
use Rattle.pipe_model.specs.Shape.{Records, Stream, writes}
use Rattle.pipe_model.specs.SpecsRows.{specs, reads, so_far, after_all}
use Rattle.stage_steps.specs.declared.order.Order.{Order}
use Rattle.stage_steps.specs.declared.order.Order.TheVariants.{WritesFirst, TakesFirst}
use Rattle.specs_stage.specs.declared.specs_lists.SpecsLists.{SpecsLists}
use Rattle.specs_stage.specs.Cycles.{IsCycleAfter}

-- up to the end of input they have a cycle, and behind it they know whether there was a fault at all
abbrev pub IsRunning : Bool → SpecsLists → Records → Type 0
IsRunning false x recs = (wrote : Records) × IsCycleAfter x.cycle wrote recs × (length recs ≤ 50000000)
IsRunning true x recs = x.cycle.is_faulty ≡ is_none (after_all x.cycle.items.items x.eof recs)

-- the lists stand for SPECS of their items and their EOF list, these records so far, and what is left to give
pub record SpecsStand (x : SpecsLists) (over : Bool) (t : Stream) (recs : Records) (acts : List Act) : Type 0 where
  pub stream_is : t ≡ specs x.cycle.items.items x.eof
  -- they know whether there is a READ, and whether there was a fault before the end of input
  pub reads_is : x.has_read ≡ not (reads x.cycle.items.items == 0)
  pub faulty_is : x.was_faulty ≡ is_none (so_far x.cycle.items.items recs)
  pub running : IsRunning over x recs
  pub acts_are : acts ≡ writes (all_on 0 (drop x.given x.due.items))

-- they look at records
abbrev pub specs_look : SpecsLists → Bool
specs_look x = true

-- the record that was given last
abbrev pub last_given : ℕ → Records → Option (List ℕ)
last_given given due = if given == 0 then None else slice_get due (given - 1)

abbrev pub specs_made : SpecsLists → Option (List ℕ)
specs_made x = last_given x.given x.due.items

-- how many groups are left
abbrev pub specs_left : SpecsLists → ℕ
specs_left x = length x.due.items - x.given

-- records are taken first where there is a READ
abbrev pub order_by : Bool → Order
order_by true = TakesFirst
order_by false = WritesFirst
