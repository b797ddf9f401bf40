-- What a cycle in code stands for; it serves the inside.
use Rattle.std.specs.Prelude.{◌≡◌, ◌≤◌, ℕ, suc, Bool, true, false, List, [], ◌∷◌, ◌++◌, length, option_and_then}
use Rattle.std.specs.declared.option.Option.{Option}
use Rattle.std.specs.declared.option.Option.TheVariants.{Some, None}
use Rattle.pipe_model.specs.declared.items.Item.{Item}
use Rattle.pipe_model.specs.Shape.{Records}
use Rattle.pipe_model.specs.SpecsRows as rows
use Rattle.specs_stage.specs.declared.cycle.Cycle.{Cycle}
use Rattle.specs_stage.specs.declared.desk.Desk.{Desk}
use Rattle.specs_stage.specs.Desks.{desk_of, with_written}

-- after a fault there is no desk
abbrev pub unless_faulty : Bool → rows.Desk → Option rows.Desk
unless_faulty true d = None
unless_faulty false d = Some d

-- what a cycle's first n records bring about, over these records
abbrev pub ran_to : List Item → ℕ → Option rows.Desk → Records → Option rows.Desk
ran_to items n desk recs = option_and_then (λ d. rows.run (rows.reached n items) (rows.begun d recs)) desk

-- how many records a cycle has that waits for more
abbrev pub come : List Item → Records → ℕ
come items recs = length (rows.waiting items recs)

-- between two cycles, the next place being the front; what the last one wrote may have been given away
pub record IsBetween (items : List Item) (x : Desk) (wrote : Records) (at : ℕ) (faulty : Bool) (recs : Records) : Type 0 where
  pub hand : List ℕ
  pub coming : Records
  pub desk_is : rows.after_cycles items recs ≡ unless_faulty faulty (with_written wrote (desk_of x hand coming))
  pub at_is : faulty ≡ false → at ≡ 0

-- within one, whatever records come more
pub record IsWithin (items : List Item) (x : Desk) (at : ℕ) (faulty : Bool) (recs : Records) : Type 0 where
  pub hand : List ℕ
  pub desk_is : (more : Records) → ran_to items (come items recs) (rows.after_cycles items recs) (rows.waiting items recs ++ more) ≡ unless_faulty faulty (desk_of x hand more)
  pub at_is : faulty ≡ false → at ≡ suc (length (rows.reached (come items recs) items))

-- the desk and the place stand for these records
pub record IsAt (items : List Item) (x : Desk) (wrote : Records) (at : ℕ) (faulty : Bool) (recs : Records) : Type 0 where
  pub number : faulty ≡ false → x.number ≤ length recs
  pub between : come items recs ≡ 0 → IsBetween items x wrote at faulty recs
  pub within : 1 ≤ come items recs → IsWithin items x at faulty recs

abbrev pub IsCycle : Cycle → Records → Type 0
IsCycle x recs = IsAt x.items.items x.desk x.desk.written.items x.at x.is_faulty recs

-- the same where the last cycle wrote this, and it may have been given away
abbrev pub IsCycleAfter : Cycle → Records → Records → Type 0
IsCycleAfter x wrote recs = IsAt x.items.items x.desk wrote x.at x.is_faulty recs

-- the cycle has gone on with one more record, whatever records come then
abbrev pub RanOn : List Item → Records → List ℕ → Bool → Desk → Type 0
RanOn items recs rec faulty y = (more : Records) →
    ran_to items (suc (come items recs)) (rows.after_cycles items recs) ((rows.waiting items recs ++ rec ∷ []) ++ more) ≡ unless_faulty faulty (desk_of y rec more)

-- up to this place, or up to a fault
abbrev pub IsReached : List Item → Records → List ℕ → Desk → Option ℕ → Type 0
IsReached items recs rec y None = RanOn items recs rec true y
IsReached items recs rec y (Some at) = RanOn items recs rec false y × (at ≡ length (rows.reached (suc (come items recs)) items)) × (y.number ≤ length (recs ++ rec ∷ []))

-- input has ended, and the cycle that waited with it
pub record IsEnded (items : List Item) (x : Desk) (faulty : Bool) (recs : Records) : Type 0 where
  pub hand : List ℕ
  pub coming : Records
  pub wrote : Records
  pub desk_is : rows.after_input items recs ≡ unless_faulty faulty (with_written wrote (desk_of x hand coming))
  pub number : faulty ≡ false → x.number ≤ length recs
