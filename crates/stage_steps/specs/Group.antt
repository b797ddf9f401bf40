-- What stages of lists give, group by group.
use Rattle.std.specs.Prelude.{◌≡◌, ◌<◌, length, ℕ, ◌-◌, ◌==◌, Bool, true, ◌&&◌, not, if◌then◌else◌, List, [], ◌∷◌, replicate, option_map, is_some, unwrap_or}
use Rattle.std.specs.declared.option.Option.{Option}
use Rattle.std.specs.declared.option.Option.TheVariants.{Some, None}
use Rattle.pipe_model.specs.declared.kind.Times.{Times}
use Rattle.pipe_model.specs.declared.kind.Times.TheVariants.{Only, All}
use Rattle.pipe_model.specs.Members.{flag_at}
use Rattle.pipe_model.specs.Row.{Act}
use Rattle.pipe_model.specs.Row.Act.{Writes, Repeats}
use Rattle.pipe_model.specs.Shape.{Records, writes}
use Rattle.stage_steps.specs.declared.group.Repeat.{Repeat}
use Rattle.stage_steps.specs.declared.group.Group.{Group}
use Rattle.stage_steps.specs.declared.group.Group.TheVariants.{AtHand, New}

-- a record on an output, so many times in a row, or again and again
abbrev pub acts_by : Times → ℕ → List ℕ → List Act
acts_by (Only n) o rec = writes (replicate n (o, rec))
acts_by All o rec = Repeats o rec ∷ []

-- what is to be done by the record at hand, and by the new record that the lists hold
abbrev pub group_acts : List ℕ → Option (List ℕ) → Group → List Act
group_acts rec made (AtHand r) = acts_by r.times r.output rec
group_acts rec made (New o) = Writes o (unwrap_or made []) ∷ []

-- the lists hold a new record where the group is one
abbrev pub IsHeld : Option (List ℕ) → Group → Type 0
IsHeld made (AtHand r) = Unit {0}
IsHeld made (New o) = is_some made ≡ true

-- where the group is of the record at hand, there was one
abbrev pub IsOfRecord : Records → Group → Type 0
IsOfRecord recs (AtHand r) = 0 < length recs
IsOfRecord recs (New o) = Unit {0}

-- where something of the record at hand is left, there was one
abbrev pub IsLeftOfRecord : Records → Option Repeat → Type 0
IsLeftOfRecord recs None = Unit {0}
IsLeftOfRecord recs (Some r) = 0 < length recs

-- what is left to do of a record at hand that may be left
abbrev pub held_acts : List ℕ → Option Repeat → List Act
held_acts rec None = []
held_acts rec (Some r) = acts_by r.times r.output rec

abbrev pub has_more : Times → Bool
has_more (Only n) = not (n == 0)
has_more All = true

-- it writes something, and its output is open
abbrev pub is_due : List Bool → Group → Bool
is_due flags (AtHand r) = flag_at flags r.output && has_more r.times
is_due flags (New o) = flag_at flags o

-- one time less, if any is left
abbrev pub less : Times → Option Times
less (Only n) = if n == 1 then None else Some (Only (n - 1))
less All = Some All

-- what is left when one is written
abbrev pub less_one : Repeat → Option Repeat
less_one r = option_map (λ times. record r { times = times }) (less r.times)
