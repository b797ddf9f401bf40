-- What a window of the last records stands for.
use Rattle.std.specs.Prelude.{◌≡◌, ◌<◌, ℕ, Bool, true, false, List, [], ◌∷◌, length}
use Rattle.std.specs.declared.option.Option.{Option}
use Rattle.std.specs.declared.option.Option.TheVariants.{Some, None}
use Rattle.pipe_model.specs.declared.kind.Kind.{Kind}
use Rattle.pipe_model.specs.Counts.{of_all, last_of, all_on}
use Rattle.pipe_model.specs.Row.{Act}
use Rattle.pipe_model.specs.Row.Act.{Writes}
use Rattle.pipe_model.specs.SelectionRows.{window}
use Rattle.pipe_model.specs.Shape.{Records, Stream, at_hand_of, writes}
use Rattle.pipe_model.specs.Table.{line_of, hold}
use Rattle.select_stages.specs.declared.window.Due.{Due}
use Rattle.select_stages.specs.declared.window.Due.TheVariants.{Nothing, AtHand, Gone, Rest}
use Rattle.select_stages.specs.declared.window.Window.{Window}

-- the record that left, on this output
abbrev pub gone_act : ℕ → Option (List ℕ) → List Act
gone_act o None = []
gone_act o (Some rec) = Writes o rec ∷ []

-- the acts that are left
abbrev pub due_acts : Due → Window → Records → List Act
due_acts Nothing x recs = []
due_acts AtHand x recs = Writes x.leaving (at_hand_of recs) ∷ []
due_acts Gone x recs = gone_act x.leaving x.gone
due_acts Rest x recs = writes (all_on x.staying x.records.items)

-- it gives the records at the end of input
abbrev pub is_over : Due → Bool
is_over Rest = true
is_over _ = false

-- up to the end of input it holds the last records
abbrev pub IsHolding : Bool → Window → Records → Type 0
IsHolding over x recs = over ≡ false → x.records.items ≡ last_of (of_all x.times (length recs)) recs

-- where the record at hand is due, there was one
abbrev pub IsDue : Due → Records → Type 0
IsDue AtHand recs = 0 < length recs
IsDue _ recs = Unit {0}

abbrev pub WindowStands : Window → Bool → Stream → Records → List Act → Type 0
WindowStands x over t recs acts = (t ≡ window x.leaving x.staying x.times) × (is_over x.due ≡ over) × IsHolding over x recs × (acts ≡ due_acts x.due x recs) × IsDue x.due recs

-- TAKE LAST and DROP LAST look at records
abbrev pub window_looks : Window → Bool
window_looks x = true

-- the record that left is held from its group on
abbrev pub made_by : Due → Option (List ℕ) → Option (List ℕ)
made_by Gone oldest = None
made_by _ oldest = oldest

abbrev pub window_made : Window → Option (List ℕ)
window_made x = made_by x.due x.gone

-- how many groups are left at most
abbrev pub left_by : Due → ℕ → ℕ
left_by Nothing n = 0
left_by AtHand n = 1
left_by Gone n = 1
left_by Rest n = n

abbrev pub window_left : Window → ℕ
window_left x = left_by x.due (length x.records.items)

-- before the first record the window stands for what the stage table says of the kind
abbrev pub IsWindowOf : Window → Kind → Type 0
IsWindowOf x kind = (t : Stream) × ((line_of kind).shape ≡ hold t) × ((line_of kind).looks ≡ true) × WindowStands x false t [] []
