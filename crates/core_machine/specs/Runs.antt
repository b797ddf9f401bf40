-- What a run makes, and where it ends. It serves the inside.
use Rattle.std.specs.Prelude.{◌≡◌, ◌⊎◌, ◌≤◌, ℕ, Bool, true, false, not, List, [], ◌∷◌, ◌++◌, length, Some, None}
use Rattle.pipe_model.specs.declared.net.Net.{Net}
use Rattle.pipe_model.specs.declared.step.Entry.{Entry}
use Rattle.pipe_model.specs.declared.step.Seen.{Seen}
use Rattle.core_machine.specs.declared.run.Which.{Which}
use Rattle.core_machine.specs.declared.run.Which.TheVariants.{All, OfRecords, Quiet}
use Rattle.core_machine.specs.Answered.{LeastEvent, HasBroken, is_of_record}
use Rattle.core_machine.specs.Machine.{Machine}

-- it makes this event
abbrev pub is_made : Which → Seen → Bool
is_made All seen = true
is_made OfRecords seen = is_of_record true seen
is_made Quiet seen = is_of_record false seen

-- it may end before this event
abbrev pub may_end : Which → Seen → Bool
may_end All seen = false
may_end OfRecords seen = not (is_of_record false seen)
may_end Quiet seen = not (is_of_record false seen)

-- each entry that was added was that of the least event that might be, and one of these
abbrev pub AreSteps : (Seen → Bool) → Machine → List Entry → Type 0
AreSteps made m [] = Unit {0}
AreSteps made m (e ∷ es) = ((seen : Seen) × LeastEvent m (Some (e.strand, e.stream, seen)) × (made seen ≡ true)) × AreSteps made (record m { journal = m.journal ++ e ∷ [] }) es

-- the core went on so
pub record HasRunBy (made : Seen → Bool) (m n : Machine) : Type 0 where
  pub more : List Entry
  pub steps : AreSteps made m more
  pub after : n ≡ record m { journal = m.journal ++ more }

-- it broke on the way so, within the limit
pub record HasBrokenBy (made : Seen → Bool) (limit : ℕ) (m n : Machine) : Type 0 where
  pub broke : HasBroken m n
  pub steps : AreSteps made m broke.longer.0
  pub within : length n.journal ≤ limit

-- it goes on no further: the journal has as many entries as the limit, or no strand may have an event, or the least is one before which it may end
abbrev pub IsEndBy : (Seen → Bool) → ℕ → Machine → Type 0
IsEndBy ends limit m = (length m.journal ≡ limit) ⊎ (LeastEvent m None ⊎ ((r : ℕ × ℕ × Seen) × LeastEvent m (Some r) × (ends r.2 ≡ true)))

-- the journal went on by steps on records, as that of any core of this net with these jobs out
abbrev pub HasRelayed : Net → List ℕ → List Entry → List Entry → Type 0
HasRelayed net out old new =
    (more : List Entry) × (new ≡ old ++ more)
    × ((budget : ℕ) (broken : Bool) → AreSteps (is_made OfRecords) (record { net = net; budget = budget; journal = old; out = out; is_broken = broken }) more)
