-- A coroutine that passes the record at hand on needn't be told that its record was put, or that the one at hand was taken.
use Rattle.std.specs.Prelude.{◌≡◌, ℕ, true, List, ◌∷◌, Some}
use Rattle.pipe_model.specs.declared.net.Strand.{Strand}
use Rattle.pipe_model.specs.Event.{Event, answers}
use Rattle.pipe_model.specs.Event.Event.{Took, Put}
use Rattle.pipe_model.specs.Event.Want.{Read, Take}
use Rattle.pipe_model.specs.Next.{next}

-- each history for which the value stands, where a record may be put: it stands for the history with that too, and the record of input 0 is taken then
abbrev pub PassesPut : {S : Type 0} → (S → Strand → List Event → Type 0) → S → Type 0
PassesPut stands x = (s : Strand) (h : List Event) (o : ℕ) (rec : List ℕ) → stands x s h → answers (next s h) (Put o rec) ≡ true →
    stands x s (Put o rec ∷ h) × (next s (Put o rec ∷ h) ≡ Some (Take 0))

-- the same where a record may be taken, and the next one of input 0 is looked at then
abbrev pub PassesTook : {S : Type 0} → (S → Strand → List Event → Type 0) → S → Type 0
PassesTook stands x = (s : Strand) (h : List Event) (i : ℕ) → stands x s h → answers (next s h) (Took i) ≡ true →
    stands x s (Took i ∷ h) × (next s (Took i ∷ h) ≡ Some (Read 0))

-- both
abbrev pub PassesOn : {S : Type 0} → (S → Strand → List Event → Type 0) → S → Type 0
PassesOn stands x = PassesPut stands x × PassesTook stands x
