-- The first stretch of a cut, and the rest.
use Rattle.std.specs.Prelude.{◌≡◌, ℕ, ◌+◌, ◌<◌, Bool, List, [], ◌∷◌, length}
use Rattle.spec_scanner.specs.declared.item.Item.{Item}
use Rattle.spec_scanner.specs.Stretches.{cut}

-- none of the items parts
abbrev pub IsWhole : (Item → Bool) → List Item → Type 0
IsWhole parts items = (closed : ℕ) → cut parts items closed ≡ record { inside = items; closed = closed } ∷ []

-- the first item that parts stands at this place, between the front and the rest
pub record IsCut (parts : Item → Bool) (items front : List Item) (place : ℕ) (rest : List Item) : Type 0 where
  pub stretches : (closed : ℕ) → cut parts items closed ≡ record { inside = front; closed = place } ∷ cut parts rest closed
  pub shorter : length front + length rest < length items
