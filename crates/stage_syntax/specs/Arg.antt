-- Argument text: its bytes, each with a place in the specification.
use Rattle.std.specs.Prelude.{◌≡◌, ℕ, suc, ◌<◌, ◌≤◌, Bool, List, [], ◌∷◌, length, ⊤}

-- what an argument is seen as
pub record ArgText : Type 0 where
  pub bytes : List ℕ
  -- whether each byte stands for itself: not where it came by the escape character or by doubling
  pub plain : List Bool
  -- where the spelling of each byte begins
  pub places : List ℕ
  -- the place just after the stage's text
  pub end : ℕ

-- each of the places is above the one before it, the first not below a bound, and all below the end
abbrev pub Rise : ℕ → List ℕ → ℕ → Type 0
Rise bound [] end = ⊤
Rise bound (place ∷ places) end = (bound ≤ place) × (place < end) × Rise (suc place) places end

-- the three lists have one length, and the places rise below the end
pub record IsArg (arg : ArgText) : Type 0 where
  pub as_plain : length arg.plain ≡ length arg.bytes
  pub as_places : length arg.places ≡ length arg.bytes
  pub rise : Rise 0 arg.places arg.end
