-- What the lists of LITERAL and HOLE stand for.
use Rattle.std.specs.Prelude.{◌≡◌, ◌<◌, length, ℕ, Bool, false, List, [], ◌∷◌}
use Rattle.pipe_model.specs.DeviceRows.{literal, hole}
use Rattle.pipe_model.specs.Row.{Act}
use Rattle.pipe_model.specs.Row.Act.{Writes}
use Rattle.pipe_model.specs.Shape.{Records, Outs, Stream, at_hand_of}
use Rattle.device_stages.specs.declared.hole.Holes.{Holes}
use Rattle.device_stages.specs.declared.literal.Due.{Due}
use Rattle.device_stages.specs.declared.literal.Due.TheVariants.{Nothing, Text, AtHand}
use Rattle.device_stages.specs.declared.literal.Literals.{Literals}

-- what is left to write, by the text and the record at hand
abbrev pub due_acts : Due → List ℕ → List ℕ → List Act
due_acts Nothing text rec = []
due_acts Text text rec = Writes 0 text ∷ []
due_acts AtHand text rec = Writes 0 rec ∷ []

-- where it is the record at hand, there was one
abbrev pub IsDue : Due → Records → Type 0
IsDue AtHand recs = 0 < length recs
IsDue _ recs = Unit {0}

-- how much is left to write
abbrev pub due_count : Due → ℕ
due_count Nothing = 0
due_count _ = 1

-- the text, and then each record
abbrev pub LiteralsStand : Literals → Bool → Stream → Records → List Act → Type 0
LiteralsStand x over t recs acts = (t ≡ literal x.text) × (acts ≡ due_acts x.due x.text (at_hand_of recs)) × IsDue x.due recs

-- LITERAL doesn't look at records
abbrev pub literals_look : Literals → Bool
literals_look x = false

-- nothing for any record
abbrev pub HolesStand : Holes → Outs → Records → List Act → Type 0
HolesStand x outs recs acts = (outs ≡ hole.outs) × (acts ≡ [])

-- HOLE doesn't look at records
abbrev pub holes_look : Holes → Bool
holes_look x = false
