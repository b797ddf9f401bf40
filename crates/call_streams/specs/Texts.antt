-- The text of an outcome, made before anything is written; it serves the inside.
use Rattle.std.specs.Prelude.{◌≡◌, ◌⊎◌, ℕ, Bool, true, false, List}
use Rattle.call_meaning.specs.declared.status.Outcome.{Outcome}
use Rattle.call_meaning.specs.declared.status.Outcome.TheVariants.{Coded, SpecRefused, Stalled, Spent, ShelfFault, NoMemory, JournalLine, JournalEntry, SomeSet, SetsLine}
use Rattle.call_streams.specs.declared.text.Text.{Text}
use Rattle.call_streams.specs.declared.text.Text.TheVariants.{Fixed, Made}
use Rattle.call_streams.specs.declared.text.Told.{Told}
use Rattle.call_meaning.specs.Status.{text_of}

-- the bytes of a text
abbrev pub bytes_in : Text → List ℕ
bytes_in (Fixed text) = text.now
bytes_in (Made text) = text

-- the text that goes with an outcome is the outcome's
abbrev pub IsTelling : Told → Type 0
IsTelling told = bytes_in told.text ≡ text_of told.outcome

-- the text of the outcome tells numbers or lines, so it is made; the others are fixed
abbrev pub wants_memory : Outcome → Bool
wants_memory (Coded code) = true
wants_memory (SpecRefused number argument place) = true
wants_memory (Stalled lines) = true
wants_memory (Spent steps) = true
wants_memory (ShelfFault name) = true
wants_memory (JournalLine number) = true
wants_memory (JournalEntry number) = true
wants_memory (SomeSet lines) = true
wants_memory (SetsLine number) = true
wants_memory _ = false

-- the outcome is told as it is, or memory was wanted for its text
abbrev pub IsToldAs : Outcome → Told → Type 0
IsToldAs outcome told = IsTelling told × ((told.outcome ≡ outcome) ⊎ ((wants_memory outcome ≡ true) × (told.outcome ≡ NoMemory)))
