-- What it means that a coroutine shows the next record that it writes.
use Rattle.std.specs.Prelude.{◌≡◌, ℕ, suc, ◌≤◌, ⊤, Bool, true, false, List, [], length, take, drop}
use Rattle.std.specs.declared.option.Option.{Option}
use Rattle.std.specs.declared.option.Option.TheVariants.{Some}
use Rattle.pipe_model.specs.declared.net.Strand.{Strand}
use Rattle.pipe_model.specs.declared.step.Out.TheVariants.{Fresh}
use Rattle.pipe_model.specs.declared.step.Seen.TheVariants.{Put}
use Rattle.pipe_model.specs.declared.step.Want.TheVariants.{Write}
use Rattle.pipe_model.specs.Event.{Event}
use Rattle.pipe_model.specs.Row.{Act}
use Rattle.pipe_model.specs.Shape.{Records, Stream}
use Rattle.stage_steps.specs.Coroutine.{Resumes}
use Rattle.stage_steps.specs.Lists.{GivesNext}
use Rattle.stage_steps.specs.declared.group.Group.TheVariants.{New}

-- it was told that the record was put which it wrote on an output, and gives a new one of at most so many bytes, which it writes there next; or nothing has changed
abbrev pub IsGiving : {S : Type 0} → ℕ → (S → Strand → List Event → Type 0) → (S → List ℕ) → S → S → ℕ → Bool → Type 0
IsGiving most stands showing x y o true = Resumes stands x y (Put o) [] (Write o (Fresh (showing y))) × (length (showing y) ≤ most)
IsGiving most stands showing x y o false = y ≡ x

-- the same for a record of at most 256 bytes, which it shows
abbrev pub IsShowing : {S : Type 0} → (S → Strand → List Event → Type 0) → (S → List ℕ) → S → S → ℕ → Bool → Type 0
IsShowing stands showing x y o given = IsGiving 256 stands showing x y o given

-- what it showed is the front of the text that it had ahead, and behind that and one byte more the text goes on that it has ahead now; or nothing was shown
abbrev pub IsCutting : {S : Type 0} → (S → List ℕ) → (S → List ℕ) → S → S → Bool → Type 0
IsCutting ahead showing x y true = (showing y ≡ take (length (showing y)) (ahead x)) × (ahead y ≡ drop (suc (length (showing y))) (ahead x))
IsCutting ahead showing x y false = ⊤

-- the lists gave a new record for output 0, of at most so many bytes, which they show; or nothing has changed
abbrev pub GivesShown : {L : Type 0} → ℕ → (L → Bool → Stream → Records → List Act → Type 0) → (L → Option (List ℕ)) → (L → List ℕ) → L → L → Bool → Type 0
GivesShown most stands made showing x y true = GivesNext stands made x y (Some (New 0)) × (made y ≡ Some (showing y)) × (length (showing y) ≤ most)
GivesShown most stands made showing x y false = y ≡ x
