-- The outcome of a text that isn't a net.
use Rattle.std.specs.Prelude.{◌≡◌, ◌⊎◌, ℕ, List}
use Rattle.spec_scanner.specs.declared.fault.Fault.{Fault}
use Rattle.spec_scanner.specs.declared.piece.Piece.{Piece}
use Rattle.spec_scanner.specs.Reads.{HasGoodOptions, Reads, IsRefused as IsTextRefused}
use Rattle.net_graph.specs.Faults.{IsRefused as AreRefused}
use Rattle.call_meaning.specs.declared.status.Outcome.{Outcome}
use Rattle.call_meaning.specs.declared.status.Outcome.TheVariants.{SpecRefused, NoMemory}

-- the text, or the pieces that it reads as, have this least fault
abbrev pub HasLeastFault : List ℕ → Fault → Type 0
HasLeastFault spec fault = IsTextRefused spec fault ⊎ ((pipelines : List (List Piece)) × Reads spec pipelines × AreRefused pipelines fault)

-- the outcome is the refusal of the text for its least fault
pub record IsRefusal (spec : List ℕ) (outcome : Outcome) : Type 0 where
  pub fault : Fault
  pub least : HasLeastFault spec fault
  pub outcome_is : outcome ≡ SpecRefused fault.number fault.argument fault.place

-- or want of memory, which comes only where the text isn't too long and has options without a fault
abbrev pub IsTextOutcome : List ℕ → Outcome → Type 0
IsTextOutcome spec outcome = ((outcome ≡ NoMemory) × HasGoodOptions spec) ⊎ IsRefusal spec outcome
