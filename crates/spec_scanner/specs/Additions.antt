-- What is read adds to what was found before it.
use Rattle.std.specs.Prelude.{◌≡◌, ℕ, suc, ◌+◌, List, [], ◌∷◌, ◌++◌}
use Rattle.spec_scanner.specs.declared.fault.Fault.{Fault}
use Rattle.spec_scanner.specs.declared.findings.Findings.{Findings}
use Rattle.spec_scanner.specs.declared.piece.Piece.{Piece}
use Rattle.spec_scanner.specs.Faults.{IsLeastSo}
use Rattle.spec_scanner.specs.Labels.{Found, Label, Read}

-- how many definitions and later uses of labels there are
abbrev pub load : List Label → ℕ
load [] = 0
load (label ∷ labels) = suc (label.uses + load labels)

-- what is added stands after what was there; the labels are these; and with more faults than before the least is kept
pub record Adds {X : Type 0} (old new : Findings) (before after added : List X) (labels : List Label) (faults : List Fault) : Type 0 where
  pub labels_are : new.labels ≡ labels
  pub all_are : after ≡ before ++ added
  pub least : (earlier : List Fault) → IsLeastSo old.fault earlier → IsLeastSo new.fault (earlier ++ faults)

-- pieces are added, as they were read from a stage or a pipeline
abbrev pub AddsFound : Findings → Findings → List Piece → List Piece → Found → Type 0
AddsFound old new before after found = Adds old new before after found.pieces found.labels found.faults

-- pipelines are added
abbrev pub AddsRead : Findings → Findings → List (List Piece) → List (List Piece) → Read → Type 0
AddsRead old new before after read = Adds old new before after read.pipelines read.labels read.faults
