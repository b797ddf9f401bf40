-- A text reads in one way at most, and is then not refused.
use Rattle.std.proofs.Common.{◌≡◌, ℕ, ◌<◌, List, [], length, drop, ap, ◌∙◌, sym, subst, arith, inl, inr}
use Rattle.spec_scanner.specs.declared.fault.Fault.{Fault}
use Rattle.spec_scanner.specs.declared.item.Item.{Item}
use Rattle.spec_scanner.specs.declared.piece.Piece.{Piece}
use Rattle.spec_scanner.specs.Body.{IsBody}
use Rattle.spec_scanner.specs.Faults.{IsLeast}
use Rattle.spec_scanner.specs.Options.{Outset}
use Rattle.spec_scanner.specs.Reads.{AreFaults, HasBody, IsRefused, Reads, body_faults, read_items}
use Rattle.spec_scanner.proofs.Clashing.{outset_apart}
use Rattle.spec_scanner.proofs.OneBodies.{one_body}
use Rattle.spec_scanner.proofs.OneOutsets.{one_outset}

module _ (text : List ℕ) where
  -- a text has one body at most
  pub one_has_body : (items others : List Item) (tail end : List ℕ) → HasBody text items tail → HasBody text others end → (items ≡ others) × (tail ≡ end)
  one_has_body items others tail end first second =
      let same = one_outset text first.outset second.outset first.begins second.begins in
      let body = subst (λ (outset : Outset). IsBody outset.signs outset.start (drop outset.start text) others end) (sym same) second.body in
      one_body first.outset.signs (outset_apart text first.outset first.begins first.good) first.outset.start (drop first.outset.start text) items others tail end first.body body

  pub reads_one : (a b : List (List Piece)) → Reads text a → Reads text b → a ≡ b
  reads_one a b first second =
      let same = one_has_body first.items second.items first.tail second.tail first.has_body second.has_body in
      first.pipelines_are ∙ ap (λ (items : List Item). (read_items items (length text)).pipelines) same.0 ∙ sym second.pipelines_are

  -- a least fault is one
  some_fault : (least : Fault) (faults : List Fault) → IsLeast least faults → 0 < length faults
  some_fault least faults is = omega (arith, is.among.1)

  none_of_these : (pipelines : List (List Piece)) (faults : List Fault) → Reads text pipelines → AreFaults text faults → faults ≡ []
  none_of_these pipelines faults read (inl long) = absurd (omega (arith, long.0, read.short))
  none_of_these pipelines faults read (inr (short, inl bad)) =
      bad.faults_are ∙ ap (λ (outset : Outset). outset.faults) (one_outset text bad.outset read.has_body.outset bad.begins read.has_body.begins) ∙ read.has_body.good
  none_of_these pipelines faults read (inr (short, inr bad)) =
      let same = one_has_body bad.items read.items bad.tail read.tail bad.has_body read.has_body in
      bad.faults_are ∙ ap (λ (items : List Item). body_faults items bad.tail (length text)) same.0 ∙ ap (λ (tail : List ℕ). body_faults read.items tail (length text)) same.1 ∙ read.good

  pub reads_unrefused : (pipelines : List (List Piece)) (fault : Fault) → Reads text pipelines → ¬ IsRefused text fault
  reads_unrefused pipelines fault read refused =
      let none = ap length (none_of_these pipelines refused.faults read refused.faults_are) in
      omega (arith, none, some_fault fault refused.faults refused.least_is)
