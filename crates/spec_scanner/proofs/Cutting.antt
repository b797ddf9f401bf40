-- The first stretch of a cut, by the place of the first item that parts.
use Rattle.std.proofs.Common.{◌≡◌, ℕ, zero, suc, ◌+◌, ◌-◌, ◌<◌, Bool, true, false, cond, if◌then◌else◌, List, [], ◌∷◌, length, get_or, take, drop, refl, ap, ◌∙◌, sym, add-one, arith, Some, None, length-drop, length-take}
use Rattle.std.specs.List.{position, position_from}
use Rattle.std.proofs.lemmas.Iterator.Adapters.{position_from-zero}
use Rattle.std.proofs.lemmas.List.Quantifiers.{position-Some}
use Rattle.spec_scanner.specs.declared.item.Item.{Item}
use Rattle.spec_scanner.specs.Cuts.{IsCut, IsWhole}
use Rattle.spec_scanner.specs.Stretches.{cut, put_first}
use Rattle.spec_scanner.proofs.Prefixes.{rest_of}

module _ (parts : Item → Bool) where
  whole_from : (items : List Item) (i : ℕ) → position_from parts i items ≡ None → IsWhole parts items
  whole_from [] i none closed = refl
  whole_from (item ∷ items) i none closed =
      (elim (parts item) as (λ b. cond b (Some i) (position_from parts (i + 1) items) ≡ None
      → (if b then record { inside = []; closed = item.place } ∷ cut parts items closed else put_first item (cut parts items closed)) ≡ record { inside = item ∷ items; closed = closed } ∷ []) [
        | true ↦ λ is. cc
        | false ↦ λ is. ap (put_first item) (whole_from items (i + 1) is closed)
      ]) none

  -- where none parts
  pub whole_when : (items : List Item) → position parts items ≡ None → IsWhole parts items
  whole_when items none = whole_from items 0 (sym (position_from-zero parts items) ∙ none)

  cut_from : (items : List Item) (at : ℕ) (default : Item) (closed : ℕ) → at < length items → parts (get_or items at default) ≡ true
      → ((k : ℕ) → k < at → parts (get_or items k default) ≡ false)
      → cut parts items closed ≡ record { inside = take at items; closed = (get_or items at default).place } ∷ cut parts (drop (suc at) items) closed
  cut_from [] at default closed within here before = absurd (omega arith)
  cut_from (item ∷ items) zero default closed within here before =
      ap (λ b. if b then record { inside = []; closed = item.place } ∷ cut parts items closed else put_first item (cut parts items closed)) here
  cut_from (item ∷ items) (suc at) default closed within here before =
      ap (λ b. if b then record { inside = []; closed = item.place } ∷ cut parts items closed else put_first item (cut parts items closed)) (before 0 (omega arith))
      ∙ ap (put_first item) (cut_from items at default closed (omega arith) here (λ k below. before (suc k) (omega arith)))

  -- where one parts
  pub cut_when : (items : List Item) (at : ℕ) (default : Item) → position parts items ≡ Some at
      → IsCut parts items (take at items) (get_or items at default).place (take (length items - (at + 1)) (drop (at + 1) items))
  cut_when items at default first =
      let found = position-Some parts items at default first in
      rw (rest_of items (at + 1), add-one at) (record {
        stretches = λ closed. cut_from items at default closed found.0 found.1 found.2;
        shorter = omega (arith, found.0, length-drop (suc at) items, length-take at items);
      })
