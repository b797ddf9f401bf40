-- What is known of the slot that a seat holds.
use Rattle.std.proofs.Common.{◌≡◌, ℕ, List, [], ◌∷◌, sym, ap, ◌∙◌, Some, None}
use Rattle.atomic_table.specs.Table.{rest}
use Rattle.board.specs.Rule.{Kept, Slot}

pub some_there : (l : List (ℕ × Slot)) (k : Kept) → l ≡ (0, Some k) ∷ [] → l ≡ (0, Some k) ∷ rest l
some_there l k e = e ∙ ap (λ (m : List (ℕ × Slot)). (0, Some k) ∷ rest m) (sym e)

kept_of : Kept → List (ℕ × Slot) → Kept
kept_of d [] = d
kept_of d (x ∷ xs) = elim x.1 [ None ↦ d | Some k ↦ k ]

pub one_kept : (k k' : Kept) → let l : List (ℕ × Slot) = (0, Some k) ∷ [] in let l' : List (ℕ × Slot) = (0, Some k') ∷ [] in l ≡ l' → k ≡ k'
unfolding kept_of
one_kept k k' e = ap (kept_of k) e
