-- Records that begin with a string, one record on.
use Rattle.std.proofs.Common.{◌≡◌, ℕ, ◌-◌, Bool, true, false, ◌||◌, List, [], ◌∷◌, ◌++◌, length, refl, ◌∙◌, ap, arith}
use Rattle.std.proofs.lemmas.List.{take_at, length_push}
use Rattle.std.proofs.lemmas.List.Folds.{list_any-append}
use Rattle.std.proofs.lemmas.List.Sums.{fold_push}
use Rattle.pipe_model.specs.Counts.{earlier}
use Rattle.pipe_model.specs.Search.{begins}
use Rattle.pipe_model.specs.SelectionRows.{opens, is_within, is_met}
use Rattle.pipe_model.specs.Shape.{Records}

-- the records before the last one
pub earlier-push : (recs : Records) (rec : List ℕ) → earlier (recs ++ rec ∷ []) ≡ recs
earlier-push recs rec = take_at recs (rec ∷ []) (length (recs ++ rec ∷ []) - 1) (omega (arith, length_push recs rec))

-- whether a part is open behind one more
pub is_within-push : (first second : List ℕ) (recs : Records) (rec : List ℕ) → is_within first second (recs ++ rec ∷ []) ≡ opens first second (is_within first second recs) rec
is_within-push first second recs rec = fold_push (opens first second) false recs rec

or-false : (a : Bool) → (a || false) ≡ a
or-false true = refl
or-false false = refl

-- whether the text is met with one more
pub is_met-push : (text : List ℕ) (recs : Records) (rec : List ℕ) → is_met text (recs ++ rec ∷ []) ≡ (is_met text recs || begins text rec)
is_met-push text recs rec = list_any-append (begins text) recs (rec ∷ []) ∙ ap (λ b. is_met text recs || b) (or-false (begins text rec))
