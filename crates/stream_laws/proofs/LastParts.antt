-- The parts of which only the last isn't complete.
use Rattle.std.proofs.Common.{◌≡◌, ℕ, cond, [], ◌∷◌, ◌++◌, length, refl, sym, ◌∙◌, ap, arith, append_assoc}
use Rattle.std.specs.List.{concat, onto_first}
use Rattle.std.proofs.lemmas.Bool.{ne_eqb}
use Rattle.std.proofs.lemmas.List.{append-nil}
use Rattle.pipe_model.specs.Shape.{Records}
use Rattle.pipe_model.specs.Records.{without_empty_last}
use Rattle.pipe_model.specs.Parts.{without_last, last_part}
use Rattle.pipe_model.specs.BlockRows.{some_rest}

-- the complete ones and the last are all
pub with_rest : (parts : Records) → concat (without_last parts) ++ last_part parts ≡ concat parts
with_rest [] = refl
with_rest (p ∷ []) = sym (append-nil p)
with_rest (p ∷ q ∷ parts) = append_assoc p (concat (without_last (q ∷ parts))) (last_part (q ∷ parts)) ∙ ap (λ z. p ++ z) (with_rest (q ∷ parts))

-- a byte before them
pub first_more : (b : ℕ) (parts : Records) → concat (onto_first b parts) ≡ b ∷ concat parts
first_more b [] = refl
first_more b (p ∷ parts) = refl

-- the complete ones, and the last where it isn't empty
pub without_empty : (parts : Records) → without_last parts ++ some_rest (last_part parts) ≡ without_empty_last parts
without_empty [] = refl
without_empty ([] ∷ []) = refl
without_empty ((b ∷ p) ∷ []) = sym (ap (λ z. cond z [] ((b ∷ p) ∷ [])) (ne_eqb (length (b ∷ p)) 0 (λ e. omega (arith, e))))
without_empty (p ∷ q ∷ parts) = ap (λ z. p ∷ z) (without_empty (q ∷ parts))
