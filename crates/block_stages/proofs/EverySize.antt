-- A text cut every so many bytes, from its front.
use Rattle.std.proofs.Common.{◌≡◌, ℕ, zero, suc, ◌-◌, ◌<◌, ◌≤◌, cond, List, [], ◌∷◌, ◌++◌, length, take, drop, refl, ◌∙◌, ap, arith}
use Rattle.std.specs.List.{onto_first}
use Rattle.std.proofs.lemmas.Bool.{ne_eqb}
use Rattle.pipe_model.specs.Parts.{onto_part, cut_after, cut_every}

-- too few bytes are one part
pub too_short : (n left : ℕ) (text : List ℕ) → length text < left → cut_after n left text ≡ text ∷ []
too_short n left [] few = refl
too_short n left (b ∷ text) few =
    let other = ne_eqb left 1 (λ is. omega (arith, is, few)) in
    ap (λ is. onto_part is b (cut_after n (cond is n (left - 1)) text)) other ∙ ap (onto_first b) (too_short n (left - 1) text (omega (arith, few)))

-- nothing is cut where the size is 0
pub never_cut : (n : ℕ) (text : List ℕ) → cut_after n 0 text ≡ text ∷ []
never_cut n [] = refl
never_cut n (b ∷ text) =
    let none : 0 - 1 ≡ 0 = omega arith in
    ap (λ left. onto_first b (cut_after n left text)) none ∙ ap (onto_first b) (never_cut n text)

cut_first : (n left : ℕ) (text more : List ℕ) → 0 < left → left ≤ length text → cut_after n left (text ++ more) ≡ take left text ∷ cut_after n n (drop left text ++ more)
cut_first n left [] more some within = absurd (omega (arith, some, within))
cut_first n zero (b ∷ text) more some within = absurd (omega (arith, some))
cut_first n (suc zero) (b ∷ text) more some within = refl
cut_first n (suc (suc left)) (b ∷ text) more some within =
    let other = ne_eqb (suc (suc left)) 1 (λ is. omega (arith, is)) in
    let less : suc (suc left) - 1 ≡ suc left = omega arith in
    ap (λ is. onto_part is b (cut_after n (cond is n (suc (suc left) - 1)) (text ++ more))) other
    ∙ ap (λ m. onto_first b (cut_after n m (text ++ more))) less
    ∙ ap (onto_first b) (cut_first n (suc left) text more (omega arith) (omega (arith, within)))

-- the first part has the size, whatever more comes
pub block_first : (size : ℕ) (text more : List ℕ) → 0 < size → size ≤ length text → cut_every size (text ++ more) ≡ take size text ∷ cut_every size (drop size text ++ more)
block_first size text more some within = cut_first size size text more some within
