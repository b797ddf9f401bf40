-- A text cut by lengths of two bytes, from its front.
use Rattle.std.proofs.Common.{◌≡◌, ℕ, zero, suc, ◌-◌, ◌≤◌, true, false, cond, List, [], ◌∷◌, ◌++◌, length, take, drop, refl, sym, ◌∙◌, ap, arith, length-append}
use Rattle.std.specs.Prelude.{nat_le}
use Rattle.std.proofs.lemmas.Bool.{ne_eqb, and_from, and_parts, leb-true, le-leb, false_from_ne_true, cond-true, cond-false}
use Rattle.std.proofs.lemmas.List.{take-append-le, drop-take}
use Rattle.pipe_model.specs.BlockRows.{sf_length, sf_begins, cut_by_lengths}

passed : (skip b : ℕ) (text : List ℕ) → cut_by_lengths (suc skip) (b ∷ text) ≡ cut_by_lengths skip text
passed skip b text =
    ap (λ is. cut_by_lengths (cond is (sf_length (b ∷ text) - 1) (suc skip - 1)) text) (ne_eqb (suc skip) 0 (λ same. omega (arith, same)))
    ∙ ap (λ n. cut_by_lengths n text) (omega arith)

skipped : (skip : ℕ) (text more : List ℕ) → skip ≤ length text → cut_by_lengths skip (text ++ more) ≡ cut_by_lengths 0 (drop skip text ++ more)
skipped zero text more within = refl
skipped (suc skip) [] more within = absurd (omega (arith, within))
skipped (suc skip) (b ∷ text) more within = passed skip b (text ++ more) ∙ skipped skip text more (omega (arith, within))

begins_whole : (text : List ℕ) → 2 ≤ sf_length text → sf_length text ≤ length text → sf_begins text ≡ true
begins_whole text some within = and_from (nat_le 2 (sf_length text)) (nat_le (sf_length text) (length text)) (le-leb 2 (sf_length text) some) (le-leb (sf_length text) (length text) within)

-- the first record is whole, whatever more comes
pub whole_first : (text more : List ℕ) → 2 ≤ sf_length text → sf_length text ≤ length text →
    cut_by_lengths 0 (text ++ more) ≡ take (sf_length text - 2) (drop 2 text) ∷ cut_by_lengths 0 (drop (sf_length text) text ++ more)
whole_first [] more some within = absurd (omega (arith, some))
whole_first (b ∷ []) more some within = absurd (omega (arith, some))
whole_first (b ∷ c ∷ rest) more some within =
    let text = b ∷ c ∷ rest in
    let n : ℕ = sf_length text in
    let whole : sf_begins (text ++ more) ≡ true = begins_whole (text ++ more) some (omega (arith, within, length-append text more)) in
    let first : drop 2 (take n (text ++ more)) ≡ take (n - 2) (drop 2 text) =
    ap (drop 2) (take-append-le n text more within) ∙ ap (λ m. drop 2 (take m text)) (omega (arith, some)) ∙ drop-take 2 (n - 2) text in
    let less : n ≡ suc (n - 1) = omega (arith, some) in
    cond-true (sf_begins (text ++ more)) (drop 2 (take n (text ++ more)) ∷ cut_by_lengths (n - 1) (c ∷ rest ++ more)) ((text ++ more) ∷ []) whole
    ∙ ap (λ part. part ∷ cut_by_lengths (n - 1) (c ∷ rest ++ more)) first
    ∙ ap (λ parts. take (n - 2) (drop 2 text) ∷ parts) (skipped (n - 1) (c ∷ rest) more (omega (arith, within, some)))
    ∙ ap (λ m. take (n - 2) (drop 2 text) ∷ cut_by_lengths 0 (drop m text ++ more)) (sym less)

by_front : (text : List ℕ) → sf_begins text ≡ false → cut_by_lengths 0 text ≡ text ∷ []
by_front [] isnt = refl
by_front (b ∷ rest) isnt = cond-false (sf_begins (b ∷ rest)) (drop 2 (take (sf_length (b ∷ rest)) (b ∷ rest)) ∷ cut_by_lengths (sf_length (b ∷ rest) - 1) rest) ((b ∷ rest) ∷ []) isnt

-- no whole record
pub none_whole : (text : List ℕ) → (2 ≤ sf_length text → sf_length text ≤ length text → ⊥) → cut_by_lengths 0 text ≡ text ∷ []
none_whole text none = by_front text (false_from_ne_true (sf_begins text) (λ is.
    let each = and_parts (nat_le 2 (sf_length text)) (nat_le (sf_length text) (length text)) is in
    none (leb-true 2 (sf_length text) each.0) (leb-true (sf_length text) (length text) each.1)))
