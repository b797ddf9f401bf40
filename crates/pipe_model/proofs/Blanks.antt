-- The blanks at the front of a text, and what stands after them.
use Rattle.std.proofs.Common.{◌≡◌, ℕ, zero, suc, List, [], ◌∷◌, ◌++◌, ◌-◌, ◌≤◌, replicate, length, take, drop, get_or, refl, sym, ap, ◌∙◌, arith}
use Rattle.std.proofs.lemmas.List.{take_rest}
use Rattle.pipe_model.specs.Words.{IsUnblanked}

-- the rest stands after blanks
pub record AfterBlanks (text rest : List ℕ) : Type 0 where
  pub blanks : ℕ
  pub spells : text ≡ replicate blanks 32 ++ rest

-- a blank more at the end of the blanks
later : (n : ℕ) (rest : List ℕ) → replicate n 32 ++ (32 ∷ rest) ≡ 32 ∷ (replicate n 32 ++ rest)
later zero rest = refl
later (suc n) rest = ap (λ bytes. 32 ∷ bytes) (later n rest)

-- one blank more was passed
pub one_blank_more : (text rest : List ℕ) → AfterBlanks text rest → 1 ≤ length rest → get_or rest 0 0 ≡ 32 → AfterBlanks text (take (length rest - 1) (drop 1 rest))
one_blank_more text [] after some blank = absurd (omega arith)
one_blank_more text (byte ∷ rest) after some blank = record {
  blanks = suc after.blanks;
  spells = rw (take_rest (byte ∷ rest) 1) (after.spells ∙ ap (λ b. replicate after.blanks 32 ++ b ∷ rest) blank ∙ later after.blanks rest);
}

-- what stands after blanks is determined
same_front : (n m : ℕ) (a b : List ℕ) → ¬ (get_or a 0 0 ≡ 32) → ¬ (get_or b 0 0 ≡ 32) → replicate n 32 ++ a ≡ replicate m 32 ++ b → a ≡ b
same_front zero zero a b other other_b same = same
same_front zero (suc m) a b other other_b same = absurd (other (ap (λ bytes. get_or bytes 0 0) same))
same_front (suc n) zero a b other other_b same = absurd (other_b (ap (λ bytes. get_or bytes 0 0) (sym same)))
same_front (suc n) (suc m) a b other other_b same = let tails : replicate n 32 ++ a ≡ replicate m 32 ++ b = cc in same_front n m a b other other_b tails

pub one_front : (text a b : List ℕ) → IsUnblanked text a → IsUnblanked text b → a ≡ b
one_front text a b first second = same_front first.blanks second.blanks a b first.other second.other (sym first.spells ∙ second.spells)
