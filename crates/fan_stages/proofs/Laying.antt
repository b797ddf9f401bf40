-- Records laid over each other, one after another.
use Rattle.std.proofs.Common.{◌≡◌, ◌<◌, ◌-◌, ℕ, zero, suc, Bool, true, false, cond, ◌==◌, List, [], ◌∷◌, ◌++◌, length, get_or, set, refl, sym, ◌∙◌, ap, arith}
use Rattle.std.specs.Prelude.{take, drop, min}
use Rattle.std.proofs.lemmas.List.{append-nil, length-drop, length-set}
use Rattle.std.proofs.Math.Seq.{take-length}
use Rattle.pipe_model.specs.FanRows.{laid_over, overlaid}

over_nothing : (pad : ℕ) (rec : List ℕ) → laid_over pad rec [] ≡ rec
over_nothing pad [] = refl
over_nothing pad (b ∷ rec) = refl

-- which is laid first doesn't matter
pub laid_again : (pad : ℕ) (a b c : List ℕ) → laid_over pad a (laid_over pad b c) ≡ laid_over pad (laid_over pad a b) c
laid_again pad [] b c = refl
laid_again pad (x ∷ a) [] [] = refl
laid_again pad (x ∷ a) [] (z ∷ c) = refl
laid_again pad (x ∷ a) (y ∷ b) [] = refl
laid_again pad (x ∷ a) (y ∷ b) (z ∷ c) = by (x == pad) refl (laid_again pad a b c)
  where
    by : (e : Bool) → (x == pad) ≡ e → laid_over pad a (laid_over pad b c) ≡ laid_over pad (laid_over pad a b) c →
        cond e (cond (y == pad) z y) x ∷ laid_over pad a (laid_over pad b c) ≡ cond (cond e y x == pad) z (cond e y x) ∷ laid_over pad (laid_over pad a b) c
    by true is later = ap (λ l. cond (y == pad) z y ∷ l) later
    by false is later = ap (λ e. cond e z x ∷ laid_over pad a (laid_over pad b c)) (sym is) ∙ ap (λ l. cond (x == pad) z x ∷ l) later

-- one record more, on top
pub overlaid_more : (pad : ℕ) (recs : List (List ℕ)) (rec : List ℕ) → overlaid pad (recs ++ rec ∷ []) ≡ laid_over pad rec (overlaid pad recs)
overlaid_more pad [] rec = sym (over_nothing pad rec)
overlaid_more pad (r ∷ recs) rec = ap (λ l. laid_over pad l r) (overlaid_more pad recs rec) ∙ sym (laid_again pad rec (overlaid pad recs) r)

-- one byte more
pub lay_more : (pad : ℕ) (rec below : List ℕ) (p : ℕ) → p < length rec → p < length below →
    laid_over pad (take (suc p) rec) below ≡ cond (get_or rec p 0 == pad) (laid_over pad (take p rec) below) (set (laid_over pad (take p rec) below) p (get_or rec p 0))
lay_more pad [] below p low low' = absurd (omega (arith, low))
lay_more pad (b ∷ rec) [] p low low' = absurd (omega (arith, low'))
lay_more pad (b ∷ rec) (c ∷ below) zero low low' = (elim (b == pad) as (λ e. cond e c b ∷ below ≡ cond e (c ∷ below) (b ∷ below)) [ true ↦ refl | false ↦ refl ])
lay_more pad (b ∷ rec) (c ∷ below) (suc p) low low' =
    let head = cond (b == pad) c b in
    let l = laid_over pad (take p rec) below in
    ap (λ l. head ∷ l) (lay_more pad rec below p (omega (arith, low)) (omega (arith, low')))
    ∙ (elim (get_or rec p 0 == pad) as (λ e. head ∷ cond e l (set l p (get_or rec p 0)) ≡ cond e (head ∷ l) (head ∷ set l p (get_or rec p 0))) [ true ↦ refl | false ↦ refl ])

-- and what is longer than what is there
pub lay_end : (pad : ℕ) (rec below : List ℕ) (w : ℕ) → w ≡ min (length rec) (length below) → laid_over pad (take w rec) below ++ drop w rec ≡ laid_over pad rec below
lay_end pad [] below zero is = append-nil below
lay_end pad [] below (suc w) is = absurd (grind arith)
lay_end pad (b ∷ rec) [] zero is = refl
lay_end pad (b ∷ rec) [] (suc w) is = absurd (grind arith)
lay_end pad (b ∷ rec) (c ∷ below) zero is = absurd (grind arith)
lay_end pad (b ∷ rec) (c ∷ below) (suc w) is = ap (λ l. cond (b == pad) c b ∷ l) (lay_end pad rec below w (grind arith))

pub length_laid : (b : Bool) (xs : List ℕ) (p x : ℕ) → length (cond b xs (set xs p x)) ≡ length xs
length_laid true xs p x = refl
length_laid false xs p x = length-set xs p x

-- a slice to the end
pub to_the_end : (w : ℕ) (rec : List ℕ) → take (length rec - w) (drop w rec) ≡ drop w rec
to_the_end w rec = ap (λ n. take n (drop w rec)) (sym (length-drop w rec)) ∙ take-length (drop w rec)
