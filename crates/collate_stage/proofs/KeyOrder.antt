-- The order of keys.
use Rattle.std.proofs.Common.{◌≡◌, ℕ, ltb, Bool, true, false, cond, ◌==◌, ◌&&◌, List, [], ◌∷◌, refl, ◌∙◌, ap, arith}
use Rattle.std.proofs.lemmas.Bool.{eqb-true}
use Rattle.std.proofs.lemmas.Bool.Decides.{nat_tests}
use Rattle.pipe_model.specs.Keys.{is_less, is_same}
use Rattle.pipe_model.proofs.Truths.{both}
use Rattle.pipe_model.proofs.Numbers.{test_same}

pub same_is : (a b : List ℕ) → is_same a b ≡ true → a ≡ b
same_is [] [] same = refl
same_is [] (y ∷ ys) same = cc
same_is (x ∷ xs) [] same = cc
same_is (x ∷ xs) (y ∷ ys) same =
    let r = both (x == y) (is_same xs ys) same in
    ap (λ z. z ∷ xs) (eqb-true x y r.0) ∙ ap (λ zs. y ∷ zs) (same_is xs ys r.1)

pub not_less_same : (a : List ℕ) → is_less a a ≡ false
not_less_same [] = refl
not_less_same (x ∷ xs) = ap (λ b. cond b (is_less xs xs) (ltb x x)) (test_same x) ∙ not_less_same xs

-- keys of which neither is less are the same
pub same_where_not_less : (a b : List ℕ) → is_less a b ≡ false → is_less b a ≡ false → is_same a b ≡ true
same_where_not_less [] [] p q = refl
same_where_not_less [] (y ∷ ys) p q = cc
same_where_not_less (x ∷ xs) [] p q = cc
same_where_not_less (x ∷ xs) (y ∷ ys) p q = by (x == y) refl p (y == x) refl q (same_where_not_less xs ys)
  where
    by : (s : Bool) → (x == y) ≡ s → cond s (is_less xs ys) (ltb x y) ≡ false → (t : Bool) → (y == x) ≡ t → cond t (is_less ys xs) (ltb y x) ≡ false →
        (is_less xs ys ≡ false → is_less ys xs ≡ false → is_same xs ys ≡ true) → (s && is_same xs ys) ≡ true
    by true is p true it q rest = rest p q
    by true is p false it q rest = grind (arith, nat_tests)
    by false is p true it q rest = grind (arith, nat_tests)
    by false is p false it q rest = grind (arith, nat_tests)

pub less_on : (a b c : List ℕ) → is_less a b ≡ true → is_less b c ≡ true → is_less a c ≡ true
less_on a [] c p q = cc
less_on a (y ∷ ys) [] p q = cc
less_on [] (y ∷ ys) (z ∷ zs) p q = refl
less_on (x ∷ xs) (y ∷ ys) (z ∷ zs) p q = by (x == y) refl p (y == z) refl q (x == z) refl (less_on xs ys zs)
  where
    by : (s : Bool) → (x == y) ≡ s → cond s (is_less xs ys) (ltb x y) ≡ true → (t : Bool) → (y == z) ≡ t → cond t (is_less ys zs) (ltb y z) ≡ true →
        (u : Bool) → (x == z) ≡ u → (is_less xs ys ≡ true → is_less ys zs ≡ true → is_less xs zs ≡ true) → cond u (is_less xs zs) (ltb x z) ≡ true
    by true e p true f q true g rest = rest p q
    by true e p true f q false g rest = grind (arith, nat_tests)
    by true e p false f q true g rest = grind (arith, nat_tests)
    by true e p false f q false g rest = grind (arith, nat_tests)
    by false e p true f q true g rest = grind (arith, nat_tests)
    by false e p true f q false g rest = grind (arith, nat_tests)
    by false e p false f q true g rest = grind (arith, nat_tests)
    by false e p false f q false g rest = grind (arith, nat_tests)
