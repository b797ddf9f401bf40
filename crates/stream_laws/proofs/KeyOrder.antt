-- The order of keys.
use Rattle.std.proofs.Common.{◌≡◌, ℕ, Bool, true, false, cond, ◌&&◌, ◌||◌, not, ◌==◌, List, [], ◌∷◌, refl, arith}
use Rattle.std.specs.Prelude.{nat_lt}
use Rattle.std.proofs.lemmas.Bool.Decides.{nat_tests}
use Rattle.pipe_model.specs.Keys.{is_less, is_same}

asym_step : (x y : ℕ) (p q : Bool) → (p ≡ true → q ≡ false) → cond (x == y) p (nat_lt x y) ≡ true → cond (y == x) q (nat_lt y x) ≡ false
asym_step x y p q go is = grind (arith, nat_tests)

-- of two keys one at most is less
pub less_one_way : (a b : List ℕ) → is_less a b ≡ true → is_less b a ≡ false
less_one_way a [] is = cc
less_one_way [] (y ∷ b) is = refl
less_one_way (x ∷ a) (y ∷ b) is = asym_step x y (is_less a b) (is_less b a) (less_one_way a b) is

between_step : (x y z : ℕ) (p q r : Bool) → (p ≡ true → (q || r) ≡ true) → cond (x == z) p (nat_lt x z) ≡ true → (cond (x == y) q (nat_lt x y) || cond (y == z) r (nat_lt y z)) ≡ true
between_step x y z p q r go is = grind (arith, nat_tests)

-- where a key is less than another, any third is behind the one or before the other
pub less_between : (a b c : List ℕ) → is_less a c ≡ true → (is_less a b || is_less b c) ≡ true
less_between a b [] is = cc
less_between [] [] (z ∷ c) is = refl
less_between [] (y ∷ b) (z ∷ c) is = refl
less_between (x ∷ a) [] (z ∷ c) is = refl
less_between (x ∷ a) (y ∷ b) (z ∷ c) is = between_step x y z (is_less a c) (is_less a b) (is_less b c) (less_between a b c) is

same_step : (x y : ℕ) (p q r : Bool) → r ≡ (not p && not q) → (x == y && r) ≡ (not (cond (x == y) p (nat_lt x y)) && not (cond (y == x) q (nat_lt y x)))
same_step x y p q r is = grind (arith, nat_tests)

-- keys are the same where neither is less
pub same_is : (a b : List ℕ) → is_same a b ≡ (not (is_less a b) && not (is_less b a))
same_is [] [] = refl
same_is [] (y ∷ b) = refl
same_is (x ∷ a) [] = refl
same_is (x ∷ a) (y ∷ b) = same_step x y (is_less a b) (is_less b a) (is_same a b) (same_is a b)

-- what is less than something is less than anything behind that, or that is less than it
pub no_less : (a b c : Bool) → (a ≡ true → (b || c) ≡ true) → b ≡ false → c ≡ false → a ≡ false
no_less true true c f e g = cc
no_less true false true f e g = cc
no_less true false false f e g = (let z : false ≡ true = f refl in cc)
no_less false b c f e g = refl
