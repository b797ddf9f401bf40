-- What is found among a list, with one more at its end.
use Rattle.std.proofs.Common.{if◌then◌else◌, ◌≡◌, ◌||◌, Bool, true, false, List, [], ◌∷◌, ◌++◌, refl, ap, ◌∙◌, Some, None}
use Rattle.std.specs.List.{find, list_any}
use Rattle.std.proofs.Math.Bool.{or-false}
use Rattle.std.proofs.lemmas.List.Folds.{list_any-append}

-- whether one passes
pub any_last : {X : Type 0} (test : X → Bool) (xs : List X) (x : X) → list_any test (xs ++ x ∷ []) ≡ (list_any test xs || test x)
any_last test xs x = list_any-append test xs (x ∷ []) ∙ ap (λ b. list_any test xs || b) (or-false (test x))

-- what is found stays, where the one more isn't the first that passes
pub find_stays : {X : Type 0} (test : X → Bool) (xs : List X) (x : X) → (test x ≡ true → list_any test xs ≡ true) → find test (xs ++ x ∷ []) ≡ find test xs
find_stays {X} test [] x passed = by (test x) refl where
  by : (is : Bool) → test x ≡ is → (if is then Some x else None) ≡ None
  by true is = let no : false ≡ true = passed is in cc
  by false is = refl
find_stays {X} test (y ∷ xs) x passed = by (test y) refl (find_stays test xs x) where
  by : (is : Bool) → test y ≡ is → ((test x ≡ true → list_any test xs ≡ true) → find test (xs ++ x ∷ []) ≡ find test xs)
      → (if is then Some y else find test (xs ++ x ∷ [])) ≡ (if is then Some y else find test xs)
  by true is later = refl
  by false is later = later (λ passes. let here = passed passes in rw is at here)

-- the one more is found, where it is the first that passes
pub find_last : {X : Type 0} (test : X → Bool) (xs : List X) (x : X) → list_any test xs ≡ false → test x ≡ true → find test (xs ++ x ∷ []) ≡ Some x
find_last test [] x none passes = rw passes refl
find_last {X} test (y ∷ xs) x none passes = by (test y) refl (λ later. find_last test xs x later passes) where
  by : (is : Bool) → test y ≡ is → (list_any test xs ≡ false → find test (xs ++ x ∷ []) ≡ Some x) → (if is then Some y else find test (xs ++ x ∷ [])) ≡ Some x
  by true is later = let no = rw is at none in cc
  by false is later = later (rw is at none)

-- a test that stays true
pub stays : (given any more : Bool) → given ≡ any → (more ≡ true → given ≡ true) → given ≡ (any || more)
stays true true more is passed = refl
stays true false more is passed = cc
stays false true more is passed = cc
stays false false true is passed = passed refl
stays false false false is passed = refl
