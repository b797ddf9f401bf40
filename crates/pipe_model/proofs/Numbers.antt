-- Plain facts of numbers and of the test that two are equal.
use Rattle.std.proofs.Common.{◌≡◌, ◌≢◌, ◌⊎◌, ℕ, true, ◌==◌, arith}
use Rattle.std.proofs.lemmas.Bool.Decides.{nat_tests}

-- two numbers are equal or not
pub equal_or_not : (a b : ℕ) → (a ≡ b) ⊎ (a ≢ b)
equal_or_not a b = grind (arith, nat_tests)

-- a number passes the test with itself
pub test_same : (a : ℕ) → (a == a) ≡ true
test_same a = grind (arith, nat_tests)
