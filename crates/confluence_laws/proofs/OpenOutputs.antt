-- How many outputs have not refused.
use Rattle.std.proofs.Common.{◌≡◌, ◌≢◌, ℕ, zero, suc, ◌+◌, ◌≤◌, Bool, true, false, ◌&&◌, ◌||◌, not, ◌==◌, List, [], ◌∷◌, length, subst, arith}
use Rattle.std.proofs.lemmas.Bool.{ne_eqb}
use Rattle.pipe_model.specs.Event.{one_more}
use Rattle.pipe_model.specs.Members.{has, flag_at}
use Rattle.pipe_model.proofs.Numbers.{test_same}

-- how many outputs have not refused
abbrev pub open_from : ℕ → List Bool → List ℕ → ℕ
open_from k [] refused = 0
open_from k (flag ∷ flags) refused = one_more (flag && not (has refused k)) (open_from (suc k) flags refused)

-- a refusal makes one open output less
pub less_open : (k : ℕ) (flags : List Bool) (refused : List ℕ) (o n : ℕ) → flag_at flags o ≡ true → n ≡ k + o → has refused n ≡ false → suc (open_from k flags (n ∷ refused)) ≤ open_from k flags refused
less_open k [] refused o n flag e free = cc
less_open k (f ∷ flags) refused zero n flag e free = now (let z : n ≡ k = omega (arith, e) in z)
  where
    fewer : (k : ℕ) (flags : List Bool) → open_from k flags (n ∷ refused) ≤ open_from k flags refused
    fewer k [] = omega arith
    fewer k (f ∷ flags) = by_test (n == k) f (has refused k) (fewer (suc k) flags)
      where
        by_test : (a b c : Bool) {x y : ℕ} → x ≤ y → one_more (b && not (a || c)) x ≤ one_more (b && not c) y
        by_test true true true p = p
        by_test true true false p = omega (arith, p)
        by_test false true true p = p
        by_test false true false p = omega (arith, p)
        by_test true false c p = p
        by_test false false c p = p

    now : n ≡ k → suc (one_more (f && not ((n == k) || has refused k)) (open_from (suc k) flags (n ∷ refused))) ≤ one_more (f && not (has refused k)) (open_from (suc k) flags refused)
    now is =
        let a : (n == k) ≡ true = subst (λ z. (n == z) ≡ true) is (test_same n) in
        let b : has refused k ≡ false = subst (λ z. has refused z ≡ false) is free in
        let flagged : f ≡ true = flag in
        let r = fewer (suc k) flags in
        by_eq (n == k) f (has refused k) a flagged b r
      where
        by_eq : (a b c : Bool) → a ≡ true → b ≡ true → c ≡ false → {x y : ℕ} → x ≤ y → suc (one_more (b && not (a || c)) x) ≤ one_more (b && not c) y
        by_eq true true false p q r s = omega (arith, s)
        by_eq true true true p q r s = cc
        by_eq true false c p q r s = cc
        by_eq false b c p q r s = cc
less_open k (f ∷ flags) refused (suc o) n flag e free =
    let r = less_open (suc k) flags refused o n flag (omega (arith, e)) free in
    let apart : n ≢ k = λ z. omega (arith, z, e) in
    by_test (n == k) f (has refused k) (ne_eqb n k apart) r
  where
    by_test : (a b c : Bool) → a ≡ false → {x y : ℕ} → suc x ≤ y → suc (one_more (b && not (a || c)) x) ≤ one_more (b && not c) y
    by_test true b c e p = cc
    by_test false true true e p = p
    by_test false true false e p = omega (arith, p)
    by_test false false c e p = p

-- there are no more than outputs
pub all_open : (k : ℕ) (flags : List Bool) → open_from k flags [] ≤ length flags
all_open k [] = omega arith
all_open k (f ∷ flags) = by_test f (all_open (suc k) flags)
  where
    by_test : (b : Bool) {x y : ℕ} → x ≤ y → one_more (b && true) x ≤ suc y
    by_test true p = omega (arith, p)
    by_test false p = omega (arith, p)
