-- The count of those that stand at a level, and the worst early code there, when one member changes.
use Rattle.std.proofs.Common.{rules, ◌≡◌, ℕ, zero, suc, ◌+◌, ◌<◌, ◌≤◌, true, false, List, [], ◌∷◌, length, set, refl, sym, ◌∙◌, ap, arith, ℤ, pos, Some, slice_get, nat_eq}
use Rattle.std.specs.List.{list_all}
use Rattle.std.proofs.lemmas.Bool.Decides.{nat_tests}
use Rattle.std.proofs.lemmas.Grind.{common_steps}
use Rattle.pipe_model.specs.Code.{worst_of}
use Rattle.pipe_model.proofs.Codes.{worst_order, worst_groups}
use Rattle.commit_levels.specs.UnitState.{Member, stands_at, early_code, worst_early}
use Rattle.commit_levels.specs.Kept.{standing_at}

-- Codes

worst_zero : (a : ℤ) → worst_of (pos 0) a ≡ a
worst_zero a = search rules

-- two codes change places
pub worst_swap : (a b c : ℤ) → worst_of a (worst_of b c) ≡ worst_of b (worst_of a c)
worst_swap a b c = sym (worst_groups a b c) ∙ ap (λ z. worst_of z c) (worst_order a b) ∙ worst_groups b a c

-- Members

pub standing_same : (place : ℕ) (ms : List Member) (k : ℕ) (m n : Member) → slice_get ms k ≡ Some m → stands_at place n ≡ stands_at place m → standing_at place (set ms k n) ≡ standing_at place ms
standing_same place [] k m n at same = refl
standing_same place (x ∷ ms) zero m n at same = grind (arith, common_steps)
standing_same place (x ∷ ms) (suc k) m n at same = grind (arith, common_steps, standing_same place ms k m n at same)

pub standing_more : (place : ℕ) (ms : List Member) (k : ℕ) (m n : Member) → slice_get ms k ≡ Some m → stands_at place m ≡ false → stands_at place n ≡ true → standing_at place (set ms k n) ≡ standing_at place ms + 1
standing_more place [] k m n at off on = grind (arith, common_steps)
standing_more place (x ∷ ms) zero m n at off on = grind (arith, common_steps)
standing_more place (x ∷ ms) (suc k) m n at off on = grind (arith, common_steps, standing_more place ms k m n at off on)

pub standing_most : (place : ℕ) (ms : List Member) → standing_at place ms ≤ length ms
standing_most place [] = grind (arith, common_steps)
standing_most place (x ∷ ms) = grind (arith, common_steps, standing_most place ms)

-- where one doesn't stand, not all are counted
pub standing_fewer : (place : ℕ) (ms : List Member) (k : ℕ) (m : Member) → slice_get ms k ≡ Some m → stands_at place m ≡ false → standing_at place ms < length ms
standing_fewer place [] k m at off = grind (arith, common_steps)
standing_fewer place (x ∷ ms) zero m at off = grind (arith, common_steps, standing_most place ms)
standing_fewer place (x ∷ ms) (suc k) m at off = grind (arith, common_steps, standing_fewer place ms k m at off)

-- all are counted exactly where all stand
pub standing_all : (place : ℕ) (ms : List Member) → nat_eq (standing_at place ms) (length ms) ≡ list_all (stands_at place) ms
standing_all place [] = refl
standing_all place (x ∷ ms) = grind (arith, common_steps, nat_tests, standing_all place ms, standing_most place ms)

pub worst_same : (place : ℕ) (ms : List Member) (k : ℕ) (m n : Member) → slice_get ms k ≡ Some m → early_code place n ≡ early_code place m → worst_early place (set ms k n) ≡ worst_early place ms
worst_same place [] k m n at same = refl
worst_same place (x ∷ ms) zero m n at same = grind (arith, common_steps)
worst_same place (x ∷ ms) (suc k) m n at same = grind (arith, common_steps, worst_same place ms k m n at same)

pub worst_more : (place : ℕ) (ms : List Member) (k : ℕ) (m n : Member) → slice_get ms k ≡ Some m → early_code place m ≡ pos 0 → worst_early place (set ms k n) ≡ worst_of (early_code place n) (worst_early place ms)
worst_more place [] k m n at none = grind (arith, common_steps)
worst_more place (x ∷ ms) zero m n at none = grind (arith, common_steps, worst_zero (worst_early place ms))
worst_more place (x ∷ ms) (suc k) m n at none = ap (worst_of (early_code place x)) (worst_more place ms k m n at none) ∙ worst_swap (early_code place x) (early_code place n) (worst_early place ms)
