use Rattle.std.proofs.Common.{◌≡◌, ◌≤◌, ◌<◌, ◌+◌, ◌*◌, ◌^◌, ℕ, suc, ◌∙◌, ap, arith}
use Rattle.std.proofs.Math.Nat.{pow-le-pow_right, pow-suc}
use Rattle.specs_stage.proofs.numbers.spelled.Goals as goal

-- a number of at most eighteen digits
few : (n k : ℕ) → n < 10 ^ k → k < 19 → n < 10 ^ 18
few n k small low = let le : 10 ^ k ≤ 10 ^ 18 = pow-le-pow_right {n = 10} (omega arith) {i = k} {j = 18} (omega (arith, low)) in omega (arith, small, le)

-- one digit more
more : (n d k : ℕ) → n < 10 ^ k → d ≤ 9 → 10 * n + d < 10 ^ (k + 1)
more n d k small low =
    let next : k + 1 ≡ suc k = omega arith in
    let power : 10 ^ (k + 1) ≡ 10 ^ k * 10 = ap (λ j. 10 ^ j) next ∙ pow-suc 10 k in
    omega (arith, small, low, power)

pub overflow_mul-number : goal.overflow_mul-number
overflow_mul-number c = let small = few c.loop-byte.number c.loop-byte.byte-index c.loop-byte.invariant.small (omega arith) in omega (arith, small)

pub overflow_add-number : goal.overflow_add-number
overflow_add-number c = let small = few c.loop-byte.number c.loop-byte.byte-index c.loop-byte.invariant.small (omega arith) in omega (arith, small)
