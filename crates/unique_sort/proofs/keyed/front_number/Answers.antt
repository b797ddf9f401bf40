use Rattle.std.proofs.Common.{◌≡◌, ◌≤◌, ◌<◌, ◌+◌, ◌-◌, ◌*◌, ◌^◌, ℕ, suc, List, refl, ◌∙◌, ap, sym, arith}
use Rattle.std.proofs.Math.Nat.{pow-le-pow_right, pow-suc}
use Rattle.unique_sort.specs.Fronts.{front_on, digit, reach}
use Rattle.unique_sort.proofs.FrontOrder.{small_digit, front_fits}
use Rattle.unique_sort.proofs.keyed.front_number.Goals as goal
use Rattle.unique_sort.proofs.keyed.front_number.Goals.{After-loop}

-- a number of fewer than seven digits
few : (n k : ℕ) → n < 256 ^ k → k < 7 → n < 256 ^ 6
few n k small low = let le : 256 ^ k ≤ 256 ^ 6 = pow-le-pow_right {n = 256} (omega arith) {i = k} {j = 6} (omega (arith, low)) in omega (arith, small, le)

-- one digit more
more : (n d k : ℕ) → n < 256 ^ k → d ≤ 255 → n * 256 + d < 256 ^ (k + 1)
more n d k small low =
    let next : k + 1 ≡ suc k = omega arith in
    let power : 256 ^ (k + 1) ≡ 256 ^ k * 256 = ap (λ j. 256 ^ j) next ∙ pow-suc 256 k in
    omega (arith, small, low, power)

pub overflow_mul-number : goal.overflow_mul-number
overflow_mul-number c = let small = few c.loop.number c.loop.counter c.loop.invariant.small (omega arith) in omega (arith, small)

pub overflow_add-number : goal.overflow_add-number
overflow_add-number c = let small = few c.loop.number c.loop.counter c.loop.invariant.small (omega arith) in omega (arith, small)

pub loop-preserved : goal.loop-preserved
loop-preserved c =
    let left = 7 - (c.loop.counter + 1) in
    let gone : suc left ≡ 7 - c.loop.counter = omega arith in
    let number = c.loop.number in
    let first = c.first_digit-digit.ensures in
    let low : c.first_digit-digit.result.0 ≤ 255 = omega (arith, first.digit, small_digit c.loop.rest.now) in record {
      value = ap (λ d. front_on left (number * 256 + d) c.first_digit-digit.result.1.now) first.digit ∙ ap (front_on left (number * 256 + digit c.loop.rest.now)) first.behind
          ∙ ap (λ k. front_on k number c.loop.rest.now) gone ∙ c.loop.invariant.value;
      small = more number c.first_digit-digit.result.0 c.loop.counter c.loop.invariant.small low;
    }

-- seven digits, and as an eighth how far they reach, fit
all_digits : (key : List ℕ) (n r : ℕ) → n ≡ front_on 7 0 key → r ≡ reach 7 key → n * 256 + r < 2 ^ 64
all_digits key n r is reached = omega (arith, is, reached, front_fits key)

-- behind the loop the number has all seven digits
digits : (c : After-loop) → c.loop.number ≡ front_on 7 0 c.args.key.now
digits c =
    let none : 7 - c.loop.counter ≡ 0 = omega arith in
    ap (λ k. front_on k c.loop.number c.loop.rest.now) (sym none) ∙ c.loop.invariant.value

pub overflow_mul-result : goal.overflow_mul-result
overflow_mul-result c = omega (arith, all_digits c.args.key.now c.loop.number (reach 7 c.args.key.now) (digits c) refl)

pub overflow_add-result : goal.overflow_add-result
overflow_add-result c = omega (arith, all_digits c.args.key.now c.loop.number c.reach.result (digits (goal.at.overflow_add-result c).After-loop) c.reach.ensures)

pub returns : goal.returns
returns c =
    ap (λ n. n * 256 + c.reach.result) (digits (goal.at.returns c).After-loop) ∙ ap (λ r. front_on 7 0 c.args.key.now * 256 + r) c.reach.ensures
