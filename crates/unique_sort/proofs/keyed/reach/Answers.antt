use Rattle.std.proofs.Common.{◌≡◌, ℕ, suc, ◌+◌, ◌-◌, ◌<◌, ◌≤◌, List, ◌∷◌, length, get_or, drop, ◌∙◌, ap, sym, arith}
use Rattle.std.proofs.Math.Seq.{drop-cons}
use Rattle.std.proofs.lemmas.List.{drop_all}
use Rattle.unique_sort.specs.Fronts.{reach}
use Rattle.unique_sort.proofs.FrontOrder.{reach_below, reach_above}
use Rattle.unique_sort.proofs.keyed.reach.Goals as goal
use Rattle.unique_sort.proofs.keyed.reach.Goals.{then-len-eq-DIGITS-via-then-len-eq-DIGITS, then-len-eq-DIGITS-via-else-len-eq-DIGITS+then-byte}

module _ (key : List ℕ) (i : ℕ) (more : i < length key) where
  abbrev byte : ℕ
  byte = get_or key i 0

  abbrev rest : List ℕ
  rest = drop (suc i) key

  -- what there is still to reach begins with this byte
  here : (k : ℕ) → 7 - i ≡ k → reach (7 - i) (drop i key) ≡ reach k (byte ∷ rest)
  here k is = ap (reach (7 - i)) (drop-cons key i 0 more) ∙ ap (λ n. reach n (byte ∷ rest)) is

  -- a byte behind all digits
  full : i ≡ 7 → i + reach (7 - i) (drop i key) ≡ 8
  full is = omega (arith, is, here 0 (omega (arith, is)))

  -- an FF among the digits
  ended : i < 7 → 255 ≤ byte → i + reach (7 - i) (drop i key) ≡ 8
  ended low high = omega (arith, low, here (suc (6 - i)) (omega (arith, low)), reach_above (6 - i) byte rest high)

  -- a byte below FF is one more
  one_more : i < 7 → byte < 255 → reach (7 - i) (drop i key) ≡ suc (reach (7 - (i + 1)) (drop (i + 1) key))
  one_more low below =
      let next : suc i ≡ i + 1 = omega arith in
      let left : 6 - i ≡ 7 - (i + 1) = omega arith in
      here (suc (6 - i)) (omega (arith, low)) ∙ reach_below (6 - i) byte rest below ∙ ap (λ k. suc (reach k rest)) left ∙ ap (λ n. suc (reach (7 - (i + 1)) (drop n key))) next

pub returns-then-len-eq-DIGITS : goal.returns-then-len-eq-DIGITS
returns-then-len-eq-DIGITS c =
    let key = c.args.key.now in
    let i = c.loop-byte.byte-index in
    elim c.then-len-eq-DIGITS.branch [
      | then-len-eq-DIGITS-via-then-len-eq-DIGITS w ↦ sym (full key i c.loop-byte-test.true (omega arith)) ∙ c.loop-byte.invariant.value
      | then-len-eq-DIGITS-via-else-len-eq-DIGITS+then-byte w ↦ sym (ended key i c.loop-byte-test.true (omega arith) (omega arith)) ∙ c.loop-byte.invariant.value
    ]

pub loop-byte-preserved : goal.loop-byte-preserved
loop-byte-preserved c =
    let byte_fits : get_or c.args.key.now c.loop-byte.byte-index 0 < 256 = omega (arith, c.type_inv.key c.loop-byte.byte-index) in
    let low : c.loop-byte.byte-index < 7 = omega arith in
    let more = one_more c.args.key.now c.loop-byte.byte-index c.loop-byte-test.true low (omega (arith, byte_fits, c.if-byte.false)) in record {
      value = omega (arith, more, c.loop-byte.invariant.value);
      counted = omega arith;
      within = omega arith;
    }

pub returns : goal.returns
returns c =
    let none = drop_all c.loop-byte.byte-index c.args.key.now c.loop-byte-test.false in
    omega (arith, ap (reach (7 - c.loop-byte.byte-index)) none, c.loop-byte.invariant.value)
