-- A part of a part of bytes is a part of the bytes.
use Rattle.std.proofs.Common.{◌≡◌, ◌⊎◌, inl, inr, ℕ, ◌+◌, ◌-◌, ◌<◌, ◌≤◌, List, [], length, take, drop, min, refl, sym, ◌∙◌, ap, subst, arith}
use Rattle.std.proofs.Math.Nat.{min-eq_left, min-eq_right}
use Rattle.std.proofs.lemmas.Bool.{cases_lt}
use Rattle.std.proofs.lemmas.List.{take-take, take_all, drop_all, drop-take, drop-drop, length-take-le, length-drop}

-- the first of the first
fewer : {A : Type 0} → (n m : ℕ) (xs : List A) → take (min n m) xs ≡ take n (take m xs)
fewer {A = A} n m xs = elim (cases_lt n m) [
  | inl less ↦ ap (λ k. take k xs) (min-eq_left (le less)) ∙ sym (take-take n m xs (le less))
  | inr most ↦ ap (λ k. take k xs) (min-eq_right most) ∙ sym (take_all n (take m xs) (short most))
]
  where
    le : n < m → n ≤ m
    le less = omega (arith, less)

    short : m ≤ n → length (take m xs) ≤ n
    short most = elim (cases_lt (length xs) m) [
      | inl less ↦ subst (λ (z : List A). length z ≤ n) (sym (take_all m xs (omega (arith, less)))) (omega (arith, less, most))
      | inr more ↦ subst (λ k. k ≤ n) (sym (length-take-le m xs more)) most
    ]

pub part_of_part : {A : Type 0} → (whole : List A) (at size from count : ℕ) → at + size ≤ length whole →
    take (min count (size - from)) (drop (at + (size - (size - from))) whole) ≡ take count (drop from (take size (drop at whole)))
part_of_part {A = A} whole at size from count inside = elim (cases_lt from size) [
  | inl less ↦
      ap (λ k. take (min count (size - from)) (drop (at + k) whole)) (omega (arith, less))
      ∙ fewer count (size - from) (drop (at + from) whole)
      ∙ ap (take count) (ap (take (size - from)) (sym (drop-drop from at whole)) ∙ sym (drop-take from (size - from) (drop at whole)) ∙ ap (λ k. drop from (take k (drop at whole))) (omega (arith, less)))
  | inr past ↦
      ap (λ k. take (min count k) (drop (at + (size - k)) whole)) (omega (arith, past))
      ∙ ap (λ k. take k (drop (at + (size - 0)) whole)) (min-eq_right {m = count} (omega arith))
      ∙ sym (ap (take count) (drop_all from (take size (drop at whole)) (short past)) ∙ take_all count [] (omega arith))
]
  where
    short : size ≤ from → length (take size (drop at whole)) ≤ from
    short past = subst (λ k. k ≤ from) (sym (length-take-le size (drop at whole) (subst (λ k. size ≤ k) (sym (length-drop at whole)) (omega (arith, inside))))) past
