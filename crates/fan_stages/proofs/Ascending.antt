-- FANIN reads the first input that hasn't ended, where those before it have.
use Rattle.std.proofs.Common.{◌≡◌, ◌<◌, ◌≤◌, ◌+◌, ℕ, zero, suc, Bool, true, false, cond, ltb, not, ◌==◌, ◌&&◌, ◌||◌, List, ◌∷◌, refl, sym, ◌∙◌, ap, arith, Some, None}
use Rattle.std.specs.Prelude.{find}
use Rattle.std.specs.List.{range_with_len}
use Rattle.std.proofs.lemmas.Bool.Decides.{nat_tests}
use Rattle.pipe_model.specs.Members.{has}
use Rattle.pipe_model.specs.Shape.{can_read, all_inputs}
use Rattle.fan_stages.specs.FanIn.{input_within}

module _ (n input : ℕ) (ends : List ℕ) (ended : (i : ℕ) → has ends i ≡ ltb i input) where
  first_from : (m s : ℕ) → s + m ≡ n → s ≤ input → find (can_read n ends) (range_with_len s m) ≡ input_within n input
  first_from zero s all low =
      let past : ltb input n ≡ false = grind (arith, nat_tests) in
      ap (λ b. cond b (Some input) None) (sym past)
  first_from (suc m) s all low = by (ltb s input) refl (first_from m (s + 1) (omega (arith, all)))
    where
      by : (b : Bool) → ltb s input ≡ b → (s + 1 ≤ input → find (can_read n ends) (range_with_len (s + 1) m) ≡ input_within n input) → find (can_read n ends) (s ∷ range_with_len (s + 1) m) ≡ input_within n input
      by true e later =
          let open_not : can_read n ends s ≡ false = ap (λ b. ltb s n && not b) (ended s ∙ e) ∙ grind (arith, nat_tests) in
          let below : s + 1 ≤ input = grind (arith, nat_tests) in
          ap (λ b. cond b (Some s) (find (can_read n ends) (range_with_len (s + 1) m))) open_not ∙ later below
      by false e later =
          let within : ltb s n ≡ true = grind (arith, nat_tests) in
          let opened : can_read n ends s ≡ true = ap (λ b. ltb s n && not b) (ended s ∙ e) ∙ ap (λ b. b && true) within in
          let here : s ≡ input = grind (arith, nat_tests) in
          ap (λ b. cond b (Some s) (find (can_read n ends) (range_with_len (s + 1) m))) opened
          ∙ ap Some here
          ∙ ap (λ b. cond b (Some input) None) (sym within ∙ ap (λ i. ltb i n) here)

  pub first_open : find (can_read n ends) (all_inputs n) ≡ input_within n input
  first_open = first_from n 0 (omega arith) (omega arith)

-- the input that is read is there
pub is_within : (n input i : ℕ) → input_within n input ≡ Some i → (input ≡ i) × (i < n)
is_within n input i is = by (ltb input n) refl is
  where
    by : (b : Bool) → ltb input n ≡ b → cond b (Some input) None ≡ Some i → (input ≡ i) × (i < n)
    by true e is = let it : input ≡ i = cc in (it, grind (arith, nat_tests))
    by false e is = cc

-- one more ended
pub one_more_ended : (input input' : ℕ) (ends : List ℕ) → ((i : ℕ) → has ends i ≡ ltb i input) → input' ≡ input + 1 → (i : ℕ) → has (input ∷ ends) i ≡ ltb i input'
one_more_ended input input' ends ended next i = ap (λ b. (input == i) || b) (ended i) ∙ grind (arith, nat_tests)
