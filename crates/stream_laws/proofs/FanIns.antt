-- FANIN puts its inputs one after another.
use Rattle.std.proofs.Common.{◌≡◌, ℕ, zero, suc, ◌+◌, ◌<◌, ◌≤◌, Bool, true, false, cond, ◌&&◌, ◌||◌, not, ◌==◌, List, [], ◌∷◌, ◌++◌, refl, sym, ◌∙◌, ap, subst, arith, Some, None, append_assoc}
use Rattle.std.specs.Prelude.{find, flat_map, nat_lt}
use Rattle.std.specs.List.{range_with_len}
use Rattle.std.proofs.lemmas.Bool.Decides.{nat_tests}
use Rattle.std.proofs.Math.Bool.{and-false}
use Rattle.pipe_model.specs.declared.net.Strand.{Strand}
use Rattle.pipe_model.specs.Event.{Event}
use Rattle.pipe_model.specs.Row.{Pair, Known}
use Rattle.pipe_model.specs.Shape.{Records, can_read, turn_plan}
use Rattle.pipe_model.specs.FanRows.{fanning_in}
use Rattle.pipe_model.specs.Inputs.{records_from, at_hand_causes}
use Rattle.pipe_model.specs.Counts.{all_on}
use Rattle.pipe_model.specs.Table.{form}
use Rattle.pipe_model.specs.Members.{has}
use Rattle.pipe_model.specs.Alone.{Given, IsAllAlone}
use Rattle.pipe_model.specs.Listed.{fan_in_pairs, IsUnlimited}
use Rattle.stream_laws.specs.InOrder.{PutsInOrder}
use Rattle.stream_laws.proofs.Streams.{on_both, on_others, output_both}
use Rattle.stream_laws.proofs.Turned.{caused, At, turns_begin, turns_over, read_all}

-- the record at hand is the last one
pub hand_causes : (outs : ℕ → List ℕ → List Pair) (seen : List Pair) (i : ℕ) (rec : List ℕ) → at_hand_causes outs (seen ++ (i, rec) ∷ []) ≡ outs i rec
hand_causes outs [] i rec = refl
hand_causes outs (p ∷ []) i rec = refl
hand_causes outs (p ∷ q ∷ ps) i rec = hand_causes outs (q ∷ ps) i rec

-- all records of an input are passed
all_passed : (seen : List Pair) (i : ℕ) (rest : Records) → caused fanning_in seen i rest ≡ all_on 0 rest
all_passed seen i [] = refl
all_passed seen i (rec ∷ rest) =
    ap (λ z. z ++ caused fanning_in (seen ++ (i, rec) ∷ []) i rest) (hand_causes (λ i rec. (0, rec) ∷ []) seen i rec)
    ∙ ap (λ z. (0, rec) ∷ z) (all_passed (seen ++ (i, rec) ∷ []) i rest)

-- the inputs below a number, the latest first
abbrev down : ℕ → List ℕ
down zero = []
down (suc a) = a ∷ down a

down_has : (a b : ℕ) → has (down a) b ≡ nat_lt b a
down_has zero b = grind (arith, nat_tests)
down_has (suc a) b = ap (λ z. a == b || z) (down_has a b) ∙ both_ways
  where
    both_ways : (a == b || nat_lt b a) ≡ nat_lt b (suc a)
    both_ways = grind (arith, nat_tests)

-- of inputs from a number on, the first that isn't below another number
next_from : (n m b a : ℕ) → b + m ≡ n → b ≤ a → a < n → find (can_read n (down a)) (range_with_len b m) ≡ Some a
next_from n zero b a sum le lt = absurd (omega arith)
next_from n (suc m) b a sum le lt = by_test (nat_lt b a) refl (λ less. next_from n m (b + 1) a (omega (arith, sum)) less lt)
  where
    here : nat_lt b n ≡ true
    here = let z : b < n = omega (arith, sum) in grind (arith, nat_tests)

    by_test : (c : Bool) → nat_lt b a ≡ c → (b + 1 ≤ a → find (can_read n (down a)) (range_with_len (b + 1) m) ≡ Some a) → cond (nat_lt b n && not (has (down a) b)) (Some b) (find (can_read n (down a)) (range_with_len (b + 1) m)) ≡ Some a
    by_test true is rest =
        ap (λ z. cond (z && not (has (down a) b)) (Some b) (find (can_read n (down a)) (range_with_len (b + 1) m))) here
        ∙ ap (λ z. cond (not z) (Some b) (find (can_read n (down a)) (range_with_len (b + 1) m))) (down_has a b ∙ is)
        ∙ (let less : b < a = grind (arith, nat_tests) in rest (omega arith))
    by_test false is rest =
        ap (λ z. cond (z && not (has (down a) b)) (Some b) (find (can_read n (down a)) (range_with_len (b + 1) m))) here
        ∙ ap (λ z. cond (not z) (Some b) (find (can_read n (down a)) (range_with_len (b + 1) m))) (down_has a b ∙ is)
        ∙ (let not_less : a ≤ b = grind (arith, nat_tests) in let it : b ≡ a = omega arith in ap (λ z. Some z) it)

-- and none where all are
none_from : (n m b : ℕ) → b + m ≡ n → find (can_read n (down n)) (range_with_len b m) ≡ None
none_from n zero b sum = refl
none_from n (suc m) b sum =
    let here : nat_lt b n ≡ true = is_below in
    ap (λ z. cond (nat_lt b n && not z) (Some b) (find (can_read n (down n)) (range_with_len (b + 1) m))) (down_has n b ∙ here)
    ∙ ap (λ z. cond z (Some b) (find (can_read n (down n)) (range_with_len (b + 1) m))) (and-false (nat_lt b n))
    ∙ none_from n m (b + 1) (omega (arith, sum))
  where
    is_below : nat_lt b n ≡ true
    is_below = let z : b < n = omega (arith, sum) in grind (arith, nat_tests)

module _ (s : Strand) (g : Given) (unlimited : IsUnlimited g) (W : List Event) (done : IsAllAlone s g W)
    (n : ℕ) (row_is : (form s).row.plan ≡ (λ (k : Known). turn_plan n fanning_in k k.told)) where
  -- nothing was seen of the inputs from a number on
  abbrev IsUnread : ℕ → List Pair → Type 0
  IsUnread a seen = (j : ℕ) → a ≤ j → records_from j seen ≡ []

  inputs_from : (m a : ℕ) → a + m ≡ n → (seen pairs : List Pair) → IsUnread a seen → At s g unlimited W done n fanning_in row_is seen (down a) pairs → PutsInOrder s W (pairs ++ all_on 0 (flat_map g.inputs (range_with_len a m)))
  inputs_from zero a sum seen pairs unread x =
      let it : a ≡ n = omega arith in
      (turns_over s g unlimited W done n fanning_in row_is seen (down a) pairs (ap (λ z. find (can_read n (down z)) (range_with_len 0 n)) it ∙ none_from n n 0 (omega arith)) x).puts
  inputs_from (suc m) a sum seen pairs unread x =
      let lt : a < n = omega arith in
      let y = read_all s g unlimited W done n fanning_in row_is a (down a) (λ seen. next_from n n 0 a (omega arith) (omega arith) lt) (g.inputs a) seen pairs (ap (λ z. z ++ g.inputs a) (sym (unread a (omega arith)))) x in
      let z = subst (λ z. At s g unlimited W done n fanning_in row_is (seen ++ all_on a (g.inputs a)) (down (suc a)) (pairs ++ z)) (all_passed seen a (g.inputs a)) y in
      let still : IsUnread (suc a) (seen ++ all_on a (g.inputs a)) =
      λ j le. on_both j seen (all_on a (g.inputs a)) ∙ ap (λ z. z ++ records_from j (all_on a (g.inputs a))) (unread j (omega arith)) ∙ on_others a j (g.inputs a) (apart a j le) in
      let w = inputs_from m (suc a) (omega (arith, sum)) (seen ++ all_on a (g.inputs a)) (pairs ++ all_on 0 (g.inputs a)) still z in
      subst (λ z. PutsInOrder s W z)
      (append_assoc pairs (all_on 0 (g.inputs a)) (all_on 0 (flat_map g.inputs (range_with_len (suc a) m)))
      ∙ ap (λ z. pairs ++ z) (sym (output_both 0 (g.inputs a) (flat_map g.inputs (range_with_len (suc a) m))))
      ∙ ap (λ z. pairs ++ all_on 0 (g.inputs a ++ flat_map g.inputs (range_with_len z m))) plus) w
    where
      apart : (a j : ℕ) → suc a ≤ j → (a == j) ≡ false
      apart a j le = grind (arith, nat_tests)

      plus : suc a ≡ a + 1
      plus = omega arith

  pub fan_in_puts : (form s).row.early ≡ None → PutsInOrder s W (fan_in_pairs g.inputs n)
  fan_in_puts early = inputs_from n 0 (omega arith) [] [] (λ j le. refl) (turns_begin s g unlimited W done n fanning_in row_is early)
