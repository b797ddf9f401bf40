use Rattle.std.proofs.Common.{◌≡◌, ℕ, zero, suc, List, [], ◌∷◌, ◌++◌, length, refl, sym, ap, subst, arith, Some, slice_get}
use Rattle.std.proofs.lemmas.List.{length_push}
use Rattle.std.proofs.lemmas.Option.{slice_get_read}
use Rattle.core_tests.proofs.braids.stages_of.Goals as goal

-- what fits place by place still does with one more that fits behind it
with_one_more : {A B : Type 0} (Fits : B → A → Type 0) (xs : List A) (ys : List B) (x : A) (y : B) → slice_get xs (length ys) ≡ Some x → Fits y x →
    ((i : ℕ) (a : A) (b : B) → slice_get xs i ≡ Some a → slice_get ys i ≡ Some b → Fits b a) →
    (i : ℕ) (a : A) (b : B) → slice_get xs i ≡ Some a → slice_get (ys ++ y ∷ []) i ≡ Some b → Fits b a
with_one_more Fits xs [] x y here fits each zero a b at_a at_b =
    let same_a : x ≡ a = cc in
    let same_b : y ≡ b = cc in
    subst (λ z. Fits z a) same_b (subst (Fits y) same_a fits)
with_one_more Fits xs [] x y here fits each (suc i) a b at_a at_b = cc
with_one_more Fits [] (z ∷ ys) x y here fits each i a b at_a at_b = cc
with_one_more Fits (w ∷ xs) (z ∷ ys) x y here fits each zero a b at_a at_b = each zero a b at_a at_b
with_one_more Fits (w ∷ xs) (z ∷ ys) x y here fits each (suc i) a b at_a at_b = with_one_more Fits xs ys x y here fits (λ j. each (suc j)) i a b at_a at_b

pub loop-k-preserved : goal.loop-k-preserved
loop-k-preserved g c =
    let strands = c.as_slice-strands.result.now in
    let stages = c.loop-k.stages.items in
    let made = c.in_ok-of_strand.field-0 in
    let strand = c.index-strands-k.result in
    let here : slice_get strands c.loop-k.k ≡ Some strand = slice_get_read strands (length strands) c.loop-k.k strand refl c.loop-k-test.true c.index-strands-k.is in
    let items : c.push.new.self.items ≡ stages ++ made ∷ [] = c.in_ok-push.ensures.items in
    record {
      count = omega (arith, ap length items, length_push stages made, c.loop-k.invariant.count);
      within = omega (arith, c.loop-k-test.true);
      each = λ s p stage at_p at_stage.
          with_one_more (λ stage p. g.S.Stage.stands stage p []) strands stages strand made (subst (λ n. slice_get strands n ≡ Some strand) (sym c.loop-k.invariant.count) here) c.in_ok-of_strand.ensures
          c.loop-k.invariant.each s p stage at_p (subst (λ stages. slice_get stages s ≡ Some stage) items at_stage);
    }
