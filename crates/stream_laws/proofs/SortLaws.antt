-- SORT's list is in order, has the records that came, and leaves those of the same keys as they came.
use Rattle.std.proofs.Common.{◌≡◌, ℕ, zero, suc, ◌+◌, Bool, true, false, cond, not, List, [], ◌∷◌, ◌++◌, get_or, refl, sym, ◌∙◌, ap, subst, arith, append_assoc}
use Rattle.std.specs.Prelude.{◌&&◌, filter}
use Rattle.std.specs.List.Sorted.{IsPermutation, IsSortedBy, ties}
use Rattle.std.proofs.lemmas.List.{append-nil}
use Rattle.std.proofs.lemmas.List.Elements.{filter_agree}
use Rattle.std.proofs.lemmas.List.Sorted.{IsPermutation-refl, IsPermutation-cons, IsPermutation-trans, IsPermutation-middle}
use Rattle.pipe_model.specs.declared.keys.SortKey.{SortKey}
use Rattle.pipe_model.specs.Keys.{is_less, is_same}
use Rattle.pipe_model.specs.Ranges.{part_of}
use Rattle.pipe_model.specs.Shape.{Records}
use Rattle.pipe_model.specs.Counts.{all_on}
use Rattle.pipe_model.specs.OrderRows.{goes_before, inserted, sorted, sort}
use Rattle.pipe_model.specs.Listed.{pairs_of, pairs_after}
use Rattle.stream_laws.specs.SameKeys.{have_same_keys}
use Rattle.stream_laws.proofs.KeyOrder.{same_is}
use Rattle.stream_laws.proofs.KeysInTurn.{goes_before_orders}
use Rattle.stream_laws.proofs.Stable.{Ascends, ascends, one_order, sorted_ascends, sorted_stays}

module _ (keys : List SortKey) where
  -- A permutation

  moves_in : (rec : List ℕ) (recs : Records) → IsPermutation (rec ∷ recs) (inserted keys rec recs)
  moves_in rec [] = IsPermutation-refl (rec ∷ [])
  moves_in rec (other ∷ recs) = by_test (goes_before keys other rec) (moves_in rec recs)
    where
      by_test : (b : Bool) → IsPermutation (rec ∷ recs) (inserted keys rec recs) → IsPermutation (rec ∷ other ∷ recs) (cond b (other ∷ inserted keys rec recs) (rec ∷ other ∷ recs))
      by_test true rest =
          IsPermutation-trans (rec ∷ other ∷ recs) (other ∷ rec ∷ recs) (other ∷ inserted keys rec recs) (IsPermutation-middle (rec ∷ []) other recs) (IsPermutation-cons other (rec ∷ recs) (inserted keys rec recs) rest)
      by_test false rest = IsPermutation-refl (rec ∷ other ∷ recs)

  pub moves_all : (recs : Records) → IsPermutation recs (sorted keys recs)
  moves_all [] = IsPermutation-refl []
  moves_all (rec ∷ recs) =
      IsPermutation-trans (rec ∷ recs) (rec ∷ sorted keys recs) (inserted keys rec (sorted keys recs)) (IsPermutation-cons rec recs (sorted keys recs) (moves_all recs)) (moves_in rec (sorted keys recs))

  -- In order

  neighbours : (recs : Records) → Ascends (goes_before keys) (goes_before_orders keys) recs → IsSortedBy (goes_before keys) recs
  neighbours [] up k d low high = absurd (omega arith)
  neighbours (rec ∷ []) up k d low high = absurd (omega arith)
  neighbours (rec ∷ other ∷ recs) up zero d low high = up.0.0
  neighbours (rec ∷ other ∷ recs) up (suc k) d low high =
      let further : suc k + 1 ≡ suc (k + 1) = omega arith in
      subst (λ n. goes_before keys (get_or (rec ∷ other ∷ recs) n d) (get_or (other ∷ recs) k d) ≡ false) (sym further) (neighbours (other ∷ recs) up.1 k d (omega arith) (omega (arith, high)))

  pub in_order : (recs : Records) → IsSortedBy (goes_before keys) (sorted keys recs)
  in_order recs = neighbours (sorted keys recs) (sorted_ascends keys recs)

  -- Stable

  -- neither goes before the other where their keys are the same
  tied : (rec other : List ℕ) → ties (goes_before keys) rec other ≡ have_same_keys keys rec other
  tied rec other = each keys
    where
      one : (same descending less more ahead behind rest : Bool) → same ≡ (not less && not more) → (not ahead && not behind) ≡ rest →
          (not (cond same ahead (cond descending more less)) && not (cond same behind (cond descending less more))) ≡ (same && rest)
      one true descending less more ahead behind rest is e = e
      one false true true more ahead behind rest is e = grind arith
      one false true false more ahead behind rest is e = grind arith
      one false false true more ahead behind rest is e = grind arith
      one false false false more ahead behind rest is e = grind arith

      each : (ks : List SortKey) → (not (goes_before ks rec other) && not (goes_before ks other rec)) ≡ have_same_keys ks rec other
      each [] = refl
      each (key ∷ ks) =
          let a = part_of key.range rec in
          let b = part_of key.range other in
          ap (λ z. not (cond (is_same a b) (goes_before ks rec other) (cond key.descending (is_less b a) (is_less a b))) && not (cond z (goes_before ks other rec) (cond key.descending (is_less a b) (is_less b a)))) (turned b a)
          ∙ one (is_same a b) key.descending (is_less a b) (is_less b a) (goes_before ks rec other) (goes_before ks other rec) (have_same_keys ks rec other) (same_is a b) (each ks)
        where
          swap : (x y : Bool) → (not x && not y) ≡ (not y && not x)
          swap true true = refl
          swap true false = refl
          swap false true = refl
          swap false false = refl

          turned : (b a : List ℕ) → is_same b a ≡ is_same a b
          turned b a = same_is b a ∙ swap (is_less b a) (is_less a b) ∙ sym (same_is a b)

  tied_kept : (rec : List ℕ) (recs : Records) → filter (ties (goes_before keys) rec) recs ≡ filter (have_same_keys keys rec) recs
  tied_kept rec recs = filter_agree (ties (goes_before keys) rec) (have_same_keys keys rec) (tied rec) recs

  pub stays : (recs : Records) (rec : List ℕ) → filter (have_same_keys keys rec) (sorted keys recs) ≡ filter (have_same_keys keys rec) recs
  stays recs rec = sym (tied_kept rec (sorted keys recs)) ∙ sorted_stays keys rec recs ∙ tied_kept rec recs

  -- there is one such list
  pub one_list : (recs done : Records) → IsSortedBy (goes_before keys) done → ((rec : List ℕ) → filter (have_same_keys keys rec) done ≡ filter (have_same_keys keys rec) recs) → done ≡ sorted keys recs
  one_list recs done up same =
      one_order (goes_before keys) (goes_before_orders keys) done (sorted keys recs) (ascends (goes_before keys) (goes_before_orders keys) done up) (sorted_ascends keys recs)
      (λ rec. tied_kept rec done ∙ same rec ∙ sym (tied_kept rec recs) ∙ sym (sorted_stays keys rec recs))

  -- all pairs are those at the end
  last_after : (recs rest : Records) → pairs_after (sort keys) recs rest ≡ all_on 0 (sorted keys (recs ++ rest))
  last_after recs [] = ap (λ z. all_on 0 (sorted keys z)) (sym (append-nil recs))
  last_after recs (rec ∷ rest) = last_after (recs ++ rec ∷ []) rest ∙ ap (λ z. all_on 0 (sorted keys z)) (append_assoc recs (rec ∷ []) rest)

  pub sort_pairs : (recs : Records) → pairs_of (sort keys) recs ≡ all_on 0 (sorted keys recs)
  sort_pairs recs = last_after [] recs
