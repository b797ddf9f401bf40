-- COLLATE's pairs in their order, round for round, and the same parted by outputs.
use Rattle.std.proofs.Common.{◌≡◌, ℕ, zero, suc, ◌+◌, ◌<◌, Bool, true, false, cond, ◌&&◌, not, List, [], ◌∷◌, ◌++◌, length, refl, sym, ◌∙◌, ap, arith}
use Rattle.std.specs.Prelude.{filter}
use Rattle.std.specs.List.{list_all, list_any}
use Rattle.std.proofs.lemmas.Bool.{not-true}
use Rattle.pipe_model.specs.declared.range.Range.{Range}
use Rattle.pipe_model.specs.Row.{Pair}
use Rattle.pipe_model.specs.Shape.{Records}
use Rattle.pipe_model.specs.Ranges.{part_of}
use Rattle.pipe_model.specs.Keys.{is_less}
use Rattle.pipe_model.specs.Inputs.{records_from}
use Rattle.pipe_model.specs.Counts.{all_on}
use Rattle.pipe_model.specs.JoiningRows.{agree}
use Rattle.pipe_model.specs.Listed.{are_sorted, are_distinct, collate_pairs}
use Rattle.pipe_model.proofs.Truths.{both as and_both, or_first}
use Rattle.pipe_model.proofs.Lists.{all_too}
use Rattle.stream_laws.specs.InOrder.{with_its_details, collated_in_order}
use Rattle.stream_laws.proofs.KeyOrder.{less_one_way, less_between, no_less, same_is}
use Rattle.stream_laws.proofs.Collated.{none_kept, apart_before, apart_behind, same_neither, fits, rising, match_apart, master_apart, detail_apart, Alike, left_pairs, left_is, before_same, match_round, master_round, detail_round}

-- all pass
all_kept : (f : List ℕ → Bool) (xs : Records) → list_all f xs ≡ true → filter f xs ≡ xs
all_kept f [] all = refl
all_kept f (x ∷ xs) all =
    let b = and_both (f x) (list_all f xs) all in
    ap (λ z. cond z (x ∷ filter f xs) (filter f xs)) b.0 ∙ ap (λ z. x ∷ z) (all_kept f xs b.1)

module _ (of_master of_detail : Range) where
  -- the detail's key is less
  abbrev lesser : List ℕ → List ℕ → Bool
  lesser master detail = is_less (part_of of_detail detail) (part_of of_master master)

  -- the master's is
  abbrev pub greater : List ℕ → List ℕ → Bool
  greater master detail = is_less (part_of of_master master) (part_of of_detail detail)

  -- the pairs of a master with details, where the first of them has gone before or not
  abbrev its_pairs : Bool → List ℕ → Records → List Pair
  its_pairs true master details = with_its_details master details
  its_pairs false master details = all_on 0 details

  -- what is left to put: by whether the first master has had no detail yet
  abbrev pub left_in_order : Bool → Records → Records → List Pair
  left_in_order new [] ds = all_on 2 ds
  left_in_order new (m ∷ ms) ds = all_on 2 (filter (lesser m) ds) ++ (its_pairs new m (filter (fits of_master of_detail m) ds) ++ collated_in_order of_master of_detail ms (filter (greater m) ds))

  -- at the start it is all
  pub all_left : (ms ds : Records) → left_in_order true ms ds ≡ collated_in_order of_master of_detail ms ds
  all_left [] ds = refl
  all_left (m ∷ ms) ds = refl

  -- a detail with the master's key
  pub match_goes : (new : Bool) (m d : List ℕ) (ms ds : Records) → fits of_master of_detail m d ≡ true → are_sorted of_detail (d ∷ ds) ≡ true →
      all_on 0 (cond new (m ∷ d ∷ []) (d ∷ [])) ++ left_in_order false (m ∷ ms) ds ≡ left_in_order new (m ∷ ms) (d ∷ ds)
  match_goes new m d ms ds is ordered =
      ap (λ z. all_on 0 (cond new (m ∷ d ∷ []) (d ∷ [])) ++ (all_on 2 z ++ (all_on 0 (filter (fits of_master of_detail m) ds) ++ behind))) none_lesser
      ∙ first new
      ∙ ap (λ z. all_on 2 z ++ (its_pairs new m (d ∷ filter (fits of_master of_detail m) ds) ++ behind)) (sym none_lesser ∙ ap (λ z. cond z (d ∷ filter (lesser m) ds) (filter (lesser m) ds)) (sym apart.1))
      ∙ ap (λ z. all_on 2 (filter (lesser m) (d ∷ ds)) ++ (its_pairs new m (cond z (d ∷ filter (fits of_master of_detail m) ds) (filter (fits of_master of_detail m) ds)) ++ behind)) (sym is)
      ∙ ap (λ z. all_on 2 (filter (lesser m) (d ∷ ds)) ++ (its_pairs new m (filter (fits of_master of_detail m) (d ∷ ds)) ++ collated_in_order of_master of_detail ms (cond z (d ∷ filter (greater m) ds) (filter (greater m) ds)))) (sym apart.0)
    where
      behind : List Pair
      behind = collated_in_order of_master of_detail ms (filter (greater m) ds)

      apart : (greater m d ≡ false) × (lesser m d ≡ false)
      apart = same_neither (greater m d) (lesser m d) (sym (same_is (part_of of_master m) (part_of of_detail d)) ∙ is)

      none_lesser : filter (lesser m) ds ≡ []
      none_lesser = none_kept (lesser m) ds
          (all_too (λ later. not (is_less (part_of of_detail later) (part_of of_detail d))) (λ later. not (lesser m later)) ds
          (λ later e. ap not (no_less (lesser m later) (is_less (part_of of_detail later) (part_of of_detail d)) (lesser m d) (less_between (part_of of_detail later) (part_of of_detail d) (part_of of_master m)) (not-true (is_less (part_of of_detail later) (part_of of_detail d)) e) apart.1))
          (and_both (list_all (λ later. not (is_less (part_of of_detail later) (part_of of_detail d))) ds) (are_sorted of_detail ds) ordered).0)

      first : (new : Bool) → all_on 0 (cond new (m ∷ d ∷ []) (d ∷ [])) ++ (all_on 0 (filter (fits of_master of_detail m) ds) ++ behind) ≡ its_pairs new m (d ∷ filter (fits of_master of_detail m) ds) ++ behind
      first true = refl
      first false = refl

  -- a master that goes before all details that are left
  pub master_goes_on : (new : Bool) (m : List ℕ) (ms ds : Records) → list_all (greater m) ds ≡ true →
      all_on 1 (cond new (m ∷ []) []) ++ left_in_order true ms ds ≡ left_in_order new (m ∷ ms) ds
  master_goes_on new m ms ds all =
      ap (λ z. all_on 1 (cond new (m ∷ []) []) ++ z) (all_left ms ds)
      ∙ ap (λ z. all_on 1 (cond new (m ∷ []) []) ++ collated_in_order of_master of_detail ms z) (sym (all_kept (greater m) ds all))
      ∙ first new
      ∙ ap (λ z. its_pairs new m z ++ collated_in_order of_master of_detail ms (filter (greater m) ds)) (sym none_fit)
      ∙ ap (λ z. all_on 2 z ++ (its_pairs new m (filter (fits of_master of_detail m) ds) ++ collated_in_order of_master of_detail ms (filter (greater m) ds))) (sym none_lesser)
    where
      first : (new : Bool) → all_on 1 (cond new (m ∷ []) []) ++ collated_in_order of_master of_detail ms (filter (greater m) ds) ≡ its_pairs new m [] ++ collated_in_order of_master of_detail ms (filter (greater m) ds)
      first true = refl
      first false = refl

      none_fit : filter (fits of_master of_detail m) ds ≡ []
      none_fit = none_kept (fits of_master of_detail m) ds (all_too (greater m) (λ later. not (fits of_master of_detail m later)) ds (λ later e. ap not (apart_before (part_of of_master m) (part_of of_detail later) e)) all)

      none_lesser : filter (lesser m) ds ≡ []
      none_lesser = none_kept (lesser m) ds (all_too (greater m) (λ later. not (lesser m later)) ds (λ later e. ap not (less_one_way (part_of of_master m) (part_of of_detail later) e)) all)

  -- a detail that goes before the first master
  pub detail_goes_on : (new : Bool) (m d : List ℕ) (ms ds : Records) → lesser m d ≡ true →
      all_on 2 (d ∷ []) ++ left_in_order new (m ∷ ms) ds ≡ left_in_order new (m ∷ ms) (d ∷ ds)
  detail_goes_on new m d ms ds less =
      ap (λ z. all_on 2 z ++ (its_pairs new m (filter (fits of_master of_detail m) ds) ++ collated_in_order of_master of_detail ms (filter (greater m) ds))) (sym (ap (λ z. cond z (d ∷ filter (lesser m) ds) (filter (lesser m) ds)) less))
      ∙ ap (λ z. all_on 2 (filter (lesser m) (d ∷ ds)) ++ (its_pairs new m z ++ collated_in_order of_master of_detail ms (filter (greater m) ds)))
      (sym (ap (λ z. cond z (d ∷ filter (fits of_master of_detail m) ds) (filter (fits of_master of_detail m) ds)) (apart_behind (part_of of_master m) (part_of of_detail d) less)))
      ∙ ap (λ z. all_on 2 (filter (lesser m) (d ∷ ds)) ++ (its_pairs new m (filter (fits of_master of_detail m) (d ∷ ds)) ++ collated_in_order of_master of_detail ms z))
      (sym (ap (λ z. cond z (d ∷ filter (greater m) ds) (filter (greater m) ds)) (less_one_way (part_of of_detail d) (part_of of_master m) less)))

  -- a master that goes before the first of sorted details goes before all of them
  pub goes_before_all : (m d : List ℕ) (ds : Records) → greater m d ≡ true → are_sorted of_detail (d ∷ ds) ≡ true → list_all (greater m) (d ∷ ds) ≡ true
  goes_before_all m d ds less ordered =
      ap (λ z. z && list_all (greater m) ds) less
      ∙ all_too (λ later. not (is_less (part_of of_detail later) (part_of of_detail d))) (greater m) ds
      (λ later e. or_first (greater m later) (is_less (part_of of_detail later) (part_of of_detail d)) (less_between (part_of of_master m) (part_of of_detail later) (part_of of_detail d) less) (not-true (is_less (part_of of_detail later) (part_of of_detail d)) e))
      (and_both (list_all (λ later. not (is_less (part_of of_detail later) (part_of of_detail d))) ds) (are_sorted of_detail ds) ordered).0

  -- a detail that neither fits the master nor is behind it goes before it
  pub is_lesser : (m d : List ℕ) → fits of_master of_detail m d ≡ false → greater m d ≡ false → lesser m d ≡ true
  is_lesser m d apart not_greater = other (greater m d) (lesser m d) (sym (same_is (part_of of_master m) (part_of of_detail d)) ∙ apart) not_greater
    where
      other : (x y : Bool) → (not x && not y) ≡ false → x ≡ false → y ≡ true
      other true y e f = cc
      other false true e f = refl
      other false false e f = cc

  -- Parted by outputs

  pub record AreOrdered (masters details : Records) : Type 0 where
    pub masters_sorted : are_sorted of_master masters ≡ true
    pub masters_distinct : are_distinct of_master masters ≡ true
    pub details_sorted : are_sorted of_detail details ≡ true

  later_masters : (m : List ℕ) (ms ds : Records) → AreOrdered (m ∷ ms) ds → AreOrdered ms ds
  later_masters m ms ds x = record {
    masters_sorted = (and_both (list_all (λ later. not (is_less (part_of of_master later) (part_of of_master m))) ms) (are_sorted of_master ms) x.masters_sorted).1;
    masters_distinct = (and_both (not (list_any (agree of_master of_master m) ms)) (are_distinct of_master ms) x.masters_distinct).1;
    details_sorted = x.details_sorted;
  }

  later_details : (d : List ℕ) (ms ds : Records) → AreOrdered ms (d ∷ ds) → AreOrdered ms ds
  later_details d ms ds x = record {
    masters_sorted = x.masters_sorted;
    masters_distinct = x.masters_distinct;
    details_sorted = (and_both (list_all (λ later. not (is_less (part_of of_detail later) (part_of of_detail d))) ds) (are_sorted of_detail ds) x.details_sorted).1;
  }

  -- what is left in order is what is left, parted
  parted : (fuel : ℕ) (new : Bool) (ms ds : Records) → AreOrdered ms ds → length ms + length ds < fuel → Alike of_master of_detail (left_in_order new ms ds) (left_pairs of_master of_detail new ms ds)
  parted zero new ms ds ordered few = absurd (omega arith)
  parted (suc fuel) new [] [] ordered few = λ o. refl
  parted (suc fuel) new [] (d ∷ ds) ordered few = λ o.
      before_same of_master of_detail (all_on 2 (d ∷ [])) (left_in_order new [] ds) (left_pairs of_master of_detail new [] ds) (parted fuel new [] ds (later_details d [] ds ordered) (omega arith)) o
      ∙ detail_round of_master of_detail new [] d ds refl o
  parted (suc fuel) new (m ∷ ms) [] ordered few = λ o.
      ap (records_from o) (sym (master_goes_on new m ms [] refl))
      ∙ before_same of_master of_detail (all_on 1 (cond new (m ∷ []) [])) (left_in_order true ms []) (left_pairs of_master of_detail true ms []) (parted fuel true ms [] (later_masters m ms [] ordered) (omega arith)) o
      ∙ master_round of_master of_detail new m ms [] refl o
  parted (suc fuel) new (m ∷ ms) (d ∷ ds) ordered few =
      by_fit (fits of_master of_detail m d) refl (greater m d) refl (parted fuel false (m ∷ ms) ds (later_details d (m ∷ ms) ds ordered) (omega arith))
      (parted fuel true ms (d ∷ ds) (later_masters m ms (d ∷ ds) ordered) (omega arith)) (parted fuel new (m ∷ ms) ds (later_details d (m ∷ ms) ds ordered) (omega arith))
    where
      rises : list_all (λ later. is_less (part_of of_master m) (part_of of_master later)) ms ≡ true
      rises = rising of_master of_detail m ms ordered.masters_sorted ordered.masters_distinct

      by_fit : (f : Bool) → fits of_master of_detail m d ≡ f → (l : Bool) → greater m d ≡ l →
          Alike of_master of_detail (left_in_order false (m ∷ ms) ds) (left_pairs of_master of_detail false (m ∷ ms) ds) → Alike of_master of_detail (left_in_order true ms (d ∷ ds)) (left_pairs of_master of_detail true ms (d ∷ ds)) →
          Alike of_master of_detail (left_in_order new (m ∷ ms) ds) (left_pairs of_master of_detail new (m ∷ ms) ds) → Alike of_master of_detail (left_in_order new (m ∷ ms) (d ∷ ds)) (left_pairs of_master of_detail new (m ∷ ms) (d ∷ ds))
      by_fit true fit l less match master detail = λ o.
          ap (records_from o) (sym (match_goes new m d ms ds fit ordered.details_sorted))
          ∙ before_same of_master of_detail (all_on 0 (cond new (m ∷ d ∷ []) (d ∷ []))) (left_in_order false (m ∷ ms) ds) (left_pairs of_master of_detail false (m ∷ ms) ds) match o
          ∙ match_round of_master of_detail new m d ms ds fit (match_apart of_master of_detail m d ms fit rises) o
      by_fit false fit true less match master detail = λ o.
          ap (records_from o) (sym (master_goes_on new m ms (d ∷ ds) (goes_before_all m d ds less ordered.details_sorted)))
          ∙ before_same of_master of_detail (all_on 1 (cond new (m ∷ []) [])) (left_in_order true ms (d ∷ ds)) (left_pairs of_master of_detail true ms (d ∷ ds)) master o
          ∙ master_round of_master of_detail new m ms (d ∷ ds) (master_apart of_master of_detail m d ds less ordered.details_sorted) o
      by_fit false fit false less match master detail = λ o.
          ap (records_from o) (sym (detail_goes_on new m d ms ds (is_lesser m d fit less)))
          ∙ before_same of_master of_detail (all_on 2 (d ∷ [])) (left_in_order new (m ∷ ms) ds) (left_pairs of_master of_detail new (m ∷ ms) ds) detail o
          ∙ detail_round of_master of_detail new (m ∷ ms) d ds (detail_apart of_master of_detail m d ms fit less rises) o

  pub all_parted : (ms ds : Records) → AreOrdered ms ds → Alike of_master of_detail (collated_in_order of_master of_detail ms ds) (collate_pairs of_master of_detail ms ds)
  all_parted ms ds ordered o =
      ap (records_from o) (sym (all_left ms ds)) ∙ parted (suc (length ms + length ds)) true ms ds ordered (omega arith) o ∙ ap (records_from o) (left_is of_master of_detail ms ds)
