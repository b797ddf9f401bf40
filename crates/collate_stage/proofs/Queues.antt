-- The queue of the inputs with a record in sight.
use Rattle.std.proofs.Common.{◌≡◌, ◌≢◌, ◌⊎◌, inl, inr, ℕ, ◌+◌, ◌-◌, ◌<◌, ◌≤◌, Bool, true, false, ◌==◌, ◌&&◌, ◌||◌, not, List, [], ◌∷◌, ◌++◌, length, get_or, insert, refl, sym, ◌∙◌, ap, subst, arith, Option, Some, None, slice_get, AllPairs}
use Rattle.std.specs.List.Sorted.{IsPartitionedBy, IsPartitionPoint}
use Rattle.std.proofs.lemmas.Bool.{eqb-true, ne_eqb, cases_lt}
use Rattle.std.proofs.lemmas.Grind.{common_steps}
use Rattle.std.proofs.lemmas.List.Edits.{length-insert, get_or-insert_below, get_or-insert_at, get_or-insert_above}
use Rattle.std.proofs.lemmas.List.Folds.{list_any-append, list_any_at, Any-from_list_any}
use Rattle.std.proofs.lemmas.List.Sorted.{list_any-IsPermutation, IsPermutation-insert}
use Rattle.pipe_model.specs.Members.{has}
use Rattle.pipe_model.proofs.Numbers.{equal_or_not, test_same}
use Rattle.pipe_model.proofs.Truths.{both, or_second}
use Rattle.collate_stage.specs.declared.lane.Lane.{Lane}
use Rattle.collate_stage.specs.Lanes.{in_sight}
use Rattle.collate_stage.specs.Queues.{lane_leads, goes_before, lane_sees, sees_at, waits, IsQueue}
use Rattle.collate_stage.specs.Merging.{IsChanged, IsFirst, IsLeast}
use Rattle.collate_stage.proofs.Leading.{lane_not_itself, lane_not_back, lane_leads_on, lane_leads_other}
use Rattle.collate_stage.proofs.Sights.{some_within}

-- Pairs along a list

module _ {X : Type 0} (R : X → X → Type 0) (xs : List X) where
  both_are : {a b x y : X} → a ≡ x → b ≡ y → R x y → R a b
  both_are {a} {b} {x} {y} e f r = subst (λ z. R z b) (sym e) (subst (R x) (sym f) r)

  -- one more stands between those that it follows and those that follow it
  pub insert_pairs : (n : ℕ) (y : X) → n ≤ length xs → AllPairs R xs → ((k : ℕ) (d : X) → k < n → R (get_or xs k d) y) → ((k : ℕ) (d : X) → n ≤ k → k < length xs → R y (get_or xs k d)) → AllPairs R (insert xs n y)
  insert_pairs n y fits pairs front behind i j d low within = elim (cases_lt j n) [
    | inl below ↦ both_are (get_or-insert_below xs n y d i (omega (arith, low, below)) fits) (get_or-insert_below xs n y d j below fits) (pairs i j d low (omega (arith, below, fits)))
    | inr from ↦ (elim (equal_or_not j n) [
      | inl same ↦ both_are (get_or-insert_below xs n y d i (omega (arith, low, same)) fits) (ap (λ k. get_or (insert xs n y) k d) same ∙ get_or-insert_at xs n y d fits) (front i d (omega (arith, low, same)))
      | inr apart ↦ above (omega (arith, from, apart))
    ])
  ]
    where
      moved : (k : ℕ) → n < k → get_or (insert xs n y) k d ≡ get_or xs (k - 1) d
      moved k past = (let e : k ≡ (k - 1) + 1 = omega (arith, past) in ap (λ m. get_or (insert xs n y) m d) e) ∙ get_or-insert_above xs n y d (k - 1) (omega (arith, past)) fits

      short : n < j → j - 1 < length xs
      short past = let long = length-insert xs n y fits in omega (arith, past, within, long)

      above : n < j → R (get_or (insert xs n y) i d) (get_or (insert xs n y) j d)
      above past = elim (cases_lt i n) [
        | inl below ↦ both_are (get_or-insert_below xs n y d i below fits) (moved j past) (pairs i (j - 1) d (omega (arith, past, below)) (short past))
        | inr from ↦ (elim (equal_or_not i n) [
          | inl same ↦ both_are (ap (λ k. get_or (insert xs n y) k d) same ∙ get_or-insert_at xs n y d fits) (moved j past) (behind (j - 1) d (omega (arith, past)) (short past))
          | inr apart ↦ (let past' : n < i = omega (arith, from, apart) in both_are (moved i past') (moved j past) (pairs (i - 1) (j - 1) d (omega (arith, low, past')) (short past)))
        ])
      ]

-- Members

has_at : (xs : List ℕ) (k d : ℕ) → k < length xs → has xs (get_or xs k d) ≡ true
has_at xs k d low = list_any_at (λ x. x == get_or xs k d) xs k d low (test_same (get_or xs k d))

has_insert : (xs : List ℕ) (n y j : ℕ) → has (insert xs n y) j ≡ (y == j || has xs j)
has_insert xs n y j = sym (list_any-IsPermutation (λ x. x == j) (y ∷ xs) (insert xs n y) (IsPermutation-insert xs n y))

none_more : (a b : Bool) → b ≡ false → a ≡ (a || (b || false))
none_more true b is = refl
none_more false b is = sym (ap (λ c. c || false) is)

-- Whether a record is in sight

module _ (lanes : List Lane) where
  seen_lane : (i : ℕ) → sees_at lanes i ≡ true → (lane : Lane) × (slice_get lanes i ≡ Some lane) × (in_sight lane.at ≡ true)
  seen_lane i sees = by (slice_get lanes i) refl sees
    where
      by : (o : Option Lane) → slice_get lanes i ≡ o → lane_sees o ≡ true → (lane : Lane) × (slice_get lanes i ≡ Some lane) × (in_sight lane.at ≡ true)
      by None is sees = cc
      by (Some lane) is sees = (lane, is, sees)

  none_but : (i : ℕ) → sees_at lanes i ≡ false → (j : ℕ) → sees_at lanes j ≡ waits lanes i j
  none_but i hides j = by (i == j) refl
    where
      by : (b : Bool) → (i == j) ≡ b → sees_at lanes j ≡ (not (i == j) && sees_at lanes j)
      by true is = subst (λ k. sees_at lanes k ≡ false) (eqb-true i j is) hides ∙ sym (ap (λ b. not b && sees_at lanes j) is)
      by false is = sym (ap (λ b. not b && sees_at lanes j) is)

  -- The queue of all

  -- where none is in sight on the input, the others are all
  pub others_are_all : (i : ℕ) (queue : List ℕ) → sees_at lanes i ≡ false → IsQueue lanes (waits lanes i) queue → IsQueue lanes (sees_at lanes) queue
  others_are_all i queue hides is = record { members = λ j. is.members j ∙ sym (none_but i hides j); order = is.order }

  pub all_are_others : (i : ℕ) (queue : List ℕ) → sees_at lanes i ≡ false → IsQueue lanes (sees_at lanes) queue → IsQueue lanes (waits lanes i) queue
  all_are_others i queue hides is = record { members = λ j. is.members j ∙ none_but i hides j; order = is.order }

  -- An input is put in

  -- those before which it goes are in front
  pub parted : (i : ℕ) (queue : List ℕ) → AllPairs (λ i j. goes_before lanes j i ≡ true) queue → IsPartitionedBy (goes_before lanes i) queue
  parted i queue order p q d low within holds = elim (cases_lt p q) [
    | inl under ↦ lane_leads_on (slice_get lanes i) (slice_get lanes (get_or queue q d)) (slice_get lanes (get_or queue p d)) i (get_or queue q d) (get_or queue p d) holds (order p q d under within)
    | inr over ↦ (let same : q ≡ p = omega (arith, low, over) in subst (λ k. goes_before lanes i (get_or queue k d) ≡ true) same holds)
  ]

  -- what waits isn't the input, and is in sight
  waiting : (i : ℕ) (queue : List ℕ) → IsQueue lanes (waits lanes i) queue → (k d : ℕ) → k < length queue → (i ≢ get_or queue k d) × (sees_at lanes (get_or queue k d) ≡ true)
  waiting i queue is k d low =
      let r = both (not (i == get_or queue k d)) (sees_at lanes (get_or queue k d)) (sym (is.members (get_or queue k d)) ∙ has_at queue k d low) in
      (λ same. absurd (let e : false ≡ true = sym (ap not (subst (λ z. (i == z) ≡ true) same (test_same i))) ∙ r.0 in cc), r.1)

  pub puts_in : (i : ℕ) (queue : List ℕ) (n : ℕ) → n ≤ length queue → sees_at lanes i ≡ true → IsPartitionPoint (λ j. goes_before lanes i j ≡ true) (λ j. goes_before lanes i j ≡ false) queue n →
      IsQueue lanes (waits lanes i) queue → IsQueue lanes (sees_at lanes) (insert queue n i)
  puts_in i queue n fits sees point is = record {
    members = λ j. has_insert queue n i j ∙ ap (λ b. i == j || b) (is.members j) ∙ with_it j (i == j) refl;
    order = insert_pairs (λ i j. goes_before lanes j i ≡ true) queue n i fits is.order
        (λ k d low. point.0 k d (omega arith) low)
        (λ k d from low. (let r = waiting i queue is k d low in
        lane_leads_other (slice_get lanes i) (slice_get lanes (get_or queue k d)) i (get_or queue k d) r.0 sees r.1 (point.1 k d from low)));
  }
    where
      with_it : (j : ℕ) (b : Bool) → (i == j) ≡ b → (i == j || (not (i == j) && sees_at lanes j)) ≡ sees_at lanes j
      with_it j true at = ap (λ b. b || (not b && sees_at lanes j)) at ∙ sym (subst (λ k. sees_at lanes k ≡ true) (eqb-true i j at) sees)
      with_it j false at = ap (λ b. b || (not b && sees_at lanes j)) at

  -- The one that goes first leaves

  module _ (m : ℕ) (rest : List ℕ) (is : IsQueue lanes (sees_at lanes) (rest ++ m ∷ [])) where
    has_last : (j : ℕ) → has (rest ++ m ∷ []) j ≡ (has rest j || (m == j || false))
    has_last j = list_any-append (λ x. x == j) rest (m ∷ [])

    sees_first : sees_at lanes m ≡ true
    sees_first = sym (is.members m) ∙ has_last m ∙ or_second (has rest m) (m == m || false) (ap (λ b. b || false) (test_same m))

    -- it goes before each of the rest
    before_rest : (j : ℕ) → has rest j ≡ true → goes_before lanes m j ≡ true
    before_rest j among =
        let r = Any-from_list_any (λ x. x == j) rest among in
        by r.0 r.1 r.2 r.3 r.4
      where
        by : (k x : ℕ) → k < length rest → get_or rest k x ≡ x → (x == j) ≡ true → goes_before lanes m j ≡ true
        by k x low here same =
            let first : get_or (rest ++ m ∷ []) (length rest) x ≡ m = grind (arith, common_steps) in
            let that : get_or (rest ++ m ∷ []) k x ≡ get_or rest k x = grind (arith, common_steps) in
            let within : length rest < length (rest ++ m ∷ []) = grind (arith, common_steps) in
            subst (λ z. goes_before lanes m z ≡ true) (that ∙ here ∙ eqb-true x j same)
            (subst (λ z. goes_before lanes z (get_or (rest ++ m ∷ []) k x) ≡ true) first (is.order k (length rest) x low within))

    not_again : has rest m ≡ false
    not_again = by (has rest m) refl
      where
        by : (b : Bool) → has rest m ≡ b → has rest m ≡ false
        by true among = absurd (let e : false ≡ true = sym (lane_not_itself (slice_get lanes m) m) ∙ before_rest m among in cc)
        by false among = among

    pub rest_waits : IsQueue lanes (waits lanes m) rest
    rest_waits = record {
      members = λ j. members j (m == j) refl;
      order = λ i j d low within.
          let front : get_or (rest ++ m ∷ []) i d ≡ get_or rest i d = grind (arith, common_steps) in
          let behind : get_or (rest ++ m ∷ []) j d ≡ get_or rest j d = grind (arith, common_steps) in
          let within' : j < length (rest ++ m ∷ []) = grind (arith, common_steps) in
          subst (λ z. goes_before lanes z (get_or rest i d) ≡ true) behind (subst (λ z. goes_before lanes (get_or (rest ++ m ∷ []) j d) z ≡ true) front (is.order i j d low within'));
    }
      where
        members : (j : ℕ) (b : Bool) → (m == j) ≡ b → has rest j ≡ (not (m == j) && sees_at lanes j)
        members j true same = subst (λ k. has rest k ≡ false) (eqb-true m j same) not_again ∙ sym (ap (λ b. not b && sees_at lanes j) same)
        members j false apart =
            none_more (has rest j) (m == j) apart ∙ sym (has_last j) ∙ is.members j ∙ sym (ap (λ b. not b && sees_at lanes j) apart)

    pub first_leaves : IsFirst lanes (length lanes) m
    first_leaves = by (seen_lane m sees_first)
      where
        by : (lane : Lane) × (slice_get lanes m ≡ Some lane) × (in_sight lane.at ≡ true) → IsFirst lanes (length lanes) m
        by r = record {
          lane = r.0;
          here = r.1;
          sees = r.2;
          below = some_within lanes m r.1;
          first = λ j other low at sees. (let e = none_before j (ap lane_sees at ∙ sees) in
              subst (λ o. lane_leads o j (Some r.0) m ≡ false) at (subst (λ o. lane_leads (slice_get lanes j) j o m ≡ false) r.1 e));
        }
          where
            none_before : (j : ℕ) → sees_at lanes j ≡ true → goes_before lanes j m ≡ false
            none_before j sees = elim (equal_or_not m j) [
              | inl same ↦ subst (λ k. goes_before lanes k m ≡ false) same (lane_not_itself (slice_get lanes m) m)
              | inr apart ↦ lane_not_back (slice_get lanes m) (slice_get lanes j) m j (before_rest j (rest_waits.members j ∙ ap (λ b. not b && sees_at lanes j) (ne_eqb m j apart) ∙ sees))
            ]

  -- the queue is empty
  pub none_leaves : (n : ℕ) → IsQueue lanes (sees_at lanes) [] → IsLeast lanes n None
  none_leaves n is = λ j lane low at. sym (ap lane_sees at) ∙ sym (is.members j)

  pub none_waits : (i : ℕ) → IsQueue lanes (sees_at lanes) [] → IsQueue lanes (waits lanes i) []
  none_waits i is = all_are_others i [] (sym (is.members i)) is

-- Another input has changed

module _ (old new : List Lane) (i : ℕ) (IsSo : Lane → Type 0) (changed : IsChanged old new i IsSo) where
  sees_other : (j : ℕ) → i ≢ j → sees_at new j ≡ sees_at old j
  sees_other j apart = ap lane_sees (changed.others j (λ e. apart (sym e)))

  pub still_waits : (queue : List ℕ) → IsQueue old (waits old i) queue → IsQueue new (waits new i) queue
  still_waits queue is = record {
    members = λ j. is.members j ∙ by j (equal_or_not i j);
    order = λ p q d low within.
        let front = changed.others (get_or queue p d) (λ e. (waiting old i queue is p d (omega (arith, low, within))).0 (sym e)) in
        let behind = changed.others (get_or queue q d) (λ e. (waiting old i queue is q d within).0 (sym e)) in
        subst (λ o. lane_leads o (get_or queue q d) (slice_get new (get_or queue p d)) (get_or queue p d) ≡ true) (sym behind)
        (subst (λ o. lane_leads (slice_get old (get_or queue q d)) (get_or queue q d) o (get_or queue p d) ≡ true) (sym front) (is.order p q d low within));
  }
    where
      by : (j : ℕ) → (i ≡ j) ⊎ (i ≢ j) → waits old i j ≡ waits new i j
      by j (inl same) = (let is : (i == j) ≡ true = subst (λ k. (i == k) ≡ true) same (test_same i) in ap (λ b. not b && sees_at old j) is ∙ sym (ap (λ b. not b && sees_at new j) is))
      by j (inr apart) = ap (λ b. not (i == j) && b) (sym (sees_other j apart))
