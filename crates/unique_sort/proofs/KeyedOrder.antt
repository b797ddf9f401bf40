-- Records sorted with the fronts of their keys are sorted by their keys.
use Rattle.std.proofs.Common.{◌≡◌, ℕ, Bool, true, false, cond, List, [], ◌∷◌, refl, sym, ◌∙◌, ap, subst, arith, ⊎_elim}
use Rattle.std.specs.Prelude.{◌==◌, nat_lt, not, ◌&&◌, if◌then◌else◌}
use Rattle.std.specs.declared.cmp.Ordering.{Ordering}
use Rattle.std.specs.declared.cmp.Ordering.TheVariants.{Less, Equal, Greater}
use Rattle.std.specs.Cmp.{IsTotalOrder, IsStrictWeakOrder}
use Rattle.std.specs.List.{All, filter}
use Rattle.std.specs.List.Sorted.{IsPermutation, IsSortedBy, IsStableBy, ties}
use Rattle.std.specs.Ordering.{nat_cmp, is_lt, on, ordering_then}
use Rattle.std.proofs.lemmas.Bool.{cases_lt, ne_eqb, eq-eqb, lt-ltb, le-ltb}
use Rattle.std.proofs.lemmas.Cmp.{nat_cmp_total, nat_list_cmp_total, on_total, then_total}
use Rattle.std.proofs.lemmas.List.Elements.{All-tail}
use Rattle.std.proofs.lemmas.List.Sorted.{ranks_by, All-permutation}
use Rattle.pipe_model.specs.declared.keys.SortKey.{SortKey}
use Rattle.pipe_model.specs.OrderRows.{goes_before, sorted}
use Rattle.pipe_model.specs.Ranges.{part_of}
use Rattle.unique_sort.specs.declared.keyed.Keyed.{Keyed}
use Rattle.unique_sort.specs.Fronts.{keyed_by, IsKeyed, recs_in, is_whole, keys_left, keyed_before}
use Rattle.unique_sort.proofs.FrontOrder.{front_goes, front_left}
use Rattle.stream_laws.proofs.KeysInTurn.{by_bytes, directed, directed_total, by_keys, by_keys_total, goes_by_keys, goes_before_orders}
use Rattle.stream_laws.proofs.Stable.{NoneBefore, Ascends, ascends, one_order, sorted_ascends, sorted_stays}

-- what is left to compare of a record by its first key: nothing where its front has the whole key
abbrev bytes_left : SortKey → Keyed → List ℕ
bytes_left key keyed = if is_whole keyed.front then [] else part_of key.range keyed.rec

-- how they compare by the keys that are left, where their fronts are the same
abbrev by_left : List SortKey → Keyed → Keyed → Ordering
by_left [] keyed other = Equal
by_left (key ∷ keys) keyed other = ordering_then (on (bytes_left key) (directed key.descending by_bytes) keyed other) (by_keys keys keyed.rec other.rec)

by_left_total : (keys : List SortKey) → IsTotalOrder (by_left keys)
by_left_total [] = record { antisymm = λ x y. refl; trans = λ x y z less more. less; congr = λ x y z same. refl }
by_left_total (key ∷ keys) = then_total (on_total (bytes_left key) (directed_total key.descending nat_list_cmp_total)) (on_total (λ (k : Keyed). k.rec) (by_keys_total keys))

-- where the fronts are the same, they go by the keys that are left
goes_by_left : (keys : List SortKey) (keyed other : Keyed) → keyed.front ≡ other.front → is_lt (by_left keys keyed other) ≡ goes_before (keys_left keys keyed.front) keyed.rec other.rec
goes_by_left [] keyed other same = refl
goes_by_left (key ∷ keys) keyed other same =
    ap (λ w. is_lt (ordering_then (directed key.descending by_bytes (bytes_left key keyed) (if w then [] else b)) (by_keys keys keyed.rec other.rec))) (ap is_whole (sym same)) ∙ by (is_whole keyed.front)
  where
    a : List ℕ
    a = part_of key.range keyed.rec

    b : List ℕ
    b = part_of key.range other.rec

    none : (descending : Bool) (rest : Ordering) → is_lt (ordering_then (directed descending by_bytes [] []) rest) ≡ is_lt rest
    none true rest = refl
    none false rest = refl

    by : (whole : Bool) → is_lt (ordering_then (directed key.descending by_bytes (if whole then [] else a) (if whole then [] else b)) (by_keys keys keyed.rec other.rec)) ≡ goes_before (if whole then keys else key ∷ keys) keyed.rec other.rec
    by true = none key.descending (by_keys keys keyed.rec other.rec) ∙ goes_by_keys keys keyed.rec other.rec
    by false = goes_by_keys (key ∷ keys) keyed.rec other.rec

module _ (keys : List SortKey) where
  -- by the fronts, and then by the keys that are left
  abbrev by_front : Keyed → Keyed → Ordering
  by_front keyed other = ordering_then (nat_cmp keyed.front other.front) (by_left keys keyed other)

  goes_by_front : (keyed other : Keyed) → is_lt (by_front keyed other) ≡ keyed_before keys keyed other
  goes_by_front keyed other = by keyed.front other.front (by_left keys keyed other) (goes_before (keys_left keys keyed.front) keyed.rec other.rec) (goes_by_left keys keyed other)
    where
      by : (a b : ℕ) (rest : Ordering) (goes : Bool) → (a ≡ b → is_lt rest ≡ goes) → is_lt (ordering_then (cond (nat_lt a b) Less (cond (a == b) Equal Greater)) rest) ≡ (if a == b then goes else nat_lt a b)
      by a b rest goes is = ⊎_elim
          (λ low. ap (λ t. is_lt (ordering_then (cond t Less (cond (a == b) Equal Greater)) rest)) (lt-ltb a b low) ∙ sym (lt-ltb a b low) ∙ ap (λ t. if t then goes else nat_lt a b) (sym (ne_eqb a b (λ same. omega (arith, same, low)))))
          (λ high. ap (λ t. is_lt (ordering_then (cond t Less (cond (a == b) Equal Greater)) rest)) (le-ltb a b high) ∙ ⊎_elim
          (λ above. let apart : (a == b) ≡ false = ne_eqb a b (λ same. omega (arith, same, above)) in
          ap (λ t. is_lt (ordering_then (cond t Equal Greater) rest)) apart ∙ sym (le-ltb a b high) ∙ ap (λ t. if t then goes else nat_lt a b) (sym apart))
          (λ not_above. let one : a ≡ b = omega (arith, high, not_above) in
          let same : (a == b) ≡ true = eq-eqb a b one in
          ap (λ t. is_lt (ordering_then (cond t Equal Greater) rest)) same ∙ is one ∙ ap (λ t. if t then goes else nat_lt a b) (sym same))
          (cases_lt b a))
          (cases_lt a b)

  pub keyed_before_orders : IsStrictWeakOrder (keyed_before keys)
  keyed_before_orders = subst IsStrictWeakOrder (λ i keyed other. goes_by_front keyed other i) (ranks_by (then_total (on_total (λ (k : Keyed). k.front) nat_cmp_total) (by_left_total keys)) (λ keyed. keyed))

  -- with the right fronts they go as the records do
  keyed_goes : (keyed other : Keyed) → IsKeyed keys keyed → IsKeyed keys other → keyed_before keys keyed other ≡ goes_before keys keyed.rec other.rec
  keyed_goes keyed other is other_is = ⊎_elim
      (λ low. ap (λ t. if t then left else nat_lt a b) (ne_eqb a b (λ same. omega (arith, same, low))) ∙ lt-ltb a b low ∙ sym (front_goes keys keyed.rec other.rec (omega (arith, low, is, other_is))))
      (λ high. ⊎_elim
      (λ above. ap (λ t. if t then left else nat_lt a b) (ne_eqb a b (λ same. omega (arith, same, above))) ∙ le-ltb a b high
      ∙ sym ((goes_before_orders keys).one_way other.rec keyed.rec (front_goes keys other.rec keyed.rec (omega (arith, above, is, other_is)))))
      (λ not_above.
      let one : a ≡ b = omega (arith, high, not_above) in
      ap (λ t. if t then left else nat_lt a b) (eq-eqb a b one) ∙ ap (λ n. goes_before (keys_left keys n) keyed.rec other.rec) is ∙ sym (front_left keys keyed.rec other.rec (sym is ∙ one ∙ other_is)))
      (cases_lt b a))
      (cases_lt a b)
    where
      a : ℕ
      a = keyed.front

      b : ℕ
      b = other.front

      left : Bool
      left = goes_before (keys_left keys keyed.front) keyed.rec other.rec

  abbrev lt : Keyed → Keyed → Bool
  lt = keyed_before keys

  first_keyed : (keyed : Keyed) (all : List Keyed) → All (IsKeyed keys) (keyed ∷ all) → IsKeyed keys keyed
  first_keyed keyed all are = are 0 keyed (omega arith)

  none_before : (x : Keyed) (all : List Keyed) → IsKeyed keys x → All (IsKeyed keys) all → NoneBefore lt keyed_before_orders x all → NoneBefore (goes_before keys) (goes_before_orders keys) x.rec (recs_in all)
  none_before x [] is are none = tt
  none_before x (y ∷ all) is are none = (sym (keyed_goes y x (first_keyed y all are) is) ∙ none.0, none_before x all is (All-tail (IsKeyed keys) y all are) none.1)

  recs_ascend : (all : List Keyed) → All (IsKeyed keys) all → Ascends lt keyed_before_orders all → Ascends (goes_before keys) (goes_before_orders keys) (recs_in all)
  recs_ascend [] are up = tt
  recs_ascend (x ∷ all) are up = let rest = All-tail (IsKeyed keys) x all are in (none_before x all (first_keyed x all are) rest up.0, recs_ascend all rest up.1)

  -- those that tie with a record
  recs_tied : (w : List ℕ) (all : List Keyed) → All (IsKeyed keys) all → filter (ties (goes_before keys) w) (recs_in all) ≡ recs_in (filter (ties lt (keyed_by keys w)) all)
  recs_tied w [] are = refl
  recs_tied w (x ∷ all) are =
      let h = keyed_by keys w in
      let is = first_keyed x all are in
      let rest = recs_tied w all (All-tail (IsKeyed keys) x all are) in
      let tie : ties (goes_before keys) w x.rec ≡ ties lt h x = ap (λ t. not t && not (goes_before keys x.rec w)) (sym (keyed_goes h x refl is)) ∙ ap (λ t. not (lt h x) && not t) (sym (keyed_goes x h is refl)) in
      ap (λ t. cond t (x.rec ∷ filter (ties (goes_before keys) w) (recs_in all)) (filter (ties (goes_before keys) w) (recs_in all))) tie
      ∙ ap (λ l. cond (ties lt h x) (x.rec ∷ l) l) rest
      ∙ (elim (ties lt h x) as (λ c. cond c (x.rec ∷ recs_in (filter (ties lt h) all)) (recs_in (filter (ties lt h) all)) ≡ recs_in (cond c (x ∷ filter (ties lt h) all) (filter (ties lt h) all))) [ true ↦ refl | false ↦ refl ])

  pub recs_sorted : (all done : List Keyed) → All (IsKeyed keys) all → IsPermutation all done → IsSortedBy lt done → IsStableBy lt all done → recs_in done ≡ sorted keys (recs_in all)
  recs_sorted all done are moved up stays =
      let done_are = All-permutation (IsKeyed keys) all done moved are in
      one_order (goes_before keys) (goes_before_orders keys) (recs_in done) (sorted keys (recs_in all))
      (recs_ascend done done_are (ascends lt keyed_before_orders done up)) (sorted_ascends keys (recs_in all))
      (λ w. recs_tied w done done_are ∙ ap recs_in (stays (keyed_by keys w)) ∙ sym (recs_tied w all are) ∙ sym (sorted_stays keys w (recs_in all)))
