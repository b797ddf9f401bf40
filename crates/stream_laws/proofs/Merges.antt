-- MERGE over sorted inputs puts their stable sort.
use Rattle.std.proofs.Common.{◌≡◌, ◌⊎◌, inl, inr, ℕ, zero, suc, ◌+◌, ◌<◌, ◌≤◌, Bool, true, false, cond, ◌&&◌, ◌||◌, not, ◌==◌, List, [], ◌∷◌, ◌++◌, length, refl, sym, ◌∙◌, ap, subst, arith, None, append_assoc}
use Rattle.std.specs.Prelude.{filter, flat_map, nat_lt}
use Rattle.std.specs.List.{list_all, range_with_len}
use Rattle.std.proofs.lemmas.Bool.Decides.{nat_tests}
use Rattle.std.proofs.lemmas.List.{append-nil, length-append}
use Rattle.std.proofs.lemmas.List.Elements.{filter_agree}
use Rattle.std.proofs.lemmas.List.Folds.{list_all-append}
use Rattle.std.proofs.lemmas.Bool.{eqb-true, not-true}
use Rattle.std.proofs.Math.Bool.{and-false}
use Rattle.pipe_model.specs.declared.net.Strand.{Strand}
use Rattle.pipe_model.specs.declared.range.Range.{Range}
use Rattle.pipe_model.specs.Event.{Event}
use Rattle.pipe_model.specs.Row.{Pair, sees}
use Rattle.pipe_model.specs.Shape.{Records, records_of, round_plan, all_inputs}
use Rattle.pipe_model.specs.Ranges.{part_of}
use Rattle.pipe_model.specs.Keys.{is_less, is_same}
use Rattle.pipe_model.specs.Inputs.{records_from}
use Rattle.pipe_model.specs.Counts.{all_on}
use Rattle.pipe_model.specs.JoiningRows.{goes_first, merging}
use Rattle.pipe_model.specs.OrderRows.{sorted}
use Rattle.pipe_model.specs.Table.{form}
use Rattle.pipe_model.specs.Alone.{Given, IsAllAlone}
use Rattle.pipe_model.specs.Listed.{ascending, are_sorted, merge_pairs, IsUnlimited}
use Rattle.stream_laws.specs.InOrder.{PutsInOrder}
use Rattle.pipe_model.proofs.Truths.{both as and_both, or_first, neither}
use Rattle.pipe_model.proofs.Numbers.{test_same}
use Rattle.pipe_model.proofs.Lists.{all_too}
use Rattle.stream_laws.proofs.Streams.{from, on_both}
use Rattle.stream_laws.proofs.KeyOrder.{less_between, no_less, same_is}
use Rattle.stream_laws.proofs.Sights.{sees_some}
use Rattle.stream_laws.proofs.Rounded.{with_list, IsSeen, Shows, Full, rounds_full, next_full, full_over}
use Rattle.stream_laws.proofs.Leasts.{all_at, Pick, pick, pick_all, pick_rec, pick_only, pick_taken}
use Rattle.stream_laws.proofs.Sorts.{Split, sorted_least, split_at}

-- of the numbers from one on, that which is a certain one
none_is : (a m b : ℕ) → a < b → filter (λ i. a == i) (range_with_len b m) ≡ []
none_is a zero b lt = refl
none_is a (suc m) b lt = ap (λ z. cond z (b ∷ filter (λ i. a == i) (range_with_len (b + 1) m)) (filter (λ i. a == i) (range_with_len (b + 1) m))) (apart a b lt) ∙ none_is a m (b + 1) (omega arith)
  where
    apart : (a b : ℕ) → a < b → (a == b) ≡ false
    apart a b lt = grind (arith, nat_tests)

one_is : (a m b : ℕ) → b ≤ a → a < b + m → filter (λ i. a == i) (range_with_len b m) ≡ a ∷ []
one_is a zero b le lt = absurd (omega arith)
one_is a (suc m) b le lt = by_place (places a b le) (λ less. one_is a m (b + 1) (omega arith) (omega arith))
  where
    places : (a b : ℕ) → b ≤ a → (b ≡ a) ⊎ (b < a)
    places a b le = grind (arith, nat_tests)

    apart : (a b : ℕ) → b < a → (a == b) ≡ false
    apart a b lt = grind (arith, nat_tests)

    by_place : (b ≡ a) ⊎ (b < a) → (b < a → filter (λ i. a == i) (range_with_len (b + 1) m) ≡ a ∷ []) → cond (a == b) (b ∷ filter (λ i. a == i) (range_with_len (b + 1) m)) (filter (λ i. a == i) (range_with_len (b + 1) m)) ≡ a ∷ []
    by_place (inl is) rest =
        ap (λ z. cond (a == z) (b ∷ filter (λ i. a == i) (range_with_len (b + 1) m)) (filter (λ i. a == i) (range_with_len (b + 1) m))) is
        ∙ ap (λ z. cond z (b ∷ filter (λ i. a == i) (range_with_len (b + 1) m)) (filter (λ i. a == i) (range_with_len (b + 1) m))) (test_same a)
        ∙ ap (λ z. b ∷ z) (none_is a m (b + 1) (omega (arith, is))) ∙ ap (λ z. z ∷ []) is
    by_place (inr less) rest = ap (λ z. cond z (b ∷ filter (λ i. a == i) (range_with_len (b + 1) m)) (filter (λ i. a == i) (range_with_len (b + 1) m))) (apart a b less) ∙ rest less

-- Order

-- a record that doesn't go before one of a lower input is behind it
behind_lower : (x y u : Bool) → (x || ((not x && not y) && u)) ≡ false → u ≡ true → y ≡ true
behind_lower true y u is lower = cc
behind_lower false true u is lower = refl
behind_lower false false true is lower = cc
behind_lower false false false is lower = cc

module _ (s : Strand) (g : Given) (unlimited : IsUnlimited g) (W : List Event) (done : IsAllAlone s g W)
    (n : ℕ) (range : Range) (row_is : (form s).row.plan ≡ round_plan n (merging range)) where
  abbrev Stands : List Pair → (ℕ → Records) → Type 0
  Stands pairs left = Full s g unlimited W done n (merging range) refl row_is pairs left

  -- one round
  module _ (pairs : List Pair) (left : ℕ → Records) (f : Stands pairs left) (ordered : (j : ℕ) → j < n → are_sorted range (left j) ≡ true)
      (p : Pair) (ps : List Pair) (some : f.known.sight ≡ p ∷ ps) (m : Pick range (f.known.sight)) where
    i : ℕ
    i = m.least.0

    -- it is in sight
    there : (rec : List ℕ) × (more : Records) × (records_from i f.known.sight ≡ rec ∷ more)
    unfolding i
    there = by_front (records_from m.least.0 m.before) refl
      where
        it : records_from m.least.0 f.known.sight ≡ records_from m.least.0 m.before ++ m.least.1 ∷ records_from m.least.0 m.behind
        it =
            ap (records_from m.least.0) m.whole ∙ on_both m.least.0 m.before (m.least ∷ m.behind)
            ∙ ap (λ z. records_from m.least.0 m.before ++ z) (ap (λ b. records_of (cond b (m.least ∷ from m.least.0 m.behind) (from m.least.0 m.behind))) (test_same m.least.0))

        by_front : (front : Records) → records_from m.least.0 m.before ≡ front → (rec : List ℕ) × (more : Records) × (records_from m.least.0 f.known.sight ≡ rec ∷ more)
        by_front [] e = (m.least.1, records_from m.least.0 m.behind, it ∙ ap (λ z. z ++ m.least.1 ∷ records_from m.least.0 m.behind) e)
        by_front (x ∷ xs) e = (x, xs ++ m.least.1 ∷ records_from m.least.0 m.behind, it ∙ ap (λ z. z ++ m.least.1 ∷ records_from m.least.0 m.behind) e)

    few : i < n
    few = by_place (places i n)
      where
        places : (a b : ℕ) → (a < b) ⊎ (b ≤ a)
        places a b = grind (arith, nat_tests)

        by_place : (i < n) ⊎ (n ≤ i) → i < n
        by_place (inl lt) = lt
        by_place (inr le) = (let z : [] ≡ there.0 ∷ there.1 = sym (f.beyond i le).none ∙ there.2 in cc)

    own : IsSeen f.known left i
    own = by_shows (f.shows i few)
      where
        by_shows : Shows f.known left i → IsSeen f.known left i
        by_shows (inl x) = (let z : [] ≡ there.0 ∷ there.1 = sym x.none ∙ there.2 in cc)
        by_shows (inr x) = x

    rec_is : m.least.1 ≡ own.rec
    unfolding i
    rec_is = pick_rec range f.known.sight m own.rec own.seen

    takes : filter (λ j. sees j f.known.sight && (merging range).takes f.known j) (all_inputs n) ≡ i ∷ []
    unfolding i
    takes =
        filter_agree (λ j. sees j f.known.sight && (merging range).takes f.known j) (λ j. m.least.0 == j)
        (λ j. ap (λ z. sees j f.known.sight && z) (pick_taken range f.known.sight m own.rec own.seen j) ∙ seen_too j (m.least.0 == j) refl) (all_inputs n) ∙ (let lt : m.least.0 < n = few in one_is m.least.0 n 0 (omega arith) (omega arith))
      where
        seen_too : (j : ℕ) (b : Bool) → (m.least.0 == j) ≡ b → (sees j f.known.sight && b) ≡ b
        seen_too j true is = ap (λ z. z && true) (ap (λ z. sees z f.known.sight) (sym (eqb-true m.least.0 j is)) ∙ sees_some m.least.0 f.known.sight own.rec [] own.seen)
        seen_too j false is = and-false (sees j f.known.sight)

    puts_it : (merging range).outs f.known ≡ all_on 0 (own.rec ∷ [])
    unfolding i
    puts_it = ap (λ z. all_on 0 (records_of z)) (pick_only range f.known.sight m own.rec own.seen) ∙ ap (λ z. (0, z) ∷ []) rec_is

    next : Stands (pairs ++ (merging range).outs f.known) (with_list i own.rest left)
    next = next_full s g unlimited W done n (merging range) refl row_is pairs left f i few own takes

    -- none goes before it
    none_first : (j : ℕ) (x : IsSeen f.known left j) → goes_first range (j, x.rec) (i, own.rec) ≡ false
    unfolding i
    none_first j x =
        ap (λ z. goes_first range (j, x.rec) (m.least.0, z)) (sym rec_is)
        ∙ not-true (goes_first range (j, x.rec) m.least) (all_at (λ q. not (goes_first range q m.least)) f.known.sight j x.rec [] (pick_all range f.known.sight m) x.seen)

    abbrev before : List ℕ → List ℕ → Bool
    before a b = is_less (part_of range a) (part_of range b)

    -- the records of lower inputs are behind it
    lower : (j : ℕ) → j < i → list_all (λ x. before own.rec x) (left j) ≡ true
    lower j less = by_shows (f.shows j (omega (arith, few)))
      where
        numbers : nat_lt j i ≡ true
        numbers = is_lower j i less
          where
            is_lower : (a b : ℕ) → a < b → nat_lt a b ≡ true
            is_lower a b lt = grind (arith, nat_tests)

        by_shows : Shows f.known left j → list_all (λ x. before own.rec x) (left j) ≡ true
        by_shows (inl x) = ap (list_all (λ x. before own.rec x)) x.all
        by_shows (inr x) =
            let first : before own.rec x.rec ≡ true = behind_lower (before x.rec own.rec) (before own.rec x.rec) (nat_lt j i)
            (ap (λ z. before x.rec own.rec || (z && nat_lt j i)) (sym (same_is (part_of range x.rec) (part_of range own.rec))) ∙ none_first j x) numbers in
            let tail = (and_both (list_all (λ later. not (before later x.rec)) x.rest) (are_sorted range x.rest) (ap (are_sorted range) (sym x.list) ∙ ordered j (omega (arith, few)))).0 in
            ap (list_all (λ x. before own.rec x)) x.list ∙ ap (λ z. z && list_all (λ x. before own.rec x) x.rest) first
            ∙ all_too (λ later. not (before later x.rec)) (λ later. before own.rec later) x.rest
            (λ later e. or_first (before own.rec later) (before later x.rec) (less_between (part_of range own.rec) (part_of range later) (part_of range x.rec) first) (not-true (before later x.rec) e)) tail

    -- those of higher ones don't go before it
    higher : (j : ℕ) → i < j → j < 0 + n → list_all (λ x. not (before x own.rec)) (left j) ≡ true
    higher j more lt = by_shows (f.shows j (omega arith))
      where
        by_shows : Shows f.known left j → list_all (λ x. not (before x own.rec)) (left j) ≡ true
        by_shows (inl x) = ap (list_all (λ x. not (before x own.rec))) x.all
        by_shows (inr x) =
            let first : before x.rec own.rec ≡ false = (neither (before x.rec own.rec) (agrees && nat_lt j i) (none_first j x)).0 in
            let tail = (and_both (list_all (λ later. not (before later x.rec)) x.rest) (are_sorted range x.rest) (ap (are_sorted range) (sym x.list) ∙ ordered j (omega arith))).0 in
            ap (list_all (λ x. not (before x own.rec))) x.list ∙ ap (λ z. not z && list_all (λ x. not (before x own.rec)) x.rest) first
            ∙ all_too (λ later. not (before later x.rec)) (λ later. not (before later own.rec)) x.rest
            (λ later e. ap (λ z. not z) (no_less (before later own.rec) (before later x.rec) (before x.rec own.rec) (less_between (part_of range later) (part_of range x.rec) (part_of range own.rec)) (not-true (before later x.rec) e) first)) tail
          where
            agrees : Bool
            agrees = is_same (part_of range x.rec) (part_of range own.rec)

    -- the lists before its own, and those behind it
    parts : Split left i 0 n
    parts = let lt : i < n = few in split_at left i n 0 (omega arith) (omega arith)

    none_behind : list_all (λ x. not (before x own.rec)) (own.rest ++ parts.back) ≡ true
    none_behind =
        list_all-append (λ x. not (before x own.rec)) own.rest parts.back
        ∙ ap (λ z. z && list_all (λ x. not (before x own.rec)) parts.back)
        (and_both (list_all (λ later. not (before later own.rec)) own.rest) (are_sorted range own.rest) (ap (are_sorted range) (sym own.list) ∙ ordered i few)).0
        ∙ parts.all_back (λ x. not (before x own.rec)) higher

    all_left : flat_map left (all_inputs n) ≡ parts.front ++ own.rec ∷ (own.rest ++ parts.back)
    all_left = parts.whole ∙ ap (λ z. parts.front ++ (z ++ parts.back)) own.list

    -- so it is the first of the sorted records
    sorted_is : sorted (ascending range ∷ []) (flat_map left (all_inputs n)) ≡ own.rec ∷ sorted (ascending range ∷ []) (flat_map (with_list i own.rest left) (all_inputs n))
    sorted_is =
        ap (sorted (ascending range ∷ [])) all_left ∙ sorted_least range own.rec parts.front (own.rest ++ parts.back) (parts.all_front (λ x. before own.rec x) lower) none_behind
        ∙ ap (λ z. own.rec ∷ sorted (ascending range ∷ []) z) (sym (parts.changed own.rest))

    one_less : length (flat_map left (all_inputs n)) ≡ suc (length (flat_map (with_list i own.rest left) (all_inputs n)))
    one_less =
        let a = length-append parts.front (own.rec ∷ (own.rest ++ parts.back)) in
        let b = length-append parts.front (own.rest ++ parts.back) in
        let c : length (flat_map left (all_inputs n)) ≡ length (parts.front ++ own.rec ∷ (own.rest ++ parts.back)) = ap length all_left in
        let d : length (flat_map (with_list i own.rest left) (all_inputs n)) ≡ length (parts.front ++ (own.rest ++ parts.back)) = ap length (parts.changed own.rest) in
        omega (arith, a, b, c, d)

    still_ordered : (j : ℕ) → j < n → are_sorted range (with_list i own.rest left j) ≡ true
    still_ordered j lt = by_test (i == j)
      where
        by_test : (b : Bool) → are_sorted range (cond b own.rest (left j)) ≡ true
        by_test true = (and_both (list_all (λ later. not (before later own.rec)) own.rest) (are_sorted range own.rest) (ap (are_sorted range) (sym own.list) ∙ ordered i few)).1
        by_test false = ordered j lt

  all_empty : (left : ℕ → Records) (m b : ℕ) → ((j : ℕ) → b ≤ j → j < b + m → left j ≡ []) → flat_map left (range_with_len b m) ≡ []
  all_empty left zero b none = refl
  all_empty left (suc m) b none = ap (λ z. z ++ flat_map left (range_with_len (b + 1) m)) (none b (omega arith) (omega arith)) ∙ all_empty left m (b + 1) (λ j le lt. none j (omega arith) (omega arith))

  merge_from : (fuel : ℕ) (pairs : List Pair) (left : ℕ → Records) → Stands pairs left → ((j : ℕ) → j < n → are_sorted range (left j) ≡ true) → length (flat_map left (all_inputs n)) < fuel →
      PutsInOrder s W (pairs ++ all_on 0 (sorted (ascending range ∷ []) (flat_map left (all_inputs n))))
  merge_from zero pairs left f ordered more = absurd (omega arith)
  merge_from (suc fuel) pairs left f ordered more = by_sight f.known.sight refl (λ pairs left f ordered more. merge_from fuel pairs left f ordered more)
    where
      Rest : Type 0
      Rest = (pairs : List Pair) (left : ℕ → Records) → Stands pairs left → ((j : ℕ) → j < n → are_sorted range (left j) ≡ true) → length (flat_map left (all_inputs n)) < fuel →
          PutsInOrder s W (pairs ++ all_on 0 (sorted (ascending range ∷ []) (flat_map left (all_inputs n))))

      none_left : f.known.sight ≡ [] → flat_map left (all_inputs n) ≡ []
      none_left empty = all_empty left n 0 (λ j le lt. none j (f.shows j (omega arith)))
        where
          none : (j : ℕ) → Shows f.known left j → left j ≡ []
          none j (inl x) = x.all
          none j (inr x) = (let z : [] ≡ x.rec ∷ [] = sym (ap (records_from j) empty) ∙ x.seen in cc)

      by_sight : (sight : List Pair) → f.known.sight ≡ sight → Rest → PutsInOrder s W (pairs ++ all_on 0 (sorted (ascending range ∷ []) (flat_map left (all_inputs n))))
      by_sight [] empty rest =
          subst (λ z. PutsInOrder s W (pairs ++ all_on 0 (sorted (ascending range ∷ []) z))) (sym (none_left empty))
          (subst (λ z. PutsInOrder s W z) (sym (append-nil pairs)) (full_over s g unlimited W done n (merging range) refl row_is pairs left f empty).puts)
      by_sight (p ∷ ps) some rest =
          let m : Pick range f.known.sight = subst (Pick range) (sym some) (pick range p ps) in
          let own_is = own pairs left f ordered p ps some m in
          let i_is : ℕ = i pairs left f ordered p ps some m in
          let less = one_less pairs left f ordered p ps some m in
          let y = rest (pairs ++ (merging range).outs f.known) (with_list i_is own_is.rest left) (next pairs left f ordered p ps some m) (still_ordered pairs left f ordered p ps some m) (omega (arith, less)) in
          subst (λ z. PutsInOrder s W z) (
          append_assoc pairs ((merging range).outs f.known) (all_on 0 (sorted (ascending range ∷ []) (flat_map (with_list i_is own_is.rest left) (all_inputs n))))
          ∙ ap (λ z. pairs ++ (z ++ all_on 0 (sorted (ascending range ∷ []) (flat_map (with_list i_is own_is.rest left) (all_inputs n))))) (puts_it pairs left f ordered p ps some m)
          ∙ ap (λ z. pairs ++ all_on 0 z) (sym (sorted_is pairs left f ordered p ps some m))
          ) y

  pub merge_puts : (form s).row.early ≡ None → ((j : ℕ) → j < n → are_sorted range (g.inputs j) ≡ true) → PutsInOrder s W (merge_pairs range g.inputs n)
  merge_puts early ordered = merge_from (suc (length (flat_map g.inputs (all_inputs n)))) [] g.inputs (rounds_full s g unlimited W done n (merging range) refl row_is early) ordered (omega arith)
