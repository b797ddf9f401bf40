-- COLLATE's lists, round for round.
use Rattle.std.proofs.Common.{◌≡◌, ℕ, Bool, true, false, cond, ◌&&◌, ◌||◌, not, ◌==◌, List, [], ◌∷◌, ◌++◌, refl, sym, ◌∙◌, ap, arith, append_assoc}
use Rattle.std.proofs.lemmas.Bool.Decides.{nat_tests}
use Rattle.std.specs.Prelude.{filter, flat_map}
use Rattle.std.specs.List.{list_all, list_any}
use Rattle.std.proofs.lemmas.List.{append-nil}
use Rattle.std.proofs.lemmas.Bool.{eqb-true, not-true}
use Rattle.std.proofs.Math.Bool.{and-false}
use Rattle.pipe_model.specs.declared.range.Range.{Range}
use Rattle.pipe_model.specs.Row.{Pair}
use Rattle.pipe_model.specs.Shape.{Records}
use Rattle.pipe_model.specs.Ranges.{part_of}
use Rattle.pipe_model.specs.Keys.{is_less, is_same}
use Rattle.pipe_model.specs.Inputs.{records_from}
use Rattle.pipe_model.specs.Counts.{all_on}
use Rattle.pipe_model.specs.JoiningRows.{agree, unmatched}
use Rattle.pipe_model.specs.Listed.{are_sorted, are_distinct, headed, collate_pairs}
use Rattle.pipe_model.proofs.Truths.{both as and_both, or_first, neither}
use Rattle.pipe_model.proofs.Lists.{all_too}
use Rattle.stream_laws.proofs.Streams.{on_both, on_others, output_both}
use Rattle.stream_laws.proofs.KeyOrder.{less_one_way, less_between, same_is}

-- Tests

not_false : (b : Bool) → b ≡ false → not b ≡ true
not_false b e = ap (λ z. not z) e

second_of_or : (a b : Bool) → (a || b) ≡ true → a ≡ false → b ≡ true
second_of_or true b e f = cc
second_of_or false b e f = e

apart_less : (x y : Bool) → (not x && not y) ≡ false → y ≡ false → x ≡ true
apart_less true y e f = refl
apart_less false true e f = cc
apart_less false false e f = cc

pub same_neither : (x y : Bool) → (not x && not y) ≡ true → (x ≡ false) × (y ≡ false)
same_neither true y e = cc
same_neither false true e = cc
same_neither false false e = (refl, refl)

-- Filters

-- none passes
pub none_kept : (f : List ℕ → Bool) (xs : Records) → list_all (λ x. not (f x)) xs ≡ true → filter f xs ≡ []
none_kept f [] none = refl
none_kept f (x ∷ xs) none =
    let b = and_both (not (f x)) (list_all (λ x. not (f x)) xs) none in
    ap (λ z. cond z (x ∷ filter f xs) (filter f xs)) (not-true (f x) b.0) ∙ none_kept f xs b.1

-- Keys

-- keys are apart where one is less
pub apart_before : (a b : List ℕ) → is_less a b ≡ true → is_same a b ≡ false
apart_before a b e = same_is a b ∙ ap (λ z. not z && not (is_less b a)) e

pub apart_behind : (a b : List ℕ) → is_less b a ≡ true → is_same a b ≡ false
apart_behind a b e = same_is a b ∙ ap (λ z. not (is_less a b) && not z) e ∙ and-false (not (is_less a b))

module _ (of_master of_detail : Range) where
  abbrev master_key : List ℕ → List ℕ
  master_key rec = part_of of_master rec

  abbrev detail_key : List ℕ → List ℕ
  detail_key rec = part_of of_detail rec

  abbrev pub fits : List ℕ → List ℕ → Bool
  fits master detail = agree of_master of_detail master detail

  -- Sorted records

  -- of sorted masters with keys of their own, each goes before the later ones
  pub rising : (m : List ℕ) (ms : Records) → are_sorted of_master (m ∷ ms) ≡ true → are_distinct of_master (m ∷ ms) ≡ true → list_all (λ later. is_less (master_key m) (master_key later)) ms ≡ true
  rising m ms ordered distinct =
      go ms (and_both (list_all (λ later. not (is_less (master_key later) (master_key m))) ms) (are_sorted of_master ms) ordered).0
      (not-true (list_any (agree of_master of_master m) ms) (and_both (not (list_any (agree of_master of_master m) ms)) (are_distinct of_master ms) distinct).0)
    where
      go : (xs : Records) → list_all (λ later. not (is_less (master_key later) (master_key m))) xs ≡ true → list_any (agree of_master of_master m) xs ≡ false → list_all (λ later. is_less (master_key m) (master_key later)) xs ≡ true
      go [] all none = refl
      go (x ∷ xs) all none =
          let a = and_both (not (is_less (master_key x) (master_key m))) (list_all (λ later. not (is_less (master_key later) (master_key m))) xs) all in
          let b = neither (agree of_master of_master m x) (list_any (agree of_master of_master m) xs) none in
          ap (λ z. z && list_all (λ later. is_less (master_key m) (master_key later)) xs)
          (apart_less (is_less (master_key m) (master_key x)) (is_less (master_key x) (master_key m)) (sym (same_is (master_key m) (master_key x)) ∙ b.0) (not-true (is_less (master_key x) (master_key m)) a.0))
          ∙ go xs a.1 b.1

  -- a detail with a master's key has none of the later masters'
  pub match_apart : (m d : List ℕ) (ms : Records) → fits m d ≡ true → list_all (λ later. is_less (master_key m) (master_key later)) ms ≡ true → list_all (λ later. not (fits later d)) ms ≡ true
  match_apart m d ms is all =
      let neither = same_neither (is_less (master_key m) (detail_key d)) (is_less (detail_key d) (master_key m)) (sym (same_is (master_key m) (detail_key d)) ∙ is) in
      all_too (λ later. is_less (master_key m) (master_key later)) (λ later. not (fits later d)) ms
      (λ later e. not_false (fits later d) (apart_behind (master_key later) (detail_key d)
      (second_of_or (is_less (master_key m) (detail_key d)) (is_less (detail_key d) (master_key later)) (less_between (master_key m) (detail_key d) (master_key later) e) neither.0))) all

  -- a master that goes before the first of sorted details has none of them
  pub master_apart : (m d : List ℕ) (ds : Records) → is_less (master_key m) (detail_key d) ≡ true → are_sorted of_detail (d ∷ ds) ≡ true → list_all (λ later. not (fits m later)) (d ∷ ds) ≡ true
  master_apart m d ds less ordered =
      ap (λ z. not z && list_all (λ later. not (fits m later)) ds) (apart_before (master_key m) (detail_key d) less)
      ∙ all_too (λ later. not (is_less (detail_key later) (detail_key d))) (λ later. not (fits m later)) ds
      (λ later e. not_false (fits m later) (apart_before (master_key m) (detail_key later)
      (or_first (is_less (master_key m) (detail_key later)) (is_less (detail_key later) (detail_key d)) (less_between (master_key m) (detail_key later) (detail_key d) less) (not-true (is_less (detail_key later) (detail_key d)) e))))
      (and_both (list_all (λ later. not (is_less (detail_key later) (detail_key d))) ds) (are_sorted of_detail ds) ordered).0

  -- a detail that goes before the first master has none of their keys
  pub detail_apart : (m d : List ℕ) (ms : Records) → fits m d ≡ false → is_less (master_key m) (detail_key d) ≡ false → list_all (λ later. is_less (master_key m) (master_key later)) ms ≡ true → list_all (λ later. not (fits later d)) (m ∷ ms) ≡ true
  detail_apart m d ms apart not_less all =
      ap (λ z. not z && list_all (λ later. not (fits later d)) ms) apart
      ∙ all_too (λ later. is_less (master_key m) (master_key later)) (λ later. not (fits later d)) ms
      (λ later e. not_false (fits later d) (apart_behind (master_key later) (detail_key d)
      (or_first (is_less (detail_key d) (master_key later)) (is_less (master_key later) (master_key m)) (less_between (detail_key d) (master_key later) (master_key m) less) (less_one_way (master_key m) (master_key later) e)))) all
    where
      less : is_less (detail_key d) (master_key m) ≡ true
      less = other (is_less (master_key m) (detail_key d)) (is_less (detail_key d) (master_key m)) (sym (same_is (master_key m) (detail_key d)) ∙ apart) not_less
        where
          other : (x y : Bool) → (not x && not y) ≡ false → x ≡ false → y ≡ true
          other true y e f = cc
          other false true e f = refl
          other false false e f = cc

  -- The lists

  abbrev pub with_details : Records → Records → Records
  with_details ms ds = flat_map (λ m. headed m (filter (fits m) ds)) ms

  abbrev pub without_master : Records → Records → Records
  without_master ms ds = filter (λ d. not (list_any (λ m. fits m d) ms)) ds

  -- a detail with no master's key changes nothing for the masters
  no_detail : (d : List ℕ) (ms ds : Records) → list_all (λ m. not (fits m d)) ms ≡ true → with_details ms (d ∷ ds) ≡ with_details ms ds
  no_detail d [] ds none = refl
  no_detail d (m ∷ ms) ds none =
      let b = and_both (not (fits m d)) (list_all (λ m. not (fits m d)) ms) none in
      ap (λ z. headed m (cond z (d ∷ filter (fits m) ds) (filter (fits m) ds)) ++ with_details ms (d ∷ ds)) (not-true (fits m d) b.0) ∙ ap (λ z. headed m (filter (fits m) ds) ++ z) (no_detail d ms ds b.1)

  no_match : (d : List ℕ) (ms ds : Records) → list_all (λ m. not (fits m d)) ms ≡ true → unmatched of_master of_detail ms (d ∷ ds) ≡ unmatched of_master of_detail ms ds
  no_match d [] ds none = refl
  no_match d (m ∷ ms) ds none =
      let b = and_both (not (fits m d)) (list_all (λ m. not (fits m d)) ms) none in
      ap (λ z. cond (not (z || list_any (fits m) ds)) (m ∷ unmatched of_master of_detail ms (d ∷ ds)) (unmatched of_master of_detail ms (d ∷ ds))) (not-true (fits m d) b.0)
      ∙ ap (λ z. cond (not (list_any (fits m) ds)) (m ∷ z) z) (no_match d ms ds b.1)

  none_any : (d : List ℕ) (ms : Records) → list_all (λ m. not (fits m d)) ms ≡ true → list_any (λ m. fits m d) ms ≡ false
  none_any d [] none = refl
  none_any d (m ∷ ms) none =
      let b = and_both (not (fits m d)) (list_all (λ m. not (fits m d)) ms) none in
      ap (λ z. z || list_any (λ m. fits m d) ms) (not-true (fits m d) b.0) ∙ none_any d ms b.1

  -- a master without details
  no_any : (m : List ℕ) (ds : Records) → list_all (λ d. not (fits m d)) ds ≡ true → list_any (fits m) ds ≡ false
  no_any m [] none = refl
  no_any m (d ∷ ds) none =
      let b = and_both (not (fits m d)) (list_all (λ d. not (fits m d)) ds) none in
      ap (λ z. z || list_any (fits m) ds) (not-true (fits m d) b.0) ∙ no_any m ds b.1

  no_master : (m : List ℕ) (ms ds : Records) → list_all (λ d. not (fits m d)) ds ≡ true → without_master (m ∷ ms) ds ≡ without_master ms ds
  no_master m ms [] none = refl
  no_master m ms (d ∷ ds) none =
      let b = and_both (not (fits m d)) (list_all (λ d. not (fits m d)) ds) none in
      ap (λ z. cond (not (z || list_any (λ m. fits m d) ms)) (d ∷ without_master (m ∷ ms) ds) (without_master (m ∷ ms) ds)) (not-true (fits m d) b.0)
      ∙ ap (λ z. cond (not (list_any (λ m. fits m d) ms)) (d ∷ z) z) (no_master m ms ds b.1)

  -- What is left to put: by whether the first master has had no detail yet

  abbrev pub left_0 : Bool → Records → Records → Records
  left_0 new [] ds = []
  left_0 new (m ∷ ms) ds = cond new (headed m (filter (fits m) ds)) (filter (fits m) ds) ++ with_details ms ds

  abbrev pub left_1 : Bool → Records → Records → Records
  left_1 new [] ds = []
  left_1 new (m ∷ ms) ds = cond (new && not (list_any (fits m) ds)) (m ∷ unmatched of_master of_detail ms ds) (unmatched of_master of_detail ms ds)

  abbrev pub on_three : Records → Records → Records → List Pair
  on_three a b c = all_on 0 a ++ (all_on 1 b ++ all_on 2 c)

  abbrev pub left_pairs : Bool → Records → Records → List Pair
  left_pairs new ms ds = on_three (left_0 new ms ds) (left_1 new ms ds) (without_master ms ds)

  -- at the start it is all
  pub left_is : (ms ds : Records) → left_pairs true ms ds ≡ collate_pairs of_master of_detail ms ds
  left_is [] ds = refl
  left_is (m ∷ ms) ds = refl

  -- pairs that give each stream the same
  abbrev pub Alike : List Pair → List Pair → Type 0
  Alike ps qs = (o : ℕ) → records_from o ps ≡ records_from o qs

  -- pairs of two streams can change places
  swapped : (j k : ℕ) → (j == k) ≡ false → (xs ys : Records) → Alike (all_on j xs ++ all_on k ys) (all_on k ys ++ all_on j xs)
  swapped j k apart xs ys o = on_both o (all_on j xs) (all_on k ys) ∙ by_test (j == o) refl ∙ sym (on_both o (all_on k ys) (all_on j xs))
    where
      turned : (k j : ℕ) → (j == k) ≡ false → (k == j) ≡ false
      turned k j e = grind (arith, nat_tests)

      by_test : (b : Bool) → (j == o) ≡ b → records_from o (all_on j xs) ++ records_from o (all_on k ys) ≡ records_from o (all_on k ys) ++ records_from o (all_on j xs)
      by_test true is =
          let z : records_from o (all_on k ys) ≡ [] = on_others k o ys (ap (λ y. k == y) (sym (eqb-true j o is)) ∙ turned k j apart) in
          ap (λ y. records_from o (all_on j xs) ++ y) z ∙ append-nil (records_from o (all_on j xs)) ∙ ap (λ y. y ++ records_from o (all_on j xs)) (sym z)
      by_test false is =
          let z : records_from o (all_on j xs) ≡ [] = on_others j o xs is in
          ap (λ y. y ++ records_from o (all_on k ys)) z ∙ sym (append-nil (records_from o (all_on k ys))) ∙ ap (λ y. records_from o (all_on k ys) ++ y) (sym z)

  pub before_same : (xs ys zs : List Pair) → Alike ys zs → Alike (xs ++ ys) (xs ++ zs)
  before_same xs ys zs e o = on_both o xs ys ∙ ap (λ z. records_from o xs ++ z) (e o) ∙ sym (on_both o xs zs)

  -- what is put first on output 1 or 2 stands first there
  moved_1 : (y a b c : Records) → Alike (all_on 1 y ++ on_three a b c) (on_three a (y ++ b) c)
  moved_1 y a b c o =
      ap (records_from o) (sym (append_assoc (all_on 1 y) (all_on 0 a) (all_on 1 b ++ all_on 2 c))) ∙ on_both o (all_on 1 y ++ all_on 0 a) (all_on 1 b ++ all_on 2 c)
      ∙ ap (λ z. z ++ records_from o (all_on 1 b ++ all_on 2 c)) (swapped 1 0 refl y a o) ∙ sym (on_both o (all_on 0 a ++ all_on 1 y) (all_on 1 b ++ all_on 2 c))
      ∙ ap (records_from o) (
      append_assoc (all_on 0 a) (all_on 1 y) (all_on 1 b ++ all_on 2 c)
      ∙ ap (λ z. all_on 0 a ++ z) (sym (append_assoc (all_on 1 y) (all_on 1 b) (all_on 2 c)) ∙ ap (λ z. z ++ all_on 2 c) (sym (output_both 1 y b)))
      )

  moved_2 : (y a b c : Records) → Alike (all_on 2 y ++ on_three a b c) (on_three a b (y ++ c))
  moved_2 y a b c o =
      ap (records_from o) (sym (append_assoc (all_on 2 y) (all_on 0 a) (all_on 1 b ++ all_on 2 c))) ∙ on_both o (all_on 2 y ++ all_on 0 a) (all_on 1 b ++ all_on 2 c)
      ∙ ap (λ z. z ++ records_from o (all_on 1 b ++ all_on 2 c)) (swapped 2 0 refl y a o) ∙ sym (on_both o (all_on 0 a ++ all_on 2 y) (all_on 1 b ++ all_on 2 c))
      ∙ ap (records_from o) (append_assoc (all_on 0 a) (all_on 2 y) (all_on 1 b ++ all_on 2 c))
      ∙ before_same (all_on 0 a) (all_on 2 y ++ (all_on 1 b ++ all_on 2 c)) (all_on 1 b ++ all_on 2 (y ++ c)) second o
    where
      second : Alike (all_on 2 y ++ (all_on 1 b ++ all_on 2 c)) (all_on 1 b ++ all_on 2 (y ++ c))
      second o =
          ap (records_from o) (sym (append_assoc (all_on 2 y) (all_on 1 b) (all_on 2 c))) ∙ on_both o (all_on 2 y ++ all_on 1 b) (all_on 2 c)
          ∙ ap (λ z. z ++ records_from o (all_on 2 c)) (swapped 2 1 refl y b o) ∙ sym (on_both o (all_on 1 b ++ all_on 2 y) (all_on 2 c))
          ∙ ap (records_from o) (append_assoc (all_on 1 b) (all_on 2 y) (all_on 2 c) ∙ ap (λ z. all_on 1 b ++ z) (sym (output_both 2 y c)))

  -- Rounds

  -- a detail with the master's key
  pub match_round : (new : Bool) (m d : List ℕ) (ms ds : Records) → fits m d ≡ true → list_all (λ later. not (fits later d)) ms ≡ true →
      Alike (all_on 0 (cond new (m ∷ d ∷ []) (d ∷ [])) ++ left_pairs false (m ∷ ms) ds) (left_pairs new (m ∷ ms) (d ∷ ds))
  match_round new m d ms ds is none o = ap (records_from o) (
      sym (append_assoc (all_on 0 (cond new (m ∷ d ∷ []) (d ∷ []))) (all_on 0 (left_0 false (m ∷ ms) ds)) (all_on 1 (left_1 false (m ∷ ms) ds) ++ all_on 2 (without_master (m ∷ ms) ds)))
      ∙ ap (λ z. z ++ (all_on 1 (left_1 false (m ∷ ms) ds) ++ all_on 2 (without_master (m ∷ ms) ds))) (sym (output_both 0 (cond new (m ∷ d ∷ []) (d ∷ [])) (left_0 false (m ∷ ms) ds)) ∙ ap (all_on 0) (firsts new))
      ∙ ap (λ z. all_on 0 (left_0 new (m ∷ ms) (d ∷ ds)) ++ (all_on 1 z ++ all_on 2 (without_master (m ∷ ms) ds))) (seconds new)
      ∙ ap (λ z. all_on 0 (left_0 new (m ∷ ms) (d ∷ ds)) ++ (all_on 1 (left_1 new (m ∷ ms) (d ∷ ds)) ++ all_on 2 z)) thirds
      )
    where
      its : filter (fits m) (d ∷ ds) ≡ d ∷ filter (fits m) ds
      its = ap (λ z. cond z (d ∷ filter (fits m) ds) (filter (fits m) ds)) is

      firsts : (new : Bool) → cond new (m ∷ d ∷ []) (d ∷ []) ++ (filter (fits m) ds ++ with_details ms ds) ≡ cond new (headed m (filter (fits m) (d ∷ ds))) (filter (fits m) (d ∷ ds)) ++ with_details ms (d ∷ ds)
      firsts true = ap (λ z. headed m z ++ with_details ms ds) (sym its) ∙ ap (λ z. headed m (filter (fits m) (d ∷ ds)) ++ z) (sym (no_detail d ms ds none))
      firsts false = ap (λ z. z ++ with_details ms ds) (sym its) ∙ ap (λ z. filter (fits m) (d ∷ ds) ++ z) (sym (no_detail d ms ds none))

      seconds : (new : Bool) → unmatched of_master of_detail ms ds ≡ cond (new && not (fits m d || list_any (fits m) ds)) (m ∷ unmatched of_master of_detail ms (d ∷ ds)) (unmatched of_master of_detail ms (d ∷ ds))
      seconds true = sym (no_match d ms ds none) ∙ ap (λ z. cond (not (z || list_any (fits m) ds)) (m ∷ unmatched of_master of_detail ms (d ∷ ds)) (unmatched of_master of_detail ms (d ∷ ds))) (sym is)
      seconds false = sym (no_match d ms ds none)

      thirds : without_master (m ∷ ms) ds ≡ without_master (m ∷ ms) (d ∷ ds)
      thirds = ap (λ z. cond (not (z || list_any (λ m. fits m d) ms)) (d ∷ without_master (m ∷ ms) ds) (without_master (m ∷ ms) ds)) (sym is)

  -- a master that goes before all details that are left
  pub master_round : (new : Bool) (m : List ℕ) (ms ds : Records) → list_all (λ later. not (fits m later)) ds ≡ true →
      Alike (all_on 1 (cond new (m ∷ []) []) ++ left_pairs true ms ds) (left_pairs new (m ∷ ms) ds)
  master_round new m ms ds none o =
      ap (λ z. records_from o (all_on 1 (cond new (m ∷ []) []) ++ z)) (starts ms) ∙ moved_1 (cond new (m ∷ []) []) (with_details ms ds) (unmatched of_master of_detail ms ds) (without_master ms ds) o
      ∙ ap (λ z. records_from o (on_three z (cond new (m ∷ []) [] ++ unmatched of_master of_detail ms ds) (without_master ms ds))) (firsts new)
      ∙ ap (λ z. records_from o (on_three (left_0 new (m ∷ ms) ds) z (without_master ms ds))) (seconds new)
      ∙ ap (λ z. records_from o (on_three (left_0 new (m ∷ ms) ds) (left_1 new (m ∷ ms) ds) z)) (sym (no_master m ms ds none))
    where
      starts : (ms : Records) → left_pairs true ms ds ≡ on_three (with_details ms ds) (unmatched of_master of_detail ms ds) (without_master ms ds)
      starts [] = refl
      starts (m ∷ ms) = refl

      firsts : (new : Bool) → with_details ms ds ≡ cond new (headed m (filter (fits m) ds)) (filter (fits m) ds) ++ with_details ms ds
      firsts true = ap (λ z. headed m z ++ with_details ms ds) (sym (none_kept (fits m) ds none))
      firsts false = ap (λ z. z ++ with_details ms ds) (sym (none_kept (fits m) ds none))

      seconds : (new : Bool) → cond new (m ∷ []) [] ++ unmatched of_master of_detail ms ds ≡ cond (new && not (list_any (fits m) ds)) (m ∷ unmatched of_master of_detail ms ds) (unmatched of_master of_detail ms ds)
      seconds true = ap (λ z. cond (not z) (m ∷ unmatched of_master of_detail ms ds) (unmatched of_master of_detail ms ds)) (sym (no_any m ds none))
      seconds false = refl

  -- a detail that goes before all masters that are left
  pub detail_round : (new : Bool) (ms : Records) (d : List ℕ) (ds : Records) → list_all (λ m. not (fits m d)) ms ≡ true →
      Alike (all_on 2 (d ∷ []) ++ left_pairs new ms ds) (left_pairs new ms (d ∷ ds))
  detail_round new ms d ds none o =
      moved_2 (d ∷ []) (left_0 new ms ds) (left_1 new ms ds) (without_master ms ds) o
      ∙ ap (λ z. records_from o (on_three z (left_1 new ms ds) (d ∷ without_master ms ds))) (firsts new ms none)
      ∙ ap (λ z. records_from o (on_three (left_0 new ms (d ∷ ds)) z (d ∷ without_master ms ds))) (seconds new ms none)
      ∙ ap (λ z. records_from o (on_three (left_0 new ms (d ∷ ds)) (left_1 new ms (d ∷ ds)) z)) (sym (ap (λ z. cond (not z) (d ∷ without_master ms ds) (without_master ms ds)) (none_any d ms none)))
    where
      firsts : (new : Bool) (ms : Records) → list_all (λ m. not (fits m d)) ms ≡ true → left_0 new ms ds ≡ left_0 new ms (d ∷ ds)
      firsts new [] none = refl
      firsts new (m ∷ ms) none =
          let b = and_both (not (fits m d)) (list_all (λ m. not (fits m d)) ms) none in
          ap (λ z. cond new (headed m (filter (fits m) ds)) (filter (fits m) ds) ++ z) (sym (no_detail d ms ds b.1))
          ∙ ap (λ z. cond new (headed m z) z ++ with_details ms (d ∷ ds)) (sym (ap (λ z. cond z (d ∷ filter (fits m) ds) (filter (fits m) ds)) (not-true (fits m d) b.0)))

      seconds : (new : Bool) (ms : Records) → list_all (λ m. not (fits m d)) ms ≡ true → left_1 new ms ds ≡ left_1 new ms (d ∷ ds)
      seconds new [] none = refl
      seconds new (m ∷ ms) none =
          let b = and_both (not (fits m d)) (list_all (λ m. not (fits m d)) ms) none in
          ap (λ z. cond (new && not (list_any (fits m) ds)) (m ∷ z) z) (sym (no_match d ms ds b.1))
          ∙ ap (λ z. cond (new && not (z || list_any (fits m) ds)) (m ∷ unmatched of_master of_detail ms (d ∷ ds)) (unmatched of_master of_detail ms (d ∷ ds))) (sym (not-true (fits m d) b.0))
