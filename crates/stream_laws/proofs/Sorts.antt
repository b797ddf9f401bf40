-- The stable sort, and lists one after another.
use Rattle.std.proofs.Common.{◌≡◌, ◌⊎◌, inl, inr, ℕ, zero, suc, ◌+◌, ◌<◌, ◌≤◌, Bool, true, false, cond, ◌&&◌, not, ◌==◌, List, [], ◌∷◌, ◌++◌, refl, sym, ◌∙◌, ap, arith, append_assoc}
use Rattle.std.specs.Prelude.{flat_map}
use Rattle.std.specs.List.{list_all, range_with_len}
use Rattle.std.proofs.lemmas.Bool.Decides.{nat_tests}
use Rattle.std.proofs.lemmas.List.Folds.{list_all-append}
use Rattle.std.proofs.lemmas.Bool.{not-true}
use Rattle.pipe_model.specs.declared.range.Range.{Range}
use Rattle.pipe_model.specs.Shape.{Records}
use Rattle.pipe_model.specs.Ranges.{part_of}
use Rattle.pipe_model.specs.Keys.{is_less}
use Rattle.pipe_model.specs.declared.keys.SortKey.{SortKey}
use Rattle.pipe_model.specs.OrderRows.{goes_before, inserted, sorted}
use Rattle.pipe_model.specs.Listed.{ascending}
use Rattle.pipe_model.proofs.Truths.{both as and_both}
use Rattle.pipe_model.proofs.Numbers.{test_same}
use Rattle.stream_laws.proofs.KeyOrder.{same_is}
use Rattle.stream_laws.proofs.Rounded.{with_list}

module _ (range : Range) where
  abbrev pub before : List ℕ → List ℕ → Bool
  before a b = is_less (part_of range a) (part_of range b)

  abbrev keys : List SortKey
  keys = ascending range ∷ []

  -- a record goes before another one by the range alone
  goes_is : (a b : List ℕ) → goes_before keys a b ≡ before a b
  goes_is a b = ap (λ z. cond z false (before a b)) (same_is (part_of range a) (part_of range b)) ∙ by_test (before a b) (is_less (part_of range b) (part_of range a))
    where
      by_test : (x y : Bool) → cond (not x && not y) false x ≡ x
      by_test true y = refl
      by_test false true = refl
      by_test false false = refl

  all_inserted : (f : List ℕ → Bool) (rec : List ℕ) (xs : Records) → f rec ≡ true → list_all f xs ≡ true → list_all f (inserted keys rec xs) ≡ true
  all_inserted f rec [] here all = ap (λ z. z && true) here
  all_inserted f rec (x ∷ xs) here all =
      let b = and_both (f x) (list_all f xs) all in
      by_test (goes_before keys x rec) b.0 b.1 (all_inserted f rec xs here b.1)
    where
      by_test : (c : Bool) → f x ≡ true → list_all f xs ≡ true → list_all f (inserted keys rec xs) ≡ true → list_all f (cond c (x ∷ inserted keys rec xs) (rec ∷ x ∷ xs)) ≡ true
      by_test true one rest more = ap (λ z. z && list_all f (inserted keys rec xs)) one ∙ more
      by_test false one rest more = ap (λ z. z && (f x && list_all f xs)) here ∙ ap (λ z. z && list_all f xs) one ∙ rest

  all_sorted : (f : List ℕ → Bool) (xs : Records) → list_all f xs ≡ true → list_all f (sorted keys xs) ≡ true
  all_sorted f [] all = refl
  all_sorted f (x ∷ xs) all = let b = and_both (f x) (list_all f xs) all in all_inserted f x (sorted keys xs) b.0 (all_sorted f xs b.1)

  -- a record that none goes before stands first
  inserted_first : (rec : List ℕ) (xs : Records) → list_all (λ x. not (before x rec)) xs ≡ true → inserted keys rec xs ≡ rec ∷ xs
  inserted_first rec [] all = refl
  inserted_first rec (x ∷ xs) all = ap (λ b. cond b (x ∷ inserted keys rec xs) (rec ∷ x ∷ xs)) (goes_is x rec ∙ not-true (before x rec) (and_both (not (before x rec)) (list_all (λ x. not (before x rec)) xs) all).0)

  -- so the first of the least records of a list is the first of the sorted list
  pub sorted_least : (rec : List ℕ) (xs ys : Records) → list_all (λ x. before rec x) xs ≡ true → list_all (λ y. not (before y rec)) ys ≡ true → sorted keys (xs ++ rec ∷ ys) ≡ rec ∷ sorted keys (xs ++ ys)
  sorted_least rec [] ys behind none = inserted_first rec (sorted keys ys) (all_sorted (λ y. not (before y rec)) ys none)
  sorted_least rec (x ∷ xs) ys behind none =
      let b = and_both (before rec x) (list_all (λ x. before rec x) xs) behind in
      ap (inserted keys x) (sorted_least rec xs ys b.1 none) ∙ ap (λ z. cond z (rec ∷ inserted keys x (sorted keys (xs ++ ys))) (x ∷ rec ∷ sorted keys (xs ++ ys))) (goes_is rec x ∙ b.0)

-- Lists one after another

-- all pass where those of each list do
all_flat : (f : List ℕ → Bool) (left : ℕ → Records) (m b : ℕ) → ((j : ℕ) → b ≤ j → j < b + m → list_all f (left j) ≡ true) → list_all f (flat_map left (range_with_len b m)) ≡ true
all_flat f left zero b all = refl
all_flat f left (suc m) b all =
    list_all-append f (left b) (flat_map left (range_with_len (b + 1) m)) ∙ ap (λ z. z && list_all f (flat_map left (range_with_len (b + 1) m))) (all b (omega arith) (omega arith))
    ∙ all_flat f left m (b + 1) (λ j le lt. all j (omega arith) (omega arith))

-- another list before them changes nothing
flat_behind : (left : ℕ → Records) (i : ℕ) (rest : Records) (m b : ℕ) → i < b → flat_map (with_list i rest left) (range_with_len b m) ≡ flat_map left (range_with_len b m)
flat_behind left i rest zero b lt = refl
flat_behind left i rest (suc m) b lt = ap (λ z. cond z rest (left b) ++ flat_map (with_list i rest left) (range_with_len (b + 1) m)) (apart i b lt) ∙ ap (λ z. left b ++ z) (flat_behind left i rest m (b + 1) (omega arith))
  where
    apart : (i b : ℕ) → i < b → (i == b) ≡ false
    apart i b lt = grind (arith, nat_tests)

-- the lists before one of them, and those behind it
pub record Split (left : ℕ → Records) (i b m : ℕ) : Type 0 where
  pub front : Records
  pub back : Records
  pub whole : flat_map left (range_with_len b m) ≡ front ++ (left i ++ back)
  pub changed : (rest : Records) → flat_map (with_list i rest left) (range_with_len b m) ≡ front ++ (rest ++ back)
  pub all_front : (f : List ℕ → Bool) → ((j : ℕ) → j < i → list_all f (left j) ≡ true) → list_all f front ≡ true
  pub all_back : (f : List ℕ → Bool) → ((j : ℕ) → i < j → j < b + m → list_all f (left j) ≡ true) → list_all f back ≡ true

pub split_at : (left : ℕ → Records) (i m b : ℕ) → b ≤ i → i < b + m → Split left i b m
split_at left i zero b le lt = absurd (omega arith)
split_at left i (suc m) b le lt = by_place (places i b le) (λ more. split_at left i m (b + 1) (omega arith) (omega arith))
  where
    places : (i b : ℕ) → b ≤ i → (b ≡ i) ⊎ (b < i)
    places i b le = grind (arith, nat_tests)

    apart : (i b : ℕ) → b < i → (i == b) ≡ false
    apart i b lt = grind (arith, nat_tests)

    by_place : (b ≡ i) ⊎ (b < i) → (b < i → Split left i (b + 1) m) → Split left i b (suc m)
    by_place (inl is) rest = record {
      front = [];
      back = flat_map left (range_with_len (b + 1) m);
      whole = ap (λ z. left z ++ flat_map left (range_with_len (b + 1) m)) is;
      changed = λ other. ap (λ z. cond (i == z) other (left z) ++ flat_map (with_list i other left) (range_with_len (b + 1) m)) is
          ∙ ap (λ z. cond z other (left i) ++ flat_map (with_list i other left) (range_with_len (b + 1) m)) (test_same i) ∙ ap (λ z. other ++ z) (flat_behind left i other m (b + 1) (omega (arith, is)));
      all_front = λ f all. refl;
      all_back = λ f all. all_flat f left m (b + 1) (λ j le' lt'. all j (omega (arith, is)) (omega arith));
    }
    by_place (inr more) rest =
        let r = rest more in
        record {
          front = left b ++ r.front;
          back = r.back;
          whole = ap (λ z. left b ++ z) r.whole ∙ sym (append_assoc (left b) r.front (left i ++ r.back));
          changed = λ other. ap (λ z. cond z other (left b) ++ flat_map (with_list i other left) (range_with_len (b + 1) m)) (apart i b more) ∙ ap (λ z. left b ++ z) (r.changed other) ∙ sym (append_assoc (left b) r.front (other ++ r.back));
          all_front = λ f all. list_all-append f (left b) r.front ∙ ap (λ z. z && list_all f r.front) (all b more) ∙ r.all_front f all;
          all_back = λ f all. r.all_back f (λ j lt' lt''. all j lt' (omega arith));
        }
