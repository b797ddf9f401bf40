-- The keys of SORT in turn are an order.
use Rattle.std.proofs.Common.{◌≡◌, ℕ, Bool, true, false, List, [], ◌∷◌, refl, subst, arith}
use Rattle.std.specs.Prelude.{if◌then◌else◌}
use Rattle.std.specs.declared.cmp.Ordering.{Ordering}
use Rattle.std.specs.declared.cmp.Ordering.TheVariants.{Less, Equal, Greater}
use Rattle.std.specs.Cmp.{IsTotalOrder, IsStrictWeakOrder}
use Rattle.std.specs.Cmp.Lexicographic.{slice_cmp}
use Rattle.std.specs.Ordering.{nat_cmp, is_lt, is_eq, on, ordering_reverse, ordering_then}
use Rattle.std.proofs.lemmas.Bool.Decides.{nat_tests}
use Rattle.std.proofs.lemmas.Cmp.{same_from_slice_cmp, nat_list_cmp_total, on_total, back_total, then_total}
use Rattle.std.proofs.lemmas.List.Sorted.{ranks_by}
use Rattle.pipe_model.specs.declared.keys.SortKey.{SortKey}
use Rattle.pipe_model.specs.Keys.{is_less, is_same}
use Rattle.pipe_model.specs.OrderRows.{goes_before}
use Rattle.pipe_model.specs.Ranges.{part_of}

-- how two parts compare
abbrev pub by_bytes : List ℕ → List ℕ → Ordering
by_bytes = slice_cmp nat_cmp

pub same_bytes : (key bytes : List ℕ) → is_eq (by_bytes key bytes) ≡ is_same key bytes
same_bytes key bytes = same_from_slice_cmp nat_cmp is_eq is_same refl (λ _ _. refl) (λ _ _. refl) (λ x y xs ys o h. grind (arith, nat_tests)) key bytes (by_bytes key bytes) refl

pub less_bytes : (key bytes : List ℕ) → is_lt (by_bytes key bytes) ≡ is_less key bytes
less_bytes key bytes = same_from_slice_cmp nat_cmp is_lt is_less refl (λ _ _. refl) (λ _ _. refl) (λ x y xs ys o h. grind (arith, nat_tests)) key bytes (by_bytes key bytes) refl

-- one key, and the keys in turn
abbrev pub directed : Bool → (List ℕ → List ℕ → Ordering) → List ℕ → List ℕ → Ordering
directed descending order rec other = if descending then order other rec else order rec other

abbrev pub by_key : SortKey → List ℕ → List ℕ → Ordering
by_key key = directed key.descending (on (part_of key.range) by_bytes)

abbrev pub by_keys : List SortKey → List ℕ → List ℕ → Ordering
by_keys [] rec other = Equal
by_keys (key ∷ keys) rec other = ordering_then (by_key key rec other) (by_keys keys rec other)

pub directed_total : (descending : Bool) {order : List ℕ → List ℕ → Ordering} → IsTotalOrder order → IsTotalOrder (directed descending order)
directed_total false total = total
directed_total true total = back_total total

pub by_keys_total : (keys : List SortKey) → IsTotalOrder (by_keys keys)
by_keys_total [] = record { antisymm = λ x y. refl; trans = λ x y z less more. less; congr = λ x y z same. refl }
by_keys_total (key ∷ keys) = then_total (directed_total key.descending (on_total (part_of key.range) nat_list_cmp_total)) (by_keys_total keys)

-- the definition of sorting compares so
pub goes_by_keys : (keys : List SortKey) (rec other : List ℕ) → is_lt (by_keys keys rec other) ≡ goes_before keys rec other
goes_by_keys [] rec other = refl
goes_by_keys (key ∷ keys) rec other =
    let a = part_of key.range rec in
    let b = part_of key.range other in
    by key.descending (by_bytes a b) (by_bytes b a) (goes_before keys rec other) (is_same a b) (is_less a b) (is_less b a) (by_keys keys rec other)
    (nat_list_cmp_total.antisymm b a) (same_bytes a b) (less_bytes a b) (less_bytes b a) (goes_by_keys keys rec other)
  where
    by : (descending : Bool) (o back : Ordering) (goes same less more : Bool) (rest : Ordering) →
        back ≡ ordering_reverse o → is_eq o ≡ same → is_lt o ≡ less → is_lt back ≡ more → is_lt rest ≡ goes →
        is_lt (ordering_then (if descending then back else o) rest) ≡ (if same then goes else if descending then more else less)
    by true Less back goes same less more rest turned eq lt gt goes_is = cc
    by true Equal back goes same less more rest turned eq lt gt goes_is = cc
    by true Greater back goes same less more rest turned eq lt gt goes_is = cc
    by false Less back goes same less more rest turned eq lt gt goes_is = cc
    by false Equal back goes same less more rest turned eq lt gt goes_is = cc
    by false Greater back goes same less more rest turned eq lt gt goes_is = cc

pub goes_before_orders : (keys : List SortKey) → IsStrictWeakOrder (goes_before keys)
goes_before_orders keys = subst IsStrictWeakOrder (λ i rec other. goes_by_keys keys rec other i) (ranks_by (by_keys_total keys) (λ rec. rec))
