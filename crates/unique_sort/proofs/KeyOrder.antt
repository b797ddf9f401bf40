-- One key of SORT.
use Rattle.std.proofs.Common.{◌≡◌, ℕ, true, false, List, [], ◌∷◌, refl, sym, ◌∙◌, ap}
use Rattle.std.specs.Prelude.{if◌then◌else◌}
use Rattle.std.specs.declared.cmp.Ordering.{Ordering}
use Rattle.std.specs.declared.cmp.Ordering.TheVariants.{Less, Equal, Greater}
use Rattle.std.specs.Ordering.{is_lt, is_eq, ordering_reverse, ordering_then}
use Rattle.std.proofs.lemmas.Cmp.{nat_list_cmp_total}
use Rattle.pipe_model.specs.declared.keys.SortKey.{SortKey}
use Rattle.pipe_model.specs.Keys.{is_same}
use Rattle.pipe_model.specs.OrderRows.{goes_before}
use Rattle.pipe_model.specs.Ranges.{part_of}
use Rattle.stream_laws.proofs.KeysInTurn.{by_bytes, by_key, same_bytes, goes_by_keys}

then_equal : (o : Ordering) → ordering_then o Equal ≡ o
then_equal Less = refl
then_equal Equal = refl
then_equal Greater = refl

turned_ties : (o : Ordering) → is_eq (ordering_reverse o) ≡ is_eq o
turned_ties Less = refl
turned_ties Equal = refl
turned_ties Greater = refl

module _ (key : SortKey) (rec other : List ℕ) (o : Ordering) where
  abbrev a : List ℕ
  a = part_of key.range rec

  abbrev b : List ℕ
  b = part_of key.range other

  pub key_straight : key.descending ≡ false → o ≡ by_bytes a b → o ≡ by_key key rec other
  key_straight ascending is = is ∙ ap (λ d. if d then by_bytes b a else by_bytes a b) (sym ascending)

  pub key_turned : key.descending ≡ true → o ≡ by_bytes a b → ordering_reverse o ≡ by_key key rec other
  key_turned descending is = ap ordering_reverse is ∙ sym (nat_list_cmp_total.antisymm b a) ∙ ap (λ d. if d then by_bytes b a else by_bytes a b) (sym descending)

  pub key_less : o ≡ by_key key rec other → is_lt o ≡ goes_before (key ∷ []) rec other
  key_less is = ap is_lt (is ∙ sym (then_equal (by_key key rec other))) ∙ goes_by_keys (key ∷ []) rec other

  pub key_ties : o ≡ by_bytes a b → is_eq o ≡ is_same a b
  key_ties is = ap is_eq is ∙ same_bytes a b

  pub key_ties_turned : o ≡ by_bytes a b → is_eq (ordering_reverse o) ≡ is_same a b
  key_ties_turned is = turned_ties o ∙ key_ties is
