-- Labels as the entries of a map, from the keys that have their names to their uses.
use Rattle.std.proofs.Common.{◌≡◌, ℕ, zero, suc, ◌+◌, ◌<◌, Bool, true, false, cond, if◌then◌else◌, List, [], ◌∷◌, ◌++◌, length, map, refl, ap, ◌∙◌, sym, arith, Some, None, Option, IfSome, slice_get, slice_set, add-one}
use Rattle.std.specs.List.{position, position_from}
use Rattle.std.specs.Option.{option_map_or}
use Rattle.std.specs.Map.{keys_of, values_of}
use Rattle.std.specs.Str.{bytes_eq}
use Rattle.std.proofs.lemmas.List.{length-map}
use Rattle.std.proofs.lemmas.Cmp.{nat_list_eq_equiv}
use Rattle.std.proofs.lemmas.Iterator.Adapters.{position_from-zero}
use Rattle.indexmap.specs.IndexMap.{insert_entry}
use Rattle.indexmap.specs.Layout.{set_value_at}
use Rattle.spec_scanner.specs.Labels.{Label, number_of, used, uses_of}

-- a first place in a list is that in what the list was made from
position_map : {X Y : Type 0} (t : Y → Bool) (s : X → Bool) (f : X → Y) → ((x : X) → s x ≡ t (f x)) → (xs : List X) (i : ℕ) → position_from s i xs ≡ position_from t i (map f xs)
position_map t s f same [] i = refl
position_map t s f same (x ∷ xs) i = rw (same x) (ap (cond (t (f x)) (Some i)) (position_map t s f same xs (i + 1)))

-- the label after the first
used_later : (label : Label) (labels : List Label) (number : ℕ) → used (label ∷ labels) (suc number) ≡ label ∷ used labels number
used_later label labels number = by_found (slice_get labels number) where
  by_found : (found : Option Label)
      → option_map_or (λ (l : Label). label ∷ slice_set labels number (record l { uses = suc l.uses })) found (label ∷ labels)
      ≡ label ∷ option_map_or (λ (l : Label). slice_set labels number (record l { uses = suc l.uses })) found labels
  by_found None = refl
  by_found (Some l) = refl

module _ {K : Type 0} (name : K → List ℕ) where
  abbrev pub label_of : K × ℕ → Label
  label_of entry = record { name = name entry.0; uses = entry.1 }

  abbrev pub labels_of : List (K × ℕ) → List Label
  labels_of entries = map label_of entries

  -- the number of a name is the place of its key
  pub number_at : (entries : List (K × ℕ)) (wanted : List ℕ) → position (λ k. bytes_eq wanted (name k)) (keys_of entries) ≡ number_of (labels_of entries) wanted
  number_at entries wanted =
      position_from-zero (λ k. bytes_eq wanted (name k)) (keys_of entries)
      ∙ sym (position_map (λ k. bytes_eq wanted (name k)) (λ (e : K × ℕ). bytes_eq wanted (name e.0)) (λ e. e.0) (λ _. refl) entries 0)
      ∙ position_map (λ (l : Label). bytes_eq l.name wanted) (λ (e : K × ℕ). bytes_eq wanted (name e.0)) label_of (λ e. nat_list_eq_equiv.symm wanted (name e.0)) entries 0
      ∙ sym (position_from-zero (λ (l : Label). bytes_eq l.name wanted) (labels_of entries))

  -- a number of an entry is one of a label
  pub number_within : (entries : List (K × ℕ)) (labels : List Label) → labels_of entries ≡ labels → (number : Option ℕ) → IfSome number (λ n. n < length entries) → IfSome number (λ n. n < length labels)
  number_within entries labels are None within = within
  number_within entries labels are (Some number) within = omega (arith, within, ap length are, length-map entries label_of)

  -- the uses of a number are the value at its place
  pub uses_at : (entries : List (K × ℕ)) (number uses : ℕ) → slice_get (values_of entries) number ≡ Some uses → uses_of (labels_of entries) number ≡ uses
  uses_at [] number uses at = cc
  uses_at (e ∷ es) zero uses at = cc
  uses_at (e ∷ es) (suc number) uses at = uses_at es number uses at

  -- a written value is a use
  pub used_at : (entries : List (K × ℕ)) (number uses : ℕ) → slice_get (values_of entries) number ≡ Some uses → labels_of (set_value_at entries number (uses + 1)) ≡ used (labels_of entries) number
  used_at [] number uses at = cc
  used_at (e ∷ es) zero uses at =
      let is : e.1 ≡ uses = cc in
      ap (λ n. record { name = name e.0; uses = n } ∷ labels_of es) (add-one uses ∙ ap suc (sym is))
  used_at (e ∷ es) (suc number) uses at = ap (λ ls. label_of e ∷ ls) (used_at es number uses at) ∙ sym (used_later (label_of e) (labels_of es) number)

  module _ (eq : K → K → Bool) (same : (x y : K) → eq x y ≡ bytes_eq (name x) (name y)) (key : K) (uses : ℕ) where
    new_from : (entries : List (K × ℕ)) (i : ℕ) → position_from (λ (l : Label). bytes_eq l.name (name key)) i (labels_of entries) ≡ None
        → labels_of (insert_entry eq entries key uses) ≡ labels_of entries ++ label_of (key, uses) ∷ []
    new_from [] i absent = refl
    new_from (e ∷ es) i absent =
        rw (same key e.0) (rw (nat_list_eq_equiv.symm (name key) (name e.0))
        ((elim (bytes_eq (name e.0) (name key)) as (λ b. cond b (Some i) (position_from (λ (l : Label). bytes_eq l.name (name key)) (i + 1) (labels_of es)) ≡ None
        → labels_of (if b then (e.0, uses) ∷ es else e ∷ insert_entry eq es key uses) ≡ label_of e ∷ (labels_of es ++ label_of (key, uses) ∷ [])) [
          | true ↦ λ p. cc
          | false ↦ λ p. ap (λ ls. label_of e ∷ ls) (new_from es (i + 1) p)
        ]) absent))

    -- a new key is a new label at the end
    pub new_label : (entries : List (K × ℕ)) → number_of (labels_of entries) (name key) ≡ None
        → labels_of (insert_entry eq entries key uses) ≡ labels_of entries ++ label_of (key, uses) ∷ []
    new_label entries absent = new_from entries 0 (sym (position_from-zero (λ (l : Label). bytes_eq l.name (name key)) (labels_of entries)) ∙ absent)
