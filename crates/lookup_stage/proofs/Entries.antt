-- The entries of a map from keys to masters, as the masters that are kept.
use Rattle.std.proofs.Common.{◌≡◌, ℕ, zero, suc, ◌<◌, Bool, true, false, cond, ◌||◌, not, List, [], ◌∷◌, ◌++◌, length, map, refl, ap, ◌∙◌, sym, arith, Some, None, Option, is_some, slice_get, get_or, filter, position}
use Rattle.std.specs.Prelude.{find, option_map}
use Rattle.std.specs.List.{list_any}
use Rattle.std.specs.Map.{keys_of, values_of, lookup}
use Rattle.std.specs.Str.{bytes_eq}
use Rattle.std.proofs.lemmas.List.Quantifiers.{position-Some}
use Rattle.indexmap.specs.IndexMap.{insert_entry}
use Rattle.indexmap.specs.Layout.{set_value_at}
use Rattle.pipe_model.specs.Keys.{is_same}
use Rattle.lookup_stage.specs.declared.masters.Master.{Master}
use Rattle.lookup_stage.specs.Entry.{Entry}
use Rattle.lookup_stage.specs.Masters.{kept, record_of, matched, not_matched}
use Rattle.lookup_stage.proofs.SameKeys.{same_turned}

-- those of some masters that no detail matched
abbrev pub left_of : List Master → List (List ℕ)
left_of masters = map (λ m. m.rec) (filter (λ m. not m.is_matched) masters)

module _ {K : Type 0} (name : K → List ℕ) where
  abbrev pub entry_of : K × Master → Entry
  entry_of e = record { key = name e.0; rec = e.1.rec; is_matched = e.1.is_matched }

  abbrev pub entries_of : List (K × Master) → List Entry
  entries_of es = map entry_of es

  -- those that no detail matched are among the values
  pub left_among : (es : List (K × Master)) → map (λ (m : Master). m.rec) (filter (λ m. not m.is_matched) (values_of es)) ≡ not_matched (entries_of es)
  left_among [] = refl
  left_among (e ∷ es) =
      (elim e.1.is_matched as (λ b. map (λ (m : Master). m.rec) (cond (not b) (e.1 ∷ filter (λ m. not m.is_matched) (values_of es)) (filter (λ m. not m.is_matched) (values_of es)))
      ≡ map (λ (entry : Entry). entry.rec) (cond (not b) (entry_of e ∷ filter (λ entry. not entry.is_matched) (entries_of es)) (filter (λ entry. not entry.is_matched) (entries_of es)))) [
        | true ↦ left_among es
        | false ↦ ap (λ recs. e.1.rec ∷ recs) (left_among es)
      ])

  module _ (key : List ℕ) where
    -- a key is there or not
    pub any_is : (es : List (K × Master)) → is_some (lookup (λ k. bytes_eq key (name k)) es) ≡ list_any (λ (entry : Entry). is_same entry.key key) (entries_of es)
    any_is [] = refl
    any_is (e ∷ es) = rw (same_turned key (name e.0)) (
        (elim (is_same (name e.0) key) as (λ b. is_some (cond b (Some e.1) (lookup (λ k. bytes_eq key (name k)) es)) ≡ (b || list_any (λ (entry : Entry). is_same entry.key key) (entries_of es))) [
          | true ↦ refl
          | false ↦ any_is es
        ]))

    -- the master with the key
    pub record_is : (es : List (K × Master)) → record_of key (entries_of es) ≡ option_map (λ (m : Master). m.rec) (lookup (λ k. bytes_eq key (name k)) es)
    record_is [] = refl
    record_is (e ∷ es) = rw (same_turned key (name e.0)) (
        (elim (is_same (name e.0) key) as (λ b. option_map (λ (entry : Entry). entry.rec) (cond b (Some (entry_of e)) (find (λ (entry : Entry). is_same entry.key key) (entries_of es))) ≡ option_map (λ (m : Master). m.rec) (cond b (Some e.1) (lookup (λ k. bytes_eq key (name k)) es))) [
          | true ↦ refl
          | false ↦ record_is es
        ]))

    matched_from : (es : List (K × Master)) (i : ℕ) (d : K) (m : Master) → i < length (keys_of es) → bytes_eq key (name (get_or (keys_of es) i d)) ≡ true → ((k : ℕ) → k < i → bytes_eq key (name (get_or (keys_of es) k d)) ≡ false) →
        slice_get (values_of es) i ≡ Some m → entries_of (set_value_at es i (record m { is_matched = true })) ≡ matched key (entries_of es)
    matched_from [] i d m within is before at = absurd (omega arith)
    matched_from (e ∷ es) zero d m within is before at =
        let same : e.1 ≡ m = cc in
        rw (sym (same_turned key (name e.0)) ∙ is) (ap (λ (v : Master). record { key = name e.0; rec = v.rec; is_matched = true } ∷ entries_of es) (sym same))
    matched_from (e ∷ es) (suc i) d m within is before at =
        rw (sym (same_turned key (name e.0)) ∙ before 0 (omega arith)) (ap (λ rest. entry_of e ∷ rest) (matched_from es i d m (omega arith) is (λ k less. before (suc k) (omega arith)) at))

    -- a written value is a match
    pub matched_at : (es : List (K × Master)) (i : ℕ) (m : Master) → position (λ k. bytes_eq key (name k)) (keys_of es) ≡ Some i → slice_get (values_of es) i ≡ Some m →
        entries_of (set_value_at es i (record m { is_matched = true })) ≡ matched key (entries_of es)
    matched_at [] i m first at = cc
    matched_at (e ∷ es) i m first at =
        let p = position-Some (λ k. bytes_eq key (name k)) (keys_of (e ∷ es)) i e.0 first in
        matched_from (e ∷ es) i e.0 m p.0 p.1 p.2 at

  module _ (eq : K → K → Bool) (same : (x y : K) → eq x y ≡ bytes_eq (name x) (name y)) (key : K) (m : Master) where
    -- a new key is a new master at the end
    pub new_entry : (es : List (K × Master)) → list_any (λ (entry : Entry). is_same entry.key (name key)) (entries_of es) ≡ false → entries_of (insert_entry eq es key m) ≡ entries_of es ++ entry_of (key, m) ∷ []
    new_entry [] absent = refl
    new_entry (e ∷ es) absent =
        rw (same key e.0) (rw (same_turned (name key) (name e.0)) ((elim (is_same (name e.0) (name key)) as (λ b. (b || list_any (λ (entry : Entry). is_same entry.key (name key)) (entries_of es)) ≡ false →
        entries_of (cond b ((e.0, m) ∷ es) (e ∷ insert_entry eq es key m)) ≡ entry_of e ∷ (entries_of es ++ entry_of (key, m) ∷ [])) [
          | true ↦ λ is. cc
          | false ↦ λ is. ap (λ rest. entry_of e ∷ rest) (new_entry es is)
        ]) absent))

-- nothing is there
pub none_there : {A : Type 0} (found : Option A) → is_some found ≡ false → found ≡ None
none_there None is = refl
none_there (Some a) is = cc

-- where it isn't there, nothing is matched
pub none_matched : (key : List ℕ) (entries : List Entry) → list_any (λ (entry : Entry). is_same entry.key key) entries ≡ false → entries ≡ matched key entries
none_matched key [] none = refl
none_matched key (entry ∷ entries) none =
    (elim (is_same entry.key key) as (λ b. (b || list_any (λ (entry : Entry). is_same entry.key key) entries) ≡ false → entry ∷ entries ≡ cond b (record entry { is_matched = true } ∷ entries) (entry ∷ matched key entries)) [
      | true ↦ λ is. cc
      | false ↦ λ is. ap (λ rest. entry ∷ rest) (none_matched key entries is)
    ]) none

-- a master is kept where its key isn't there
pub kept_new : (key rec : List ℕ) (entries : List Entry) → list_any (λ (entry : Entry). is_same entry.key key) entries ≡ false → entries ++ record { key = key; rec = rec; is_matched = false } ∷ [] ≡ kept key rec entries
kept_new key rec entries none = rw none refl

pub kept_there : (key rec : List ℕ) (entries : List Entry) → list_any (λ (entry : Entry). is_same entry.key key) entries ≡ true → entries ≡ kept key rec entries
kept_there key rec entries is = rw is refl

-- so it is where it is a new entry
pub kept_entry : {K : Type 0} (name : K → List ℕ) (eq : K → K → Bool) (same : (x y : K) → eq x y ≡ bytes_eq (name x) (name y)) (k : K) (m : Master) (key rec : List ℕ) (es : List (K × Master)) →
    name k ≡ key → m ≡ record { rec = rec; is_matched = false } → list_any (λ (entry : Entry). is_same entry.key key) (entries_of name es) ≡ false →
    entries_of name (insert_entry eq es k m) ≡ kept key rec (entries_of name es)
kept_entry name eq same k m key rec es key_is m_is none =
    new_entry name eq same k m es (ap (λ b. list_any (λ (entry : Entry). is_same entry.key b) (entries_of name es)) key_is ∙ none)
    ∙ ap (λ b. entries_of name es ++ record { key = b; rec = m.rec; is_matched = m.is_matched } ∷ []) key_is
    ∙ ap (λ (v : Master). entries_of name es ++ record { key = key; rec = v.rec; is_matched = v.is_matched } ∷ []) m_is
    ∙ kept_new key rec (entries_of name es) none
