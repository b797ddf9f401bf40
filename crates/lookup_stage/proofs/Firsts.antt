-- Of masters with one key the first, as they come one by one; and what details match of them.
use Rattle.std.proofs.Common.{◌≡◌, ℕ, Bool, true, false, cond, ◌||◌, not, List, [], ◌∷◌, ◌++◌, map, refl, ap, ◌∙◌, sym, Some, Option, filter}
use Rattle.std.specs.Prelude.{find, option_map}
use Rattle.std.specs.List.{list_any}
use Rattle.std.proofs.Math.Bool.{or-true, or-false}
use Rattle.std.proofs.lemmas.List.{append-nil, map-append}
use Rattle.std.proofs.lemmas.List.Elements.{filter-append}
use Rattle.std.proofs.lemmas.List.Folds.{list_any-append}
use Rattle.std.proofs.lemmas.Map.Views.{any-filter_same}
use Rattle.pipe_model.specs.declared.range.Range.{Range}
use Rattle.pipe_model.specs.Keys.{is_same}
use Rattle.pipe_model.specs.Ranges.{part_of}
use Rattle.pipe_model.specs.Shape.{Records}
use Rattle.pipe_model.specs.JoiningRows.{agree, first_of_key, unmatched}
use Rattle.pipe_model.proofs.Truths.{neither}
use Rattle.lookup_stage.specs.Entry.{Entry}
use Rattle.lookup_stage.specs.Lookup.{entry_for, entries_by}
use Rattle.lookup_stage.specs.Masters.{kept, record_of, matched, not_matched}
use Rattle.lookup_stage.proofs.SameKeys.{meet, apart_too}

-- Truth values and lists

-- what would make false true doesn't hold
same_false : (b : Bool) → (b ≡ true → false ≡ true) → b ≡ false
same_false true would = sym (would refl)
same_false false would = refl

-- a test of what a list was made into is one of the list
any_map : {X Y : Type 0} (p : Y → Bool) (f : X → Y) (xs : List X) → list_any p (map f xs) ≡ list_any (λ x. p (f x)) xs
any_map p f [] = refl
any_map p f (x ∷ xs) = ap (λ b. p (f x) || b) (any_map p f xs)

-- what is found is found without some that don't pass
find_kept : {X : Type 0} (p q : X → Bool) → ((x : X) → p x ≡ true → q x ≡ true) → (xs : List X) → find p (filter q xs) ≡ find p xs
find_kept p q keeps [] = refl
find_kept p q keeps (x ∷ xs) = by_test (q x) refl (find_kept p q keeps xs)
  where
    by_test : (b : Bool) → q x ≡ b → find p (filter q xs) ≡ find p xs → find p (cond (q x) (x ∷ filter q xs) (filter q xs)) ≡ cond (p x) (Some x) (find p xs)
    by_test true is rest = rw is (ap (cond (p x) (Some x)) rest)
    by_test false is rest = rw is (rest ∙ ap (λ b. cond b (Some x) (find p xs)) (sym (same_false (p x) (λ yes. sym is ∙ keeps x yes))))

-- what passes no test is no less so when some is left out
any_less : {X : Type 0} (p q : X → Bool) (xs : List X) → list_any p xs ≡ false → list_any p (filter q xs) ≡ false
any_less p q [] none = none
any_less p q (x ∷ xs) none =
    let two = neither (p x) (list_any p xs) none in
    (elim (q x) as (λ a. list_any p (cond a (x ∷ filter q xs) (filter q xs)) ≡ false) [
      | true ↦ ap (λ b. b || list_any p (filter q xs)) two.0 ∙ any_less p q xs two.1
      | false ↦ any_less p q xs two.1
    ])

-- The first of each key

module _ (range : Range) where
  abbrev differs : List ℕ → List ℕ → Bool
  differs master later = not (agree range range master later)

  abbrev more : Bool → Records → List ℕ → Records
  more b firsts rec = cond b firsts (firsts ++ rec ∷ [])

  more_step : (master rec : List ℕ) (firsts : Records) → master ∷ filter (differs master) (more (list_any (λ f. agree range range f rec) firsts) firsts rec) ≡
      more (agree range range master rec || list_any (λ f. agree range range f rec) (filter (differs master) firsts)) (master ∷ filter (differs master) firsts) rec
  more_step master rec firsts = by_key (agree range range master rec) refl (list_any (λ f. agree range range f rec) firsts) refl
    where
      at_end : (b : Bool) → agree range range master rec ≡ b → filter (differs master) (firsts ++ rec ∷ []) ≡ filter (differs master) firsts ++ cond (not b) (rec ∷ []) []
      at_end b is = filter-append (differs master) firsts (rec ∷ []) ∙ ap (λ s. filter (differs master) firsts ++ cond (not s) (rec ∷ []) []) is

      by_key : (b : Bool) → agree range range master rec ≡ b → (a : Bool) → list_any (λ f. agree range range f rec) firsts ≡ a →
          master ∷ filter (differs master) (more (list_any (λ f. agree range range f rec) firsts) firsts rec) ≡
          more (agree range range master rec || list_any (λ f. agree range range f rec) (filter (differs master) firsts)) (master ∷ filter (differs master) firsts) rec
      by_key true same true any = rw same (rw any refl)
      by_key true same false any = rw same (rw any (ap (λ l. master ∷ l) (at_end true same ∙ append-nil (filter (differs master) firsts))))
      by_key false apart a any =
          let still = any-filter_same (λ f. agree range range f rec) (differs master) true (λ f same. ap not (apart_too (part_of range master) (part_of range f) (part_of range rec) apart same)) firsts in
          rw apart (rw still (elim (list_any (λ f. agree range range f rec) firsts) as (λ s. master ∷ filter (differs master) (more s firsts rec) ≡ more s (master ∷ filter (differs master) firsts) rec) [
            | true ↦ refl
            | false ↦ ap (λ l. master ∷ l) (at_end false apart)
          ]))

  -- one master more
  first_more : (masters : Records) (rec : List ℕ) → first_of_key range (masters ++ rec ∷ []) ≡ more (list_any (λ f. agree range range f rec) (first_of_key range masters)) (first_of_key range masters) rec
  first_more [] rec = refl
  first_more (master ∷ masters) rec = ap (λ l. master ∷ filter (differs master) l) (first_more masters rec) ∙ more_step master rec (first_of_key range masters)

  -- no two have one key
  Apart : Records → Type 0
  Apart [] = Unit {0}
  Apart (master ∷ masters) = (list_any (agree range range master) masters ≡ false) × Apart masters

  apart_less : (q : List ℕ → Bool) (masters : Records) → Apart masters → Apart (filter q masters)
  unfolding Apart
  apart_less q [] apart = apart
  apart_less q (master ∷ masters) apart =
      (elim (q master) as (λ b. Apart (cond b (master ∷ filter q masters) (filter q masters))) [
        | true ↦ (any_less (agree range range master) q masters apart.0, apart_less q masters apart.1)
        | false ↦ apart_less q masters apart.1
      ])

  apart_firsts : (masters : Records) → Apart (first_of_key range masters)
  unfolding Apart
  apart_firsts [] = tt
  apart_firsts (master ∷ masters) = (
    any-filter_same (agree range range master) (differs master) false (λ f same. ap not same) (first_of_key range masters),
    apart_less (differs master) (first_of_key range masters) (apart_firsts masters),
  )

module _ (of_master of_detail : Range) where
  -- a master more is kept where none has its key
  pub masters_more : (masters : Records) (rec : List ℕ) → entries_by of_master of_detail (masters ++ rec ∷ []) [] ≡ kept (part_of of_master rec) rec (entries_by of_master of_detail masters [])
  masters_more masters rec =
      ap (map (entry_for of_master of_detail [])) (first_more of_master masters rec)
      ∙ (elim (list_any (λ f. agree of_master of_master f rec) (first_of_key of_master masters)) as (λ b. map (entry_for of_master of_detail []) (more of_master b (first_of_key of_master masters) rec) ≡
      cond b (entries_by of_master of_detail masters []) (entries_by of_master of_detail masters [] ++ entry_for of_master of_detail [] rec ∷ [])) [
        | true ↦ refl
        | false ↦ map-append (entry_for of_master of_detail []) (first_of_key of_master masters) (rec ∷ [])
      ])
      ∙ ap (λ b. cond b (entries_by of_master of_detail masters []) (entries_by of_master of_detail masters [] ++ entry_for of_master of_detail [] rec ∷ []))
      (sym (any_map (λ (entry : Entry). is_same entry.key (part_of of_master rec)) (entry_for of_master of_detail []) (first_of_key of_master masters)))

  -- the first with a key is the first of the first ones
  find_first : (detail : List ℕ) (masters : Records) → find (λ master. agree of_master of_detail master detail) masters ≡ find (λ master. agree of_master of_detail master detail) (first_of_key of_master masters)
  find_first detail [] = refl
  find_first detail (master ∷ masters) = by_test (agree of_master of_detail master detail) refl (find_first detail masters)
    where
      found : Records → Option (List ℕ)
      found = find (λ master. agree of_master of_detail master detail)

      by_test : (b : Bool) → agree of_master of_detail master detail ≡ b → found masters ≡ found (first_of_key of_master masters) →
          cond (agree of_master of_detail master detail) (Some master) (found masters) ≡ cond (agree of_master of_detail master detail) (Some master) (found (filter (differs of_master master) (first_of_key of_master masters)))
      by_test true is rest = rw is refl
      by_test false is rest = rw is (rest ∙ sym (find_kept (λ m. agree of_master of_detail m detail) (differs of_master master)
          (λ m same. ap not (apart_too (part_of of_master master) (part_of of_master m) (part_of of_detail detail) is same)) (first_of_key of_master masters)))

  record_found : (detail : List ℕ) (details firsts : Records) → record_of (part_of of_detail detail) (map (entry_for of_master of_detail details) firsts) ≡ find (λ master. agree of_master of_detail master detail) firsts
  record_found detail details [] = refl
  record_found detail details (master ∷ firsts) =
      (elim (agree of_master of_detail master detail) as (λ b. option_map (λ (entry : Entry). entry.rec) (cond b (Some (entry_for of_master of_detail details master)) (find (λ (entry : Entry). is_same entry.key (part_of of_detail detail)) (map (entry_for of_master of_detail details) firsts)))
      ≡ cond b (Some master) (find (λ master. agree of_master of_detail master detail) firsts)) [
        | true ↦ refl
        | false ↦ record_found detail details firsts
      ])

  -- what is kept has the master of a detail
  pub record_is_found : (detail : List ℕ) (masters details : Records) → record_of (part_of of_detail detail) (entries_by of_master of_detail masters details) ≡ find (λ master. agree of_master of_detail master detail) masters
  record_is_found detail masters details = record_found detail details (first_of_key of_master masters) ∙ sym (find_first detail masters)

  -- a detail more that a master doesn't match
  entry_same : (details : Records) (detail master : List ℕ) → agree of_master of_detail master detail ≡ false → entry_for of_master of_detail (details ++ detail ∷ []) master ≡ entry_for of_master of_detail details master
  entry_same details detail master apart =
      ap (λ b. record { key = part_of of_master master; rec = master; is_matched = b }) (
      list_any-append (agree of_master of_detail master) details (detail ∷ [])
      ∙ ap (λ b. list_any (agree of_master of_detail master) details || (b || false)) apart
      ∙ or-false (list_any (agree of_master of_detail master) details)
      )

  entry_matched : (details : Records) (detail master : List ℕ) → agree of_master of_detail master detail ≡ true → entry_for of_master of_detail (details ++ detail ∷ []) master ≡ record { key = part_of of_master master; rec = master; is_matched = true }
  entry_matched details detail master same =
      ap (λ b. record { key = part_of of_master master; rec = master; is_matched = b }) (
      list_any-append (agree of_master of_detail master) details (detail ∷ [])
      ∙ ap (λ b. list_any (agree of_master of_detail master) details || (b || false)) same
      ∙ or-true (list_any (agree of_master of_detail master) details)
      )

  -- masters of another key don't match
  others_same : (details : Records) (detail master : List ℕ) → agree of_master of_detail master detail ≡ true → (masters : Records) → list_any (agree of_master of_master master) masters ≡ false →
      map (entry_for of_master of_detail (details ++ detail ∷ [])) masters ≡ map (entry_for of_master of_detail details) masters
  others_same details detail master same [] none = refl
  others_same details detail master same (m ∷ masters) none =
      let two = neither (agree of_master of_master master m) (list_any (agree of_master of_master master) masters) none in
      let apart = same_false (agree of_master of_detail m detail) (λ yes. sym two.0 ∙ meet (part_of of_master master) (part_of of_master m) (part_of of_detail detail) same yes) in
      ap (λ e. e ∷ map (entry_for of_master of_detail (details ++ detail ∷ [])) masters) (entry_same details detail m apart)
      ∙ ap (λ l. entry_for of_master of_detail details m ∷ l) (others_same details detail master same masters two.1)

  matched_more : (details : Records) (detail : List ℕ) (firsts : Records) → Apart of_master firsts →
      map (entry_for of_master of_detail (details ++ detail ∷ [])) firsts ≡ matched (part_of of_detail detail) (map (entry_for of_master of_detail details) firsts)
  unfolding Apart
  matched_more details detail [] apart = refl
  matched_more details detail (master ∷ firsts) apart = by_test (agree of_master of_detail master detail) refl (matched_more details detail firsts apart.1)
    where
      by_test : (b : Bool) → agree of_master of_detail master detail ≡ b → map (entry_for of_master of_detail (details ++ detail ∷ [])) firsts ≡ matched (part_of of_detail detail) (map (entry_for of_master of_detail details) firsts) →
          map (entry_for of_master of_detail (details ++ detail ∷ [])) (master ∷ firsts) ≡ matched (part_of of_detail detail) (map (entry_for of_master of_detail details) (master ∷ firsts))
      by_test true is rest = rw is (
          ap (λ e. e ∷ map (entry_for of_master of_detail (details ++ detail ∷ [])) firsts) (entry_matched details detail master is)
          ∙ ap (λ l. record { key = part_of of_master master; rec = master; is_matched = true } ∷ l) (others_same details detail master is firsts apart.0))
      by_test false is rest = rw is (
          ap (λ e. e ∷ map (entry_for of_master of_detail (details ++ detail ∷ [])) firsts) (entry_same details detail master is)
          ∙ ap (λ l. entry_for of_master of_detail details master ∷ l) rest)

  -- a detail more matches the master with its key
  pub details_more : (masters details : Records) (detail : List ℕ) → entries_by of_master of_detail masters (details ++ detail ∷ []) ≡ matched (part_of of_detail detail) (entries_by of_master of_detail masters details)
  details_more masters details detail = matched_more details detail (first_of_key of_master masters) (apart_firsts of_master masters)

  -- those that no detail matched
  pub not_matched_are : (details firsts : Records) → not_matched (map (entry_for of_master of_detail details) firsts) ≡ unmatched of_master of_detail firsts details
  not_matched_are details [] = refl
  not_matched_are details (master ∷ firsts) =
      (elim (list_any (agree of_master of_detail master) details) as (λ b. map (λ (entry : Entry). entry.rec) (cond (not b) (entry_for of_master of_detail details master ∷ filter (λ (entry : Entry). not entry.is_matched) (map (entry_for of_master of_detail details) firsts))
      (filter (λ (entry : Entry). not entry.is_matched) (map (entry_for of_master of_detail details) firsts)))
      ≡ cond (not b) (master ∷ unmatched of_master of_detail firsts details) (unmatched of_master of_detail firsts details)) [
        | true ↦ not_matched_are details firsts
        | false ↦ ap (λ l. master ∷ l) (not_matched_are details firsts)
      ])
