-- Which of two records goes first.
use Rattle.std.proofs.Common.{◌≡◌, ◌≢◌, inl, inr, ℕ, ◌<◌, ◌≤◌, ltb, Bool, true, false, ◌&&◌, ◌||◌, not, List, refl, sym, ◌∙◌, ap, subst, arith, Option, Some, None, slice_get}
use Rattle.std.proofs.lemmas.Bool.Decides.{nat_tests}
use Rattle.pipe_model.specs.Keys.{is_less, is_same}
use Rattle.pipe_model.proofs.Truths.{both, either, neither, not_second, or_second}
use Rattle.collate_stage.specs.declared.lane.Lane.{Lane}
use Rattle.collate_stage.specs.Queues.{leads, lane_leads, goes_before, lane_sees}
use Rattle.collate_stage.proofs.KeyOrder.{same_is, not_less_same, same_where_not_less, less_on}

-- Of two keys

not_below : (i j : ℕ) → j ≤ i → ltb i j ≡ false
not_below i j high = grind (arith, nat_tests)

below_on : (i j k : ℕ) → ltb i j ≡ true → ltb j k ≡ true → ltb i k ≡ true
below_on i j k low high = grind (arith, nat_tests)

leads_not_itself : (key : List ℕ) (i : ℕ) → leads key i key i ≡ false
leads_not_itself key i = ap (λ b. b || (is_same key key && ltb i i)) (not_less_same key) ∙ not_second (is_same key key) (ltb i i) (not_below i i (omega arith))

-- at another input the less key decides, unless that input is a higher one
pub leads_by_less : (key other : List ℕ) (i j : ℕ) → j ≤ i → leads key i other j ≡ is_less key other
leads_by_less key other i j high = ap (λ b. is_less key other || (is_same key other && b)) (not_below i j high) ∙ none_more (is_less key other) (is_same key other)
  where
    none_more : (a b : Bool) → (a || (b && false)) ≡ a
    none_more true b = refl
    none_more false true = refl
    none_more false false = refl

-- where one doesn't go first the other does
pub leads_other : (key other : List ℕ) (i j : ℕ) → i ≢ j → leads key i other j ≡ false → leads other j key i ≡ true
leads_other key other i j apart not_first = by (is_less other key) refl
  where
    of_same : is_less other key ≡ false → (is_same other key && ltb j i) ≡ true
    of_same not_less =
        let r = neither (is_less key other) (is_same key other && ltb i j) not_first in
        let back = same_where_not_less other key not_less r.0 in
        let on = same_where_not_less key other r.0 not_less in
        let no : ltb i j ≡ false = sym (ap (λ b. b && ltb i j) on) ∙ r.1 in
        ap (λ b. b && ltb j i) back ∙ grind (arith, nat_tests)

    by : (b : Bool) → is_less other key ≡ b → leads other j key i ≡ true
    by true is = ap (λ b. b || (is_same other key && ltb j i)) is
    by false is = ap (λ b. b || (is_same other key && ltb j i)) is ∙ of_same is

-- what goes before one goes before all that go after that one
leads_on : (a b c : List ℕ) (i j k : ℕ) → leads a i b j ≡ true → leads b j c k ≡ true → leads a i c k ≡ true
leads_on a b c i j k first next = elim (either (is_less a b) (is_same a b && ltb i j) first) [
  | inl less ↦ by_less less
  | inr same ↦ (let r = both (is_same a b) (ltb i j) same in by_number r.0 r.1)
]
  where
    less_is : is_less a c ≡ true → leads a i c k ≡ true
    less_is less = ap (λ t. t || (is_same a c && ltb i k)) less

    by_less : is_less a b ≡ true → leads a i c k ≡ true
    by_less less = elim (either (is_less b c) (is_same b c && ltb j k) next) [
      | inl less' ↦ less_is (less_on a b c less less')
      | inr same ↦ less_is (subst (λ z. is_less a z ≡ true) (same_is b c (both (is_same b c) (ltb j k) same).0) less)
    ]

    by_number : is_same a b ≡ true → ltb i j ≡ true → leads a i c k ≡ true
    by_number same low = elim (either (is_less b c) (is_same b c && ltb j k) next) [
      | inl less ↦ less_is (subst (λ z. is_less z c ≡ true) (sym (same_is a b same)) less)
      | inr same' ↦ (let r = both (is_same b c) (ltb j k) same' in
          or_second (is_less a c) (is_same a c && ltb i k)
          (ap (λ t. t && ltb i k) (subst (λ z. is_same a z ≡ true) (same_is b c r.0) same) ∙ below_on i j k low r.1))
    ]

-- of two only one goes first
leads_not_back : (key other : List ℕ) (i j : ℕ) → leads key i other j ≡ true → leads other j key i ≡ false
leads_not_back key other i j first = by (leads other j key i) refl
  where
    by : (b : Bool) → leads other j key i ≡ b → leads other j key i ≡ false
    by true is = absurd (let e : false ≡ true = sym (leads_not_itself key i) ∙ leads_on key other key i j i first is in cc)
    by false is = is

-- of a lower input the record goes first unless the key of the other is less
pub leads_by_not_less : (key other : List ℕ) (i j : ℕ) → i < j → leads key i other j ≡ not (is_less other key)
leads_by_not_less key other i j low = by (is_less other key) refl
  where
    back : leads other j key i ≡ is_less other key
    back = leads_by_less other key j i (omega (arith, low))

    by : (b : Bool) → is_less other key ≡ b → leads key i other j ≡ not (is_less other key)
    by true is = leads_not_back other key j i (back ∙ is) ∙ sym (ap not is)
    by false is = leads_other other key j i (λ e. absurd (omega (arith, low, e))) (back ∙ is) ∙ sym (ap not is)

-- Of two inputs

pub goes_before_is : (lanes : List Lane) (i j : ℕ) (lane rival : Lane) → slice_get lanes i ≡ Some lane → slice_get lanes j ≡ Some rival → goes_before lanes i j ≡ leads lane.key.items i rival.key.items j
goes_before_is lanes i j lane rival here there = ap (λ o. lane_leads o i (slice_get lanes j) j) here ∙ ap (λ o. lane_leads (Some lane) i o j) there

pub lane_not_itself : (lane : Option Lane) (i : ℕ) → lane_leads lane i lane i ≡ false
lane_not_itself None i = refl
lane_not_itself (Some lane) i = leads_not_itself lane.key.items i

pub lane_leads_on : (a b c : Option Lane) (i j k : ℕ) → lane_leads a i b j ≡ true → lane_leads b j c k ≡ true → lane_leads a i c k ≡ true
lane_leads_on None b c i j k first next = cc
lane_leads_on (Some a) None c i j k first next = cc
lane_leads_on (Some a) (Some b) None i j k first next = cc
lane_leads_on (Some a) (Some b) (Some c) i j k first next = leads_on a.key.items b.key.items c.key.items i j k first next

pub lane_leads_other : (a b : Option Lane) (i j : ℕ) → i ≢ j → lane_sees a ≡ true → lane_sees b ≡ true → lane_leads a i b j ≡ false → lane_leads b j a i ≡ true
lane_leads_other None b i j apart here there not_first = cc
lane_leads_other (Some a) None i j apart here there not_first = cc
lane_leads_other (Some a) (Some b) i j apart here there not_first = leads_other a.key.items b.key.items i j apart not_first

pub lane_not_back : (a b : Option Lane) (i j : ℕ) → lane_leads a i b j ≡ true → lane_leads b j a i ≡ false
lane_not_back None b i j first = cc
lane_not_back (Some a) None i j first = cc
lane_not_back (Some a) (Some b) i j first = leads_not_back a.key.items b.key.items i j first
