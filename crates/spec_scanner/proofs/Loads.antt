-- How many definitions and uses of labels a stage's text can add.
use Rattle.std.proofs.Common.{◌≡◌, ℕ, zero, suc, ◌+◌, ◌*◌, ◌<◌, ◌≤◌, ◌==◌, Bool, true, false, if◌then◌else◌, List, [], ◌∷◌, ◌++◌, length, take, drop, refl, ap, arith, Some, None, Option, option_map, slice_get, slice_set, length-drop, length-take}
use Rattle.std.specs.List.{position, prefix_len}
use Rattle.std.specs.Option.{option_map_or}
use Rattle.std.proofs.lemmas.List.{length-map}
use Rattle.std.proofs.lemmas.List.Quantifiers.{position-Some}
use Rattle.spec_scanner.specs.declared.item.Item.{Item}
use Rattle.spec_scanner.specs.Additions.{load}
use Rattle.spec_scanner.specs.Labels.{Label, bad_label, define, good_label, labelled, number_of, read_text, refer, used, uses_of}
use Rattle.spec_scanner.specs.Pieces.{bytes_of, colon_of, end_of, first_word, from_word, is_blank, is_good_label, is_no_blank, is_plain_colon, is_starred, place_of}
use Rattle.spec_scanner.specs.Stretches.{without_front}

-- a place of a first item is within the list
pub position_within : {X : Type 0} (p : X → Bool) (xs : List X) (at : ℕ) → position p xs ≡ Some at → at < length xs
position_within p [] at found = cc
position_within p (x ∷ xs) at found = (position-Some p (x ∷ xs) at x found).0

-- there are no more labels than definitions and uses
pub labels_in_load : (labels : List Label) → length labels ≤ load labels
labels_in_load [] = omega arith
labels_in_load (label ∷ labels) = omega (arith, labels_in_load labels)

-- nor more uses of one label
pub uses_in_load : (labels : List Label) (number : ℕ) → uses_of labels number ≤ load labels
uses_in_load [] number = omega arith
uses_in_load (label ∷ labels) zero = omega arith
uses_in_load (label ∷ labels) (suc number) = omega (arith, uses_in_load labels number)

load_append : (labels more : List Label) → load (labels ++ more) ≡ load labels + load more
load_append [] more = omega arith
load_append (label ∷ labels) more = omega (arith, load_append labels more)

-- a use adds one at most
load_used : (labels : List Label) (number : ℕ) → load (used labels number) ≤ suc (load labels)
load_used labels number = by_found labels number (slice_get labels number) refl where
  written : (labels : List Label) (number : ℕ) (label : Label) → slice_get labels number ≡ Some label
      → load (slice_set labels number (record label { uses = suc label.uses })) ≡ suc (load labels)
  written [] number label at = cc
  written (first ∷ labels) zero label at = let is : first ≡ label = cc in omega (arith, ap (λ (l : Label). l.uses) is)
  written (first ∷ labels) (suc number) label at = omega (arith, written labels number label at)

  by_found : (labels : List Label) (number : ℕ) (at : Option Label) → slice_get labels number ≡ at
      → load (option_map_or (λ (label : Label). slice_set labels number (record label { uses = suc label.uses })) at labels) ≤ suc (load labels)
  by_found labels number None is = omega arith
  by_found labels number (Some label) is = omega (arith, written labels number label is)

refer_load : (labels : List Label) (name : List ℕ) (place end : ℕ) (number : Option ℕ) → load (refer labels name place end number).labels ≤ suc (load labels)
refer_load labels name place end None = omega arith
refer_load labels name place end (Some number) = load_used labels number

define_load : (labels : List Label) (name : List ℕ) (place : ℕ) (items : List Item) (number : Option ℕ) → load (define labels name place items number).labels ≤ suc (load labels)
define_load labels name place items (Some number) = omega arith
define_load labels name place items None = omega (arith, load_append labels (record { name = name; uses = 0 } ∷ []))

good_load : (labels : List Label) (name : List ℕ) (place end : ℕ) (items : List Item) → load (good_label labels name place end items).labels ≤ suc (load labels)
good_load labels name place end [] = refer_load labels name place end (number_of labels name)
good_load labels name place end (item ∷ items) = define_load labels name place (item ∷ items) (number_of labels name)

bad_load : (labels : List Label) (place end : ℕ) (items : List Item) → load (bad_label labels place end items).labels ≤ load labels
bad_load labels place end [] = omega arith
bad_load labels place end (item ∷ items) = omega arith

-- a good label isn't empty
good_some : (name : List ℕ) → is_good_label name ≡ true → 0 < length name
good_some [] good = cc
good_some (byte ∷ bytes) good = omega arith

labelled_load : (labels : List Label) (name : List ℕ) (place end size : ℕ) (items : List Item) → (0 < length name → 2 ≤ size)
    → 2 * load (labelled labels name place end items).labels ≤ 2 * load labels + size
labelled_load labels name place end size items two =
    (elim (is_good_label name) as (λ b. is_good_label name ≡ b → 2 * load (if b then good_label labels name place end items else bad_label labels place end items).labels ≤ 2 * load labels + size) [
      | true ↦ λ good. omega (arith, good_load labels name place end items, two (good_some name good))
      | false ↦ λ bad. omega (arith, bad_load labels place end items)
    ]) refl

module _ (items : List Item) (colon : ℕ) where
  -- a label's colon is one of the items
  pub colon_within : colon_of items ≡ Some colon → colon < length items
  colon_within =
      (elim (is_starred (first_word items)) as (λ b. (if b then None else option_map (λ at. prefix_len is_blank items + at) (position is_plain_colon (first_word items))) ≡ Some colon → colon < length items) [
        | true ↦ λ is. cc
        | false ↦ λ is. by_place (position is_plain_colon (first_word items)) refl is
      ]) where
        by_place : (at : Option ℕ) → position is_plain_colon (first_word items) ≡ at → option_map (λ at. prefix_len is_blank items + at) at ≡ Some colon → colon < length items
        by_place None found is = cc
        by_place (Some at) found is =
            let sum : prefix_len is_blank items + at ≡ colon = cc in
            let word = position_within is_plain_colon (first_word items) at found in
            omega (arith, length-take (prefix_len is_no_blank (from_word items)) (from_word items), length-drop (prefix_len is_blank items) items)

text_load : (labels : List Label) (item : Item) (items : List Item) (colon : Option ℕ) → colon_of (item ∷ items) ≡ colon
    → 2 * load (read_text labels (item ∷ items) colon).labels ≤ 2 * load labels + length (item ∷ items)
text_load labels item items None is = omega arith
text_load labels item items (Some colon) is =
    let all = item ∷ items in
    labelled_load labels (bytes_of (take colon all)) (place_of all 0) (end_of all 0) (length all) (without_front (drop (suc colon) all))
    (λ some. omega (arith, colon_within all colon is, length-map (take colon all) (λ (i : Item). i.byte), length-take colon all, some))

-- a stage's text adds one at most, and has then two items at least
pub some_text_load : (labels : List Label) (items : List Item) → (length items == 0) ≡ false
    → 2 * load (read_text labels items (colon_of items)).labels ≤ 2 * load labels + length items
some_text_load labels [] is = cc
some_text_load labels (item ∷ items) is = text_load labels item items (colon_of (item ∷ items)) refl
