-- A body in which no character that parts stands twice, and that has no escape character, reads as one item for each byte.
use Rattle.std.proofs.Common.{◌≡◌, ◌≢◌, ℕ, suc, ◌==◌, ◌&&◌, Bool, true, false, not, if◌then◌else◌, List, [], ◌∷◌, refl, sym, ap, ◌∙◌, arith, Some, None, slice_get, eq-eqb}
use borrow.Author.Tests.{eqb-true}
use Rattle.pipe_model.proofs.Truths.{both}
use Rattle.spec_scanner.specs.declared.item.Item.{Item}
use Rattle.spec_scanner.specs.declared.item.Reading.{Reading}
use Rattle.spec_scanner.specs.declared.item.Reading.TheVariants.{Plain, Separator, End}
use Rattle.spec_scanner.specs.declared.signs.Signs.{Signs}
use Rattle.spec_scanner.specs.Body.{IsBody, IsItem, is_sign, parts}
use Rattle.spec_scanner.proofs.Bodies.{sign_is}

-- no character that parts is followed by itself
abbrev pub are_lone : Signs → List ℕ → Bool
are_lone signs [] = true
are_lone signs (byte ∷ []) = true
are_lone signs (byte ∷ (next ∷ bytes)) = not (parts signs byte && (next == byte)) && are_lone signs (next ∷ bytes)

abbrev pub reading_of : Signs → ℕ → Reading
reading_of signs byte = if signs.separator == byte then Separator else if is_sign signs.end byte then End else Plain

-- one item for each byte, from a place on
abbrev pub items_from : Signs → ℕ → List ℕ → List Item
items_from signs at [] = []
items_from signs at (byte ∷ bytes) = record { byte = byte; reading = reading_of signs byte; place = at; after = suc at } ∷ items_from signs (suc at) bytes

module _ (signs : Signs) (unescaped : signs.escape ≡ None) where
  module _ (at byte : ℕ) (rest : List ℕ) (lone : parts signs byte ≡ true → slice_get rest 0 ≢ Some byte) where
    abbrev Read : Reading → Type 0
    Read reading = IsItem signs at (byte ∷ rest) (record { byte = byte; reading = reading; place = at; after = suc at }) rest

    by_end : (is : Bool) → is_sign signs.end byte ≡ is → (signs.separator == byte) ≡ false → Read (if is then End else Plain)
    by_end true is other =
        record { spelling = byte ∷ []; text_is = refl; spells = (refl, sign_is signs.end byte is); place_is = refl; after_is = omega arith; alone = lone (rw other is) }
    by_end false is other =
        record { spelling = byte ∷ []; text_is = refl; spells = (refl, rw other is, rw unescaped refl); place_is = refl; after_is = omega arith; alone = tt }

    by_separator : (is : Bool) → (signs.separator == byte) ≡ is → Read (if is then Separator else if is_sign signs.end byte then End else Plain)
    by_separator true is =
        record { spelling = byte ∷ []; text_is = refl; spells = (refl, eqb-true signs.separator byte is); place_is = refl; after_is = omega arith; alone = lone (rw is refl) }
    by_separator false is = by_end (is_sign signs.end byte) refl is

    item_read : Read (reading_of signs byte)
    item_read = by_separator (signs.separator == byte) refl

  pub lone_body : (at : ℕ) (text : List ℕ) → are_lone signs text ≡ true → IsBody signs at text (items_from signs at text) []
  lone_body at [] lone = (refl, tt)
  lone_body at (byte ∷ []) lone = ([], item_read at byte [] (λ parts same. cc), (refl, tt))
  lone_body at (byte ∷ (next ∷ bytes)) lone =
      let apart = both (not (parts signs byte && (next == byte))) (are_lone signs (next ∷ bytes)) lone in
      (next ∷ bytes, item_read at byte (next ∷ bytes) (twice apart.0), lone_body (suc at) (next ∷ bytes) apart.1)
    where
      twice : not (parts signs byte && (next == byte)) ≡ true → parts signs byte ≡ true → Some next ≢ Some byte
      twice apart is same =
          let equal : next ≡ byte = cc in
          let pair : (parts signs byte && (next == byte)) ≡ true = rw is (eq-eqb next byte equal) in
          let no : not true ≡ true = ap not (sym pair) ∙ apart in
          cc
