-- A body is spelled in one way, where its characters are apart.
use Rattle.std.proofs.Common.{if◌then◌else◌, ◌≡◌, ◌≢◌, ℕ, ◌+◌, ◌==◌, Bool, true, false, List, [], ◌∷◌, ◌++◌, length, drop, refl, sym, ap, ◌∙◌, subst, Option, Some, None, inl, inr, ne_eqb, eq-eqb}
use borrow.Author.Tests.{eqb-true}
use Rattle.std.specs.List.{slice_get}
use Rattle.std.proofs.lemmas.List.{drop_at}
use Rattle.spec_scanner.specs.declared.body.Front.{Front}
use Rattle.spec_scanner.specs.declared.item.Item.{Item}
use Rattle.spec_scanner.specs.declared.item.Reading.{Reading}
use Rattle.spec_scanner.specs.declared.item.Reading.TheVariants.{Plain, Literal, Separator, End}
use Rattle.spec_scanner.specs.declared.signs.Signs.{Signs}
use Rattle.spec_scanner.specs.Body.{IsAlone, IsBody, IsItem, IsTail, Spells, is_sign, parts}
use Rattle.spec_scanner.specs.Fronts.{front, front_of}
use Rattle.spec_scanner.proofs.Bodies.{sign_is}

-- the characters in force are different ones
pub record AreApart (signs : Signs) : Type 0 where
  pub end_apart : signs.end ≢ Some signs.separator
  pub escape_apart : signs.escape ≢ Some signs.separator
  pub both_apart : (byte : ℕ) → signs.end ≡ Some byte → signs.escape ≢ Some byte

-- a test of a character that isn't the byte fails
not_sign : (sign : Option ℕ) (byte : ℕ) → sign ≢ Some byte → is_sign sign byte ≡ false
not_sign None byte other = refl
not_sign (Some sign) byte other = ne_eqb sign byte (λ same. other (ap Some same))

-- a test of a character that is the byte passes
yes_sign : (sign : Option ℕ) (byte : ℕ) → sign ≡ Some byte → is_sign sign byte ≡ true
yes_sign sign byte is = rw is (eq-eqb byte byte refl)

-- what is made of equal parts is equal
by_parts : (make : ℕ → Reading → ℕ → ℕ → Item) (a b : ℕ) (c d : Reading) (e f g h : ℕ) → a ≡ b → c ≡ d → e ≡ f → g ≡ h → make a c e g ≡ make b d f h
by_parts make a b c d e f g h first second third fourth = cc

module _ (signs : Signs) (apart : AreApart signs) where
  -- a byte that parts is no escape character
  no_escape : (byte : ℕ) → parts signs byte ≡ true → signs.escape ≢ Some byte
  no_escape byte is = by (signs.separator == byte) refl where
    by : (separates : Bool) → (signs.separator == byte) ≡ separates → signs.escape ≢ Some byte
    by true separates = λ escapes. apart.escape_apart (escapes ∙ ap Some (sym (eqb-true signs.separator byte separates)))
    by false other = apart.both_apart byte (sign_is signs.end byte (rw other at is))

  -- what is at the front of a text that begins with a spelling
  module _ (byte : ℕ) (rest : List ℕ) where
    plain_front : parts signs byte ≡ false → is_sign signs.escape byte ≡ false → front_of signs byte (slice_get rest 0) ≡ Some (front byte Plain 1)
    plain_front other none = rw (none, other) refl

    escaped_front : (escape : ℕ) → signs.escape ≡ Some escape → front_of signs escape (slice_get (byte ∷ rest) 0) ≡ Some (front byte Literal 2)
    escaped_front escape is = rw (yes_sign signs.escape escape is) refl

    doubled_front : parts signs byte ≡ true → front_of signs byte (slice_get (byte ∷ rest) 0) ≡ Some (front byte Literal 2)
    doubled_front is = rw (not_sign signs.escape byte (no_escape byte is), is, eq-eqb byte byte refl) refl

    alone_front : parts signs byte ≡ true → slice_get rest 0 ≢ Some byte → front_of signs byte (slice_get rest 0) ≡ Some (if signs.separator == byte then front byte Separator 1 else front byte End 1)
    alone_front is once = rw (not_sign signs.escape byte (no_escape byte is), is, not_sign (slice_get rest 0) byte once) refl

    separator_front : signs.separator ≡ byte → slice_get rest 0 ≢ Some byte → front_of signs byte (slice_get rest 0) ≡ Some (front byte Separator 1)
    separator_front is once =
        let separates : (signs.separator == byte) ≡ true = eq-eqb signs.separator byte is in
        let parted : parts signs byte ≡ true = rw separates refl in
        alone_front parted once ∙ ap (λ (b : Bool). Some (if b then front byte Separator 1 else front byte End 1)) separates

    end_front : signs.end ≡ Some byte → slice_get rest 0 ≢ Some byte → front_of signs byte (slice_get rest 0) ≡ Some (front byte End 1)
    end_front is once =
        let other : (signs.separator == byte) ≡ false = ne_eqb signs.separator byte (λ same. apart.end_apart (is ∙ ap Some (sym same))) in
        let parted : parts signs byte ≡ true = rw other (yes_sign signs.end byte is) in
        alone_front parted once ∙ ap (λ (b : Bool). Some (if b then front byte Separator 1 else front byte End 1)) other

  -- what is at the front of a text
  record IsAtFront (text : List ℕ) (found : Front) : Type 0 where
    pub first : ℕ
    pub more : List ℕ
    pub text_is : text ≡ first ∷ more
    pub front_is : front_of signs first (slice_get more 0) ≡ Some found

  spelled_front : (reading : Reading) (byte : ℕ) (spelling rest : List ℕ) → Spells signs reading byte spelling → IsAlone reading byte rest → IsAtFront (spelling ++ rest) (front byte reading (length spelling))
  spelled_front Plain byte spelling rest spells alone = rw spells.0 (record { first = byte; more = rest; text_is = refl; front_is = plain_front byte rest spells.1 spells.2 })
  spelled_front Literal byte spelling rest (inl spells) alone = rw spells.2 (record { first = spells.0; more = byte ∷ rest; text_is = refl; front_is = escaped_front byte rest spells.0 spells.1 })
  spelled_front Literal byte spelling rest (inr spells) alone = rw spells.1 (record { first = byte; more = byte ∷ rest; text_is = refl; front_is = doubled_front byte rest spells.0 })
  spelled_front Separator byte spelling rest spells alone = rw spells.0 (record { first = byte; more = rest; text_is = refl; front_is = separator_front byte rest spells.1 alone })
  spelled_front End byte spelling rest spells alone = rw spells.0 (record { first = byte; more = rest; text_is = refl; front_is = end_front byte rest spells.1 alone })

  item_front : (at : ℕ) (text rest : List ℕ) (item : Item) (is : IsItem signs at text item rest) → IsAtFront text (front item.byte item.reading (length is.spelling))
  item_front at text rest item is = rw is.text_is (spelled_front item.reading item.byte is.spelling rest is.spells is.alone)

  one_front : (text : List ℕ) (a b : Front) → IsAtFront text a → IsAtFront text b → a ≡ b
  one_front text a b x y =
      let both : x.first ∷ x.more ≡ y.first ∷ y.more = sym x.text_is ∙ y.text_is in
      let firsts : x.first ≡ y.first = cc in
      let rests : x.more ≡ y.more = cc in
      let same : Some a ≡ Some b = sym x.front_is ∙ ap (λ (byte : ℕ). front_of signs byte (slice_get x.more 0)) firsts ∙ ap (λ (bytes : List ℕ). front_of signs y.first (slice_get bytes 0)) rests ∙ y.front_is in
      cc

  module _ (at : ℕ) (text : List ℕ) (a b : Item) (a_rest b_rest : List ℕ) (x : IsItem signs at text a a_rest) (y : IsItem signs at text b b_rest) where
    same_front : front a.byte a.reading (length x.spelling) ≡ front b.byte b.reading (length y.spelling)
    same_front = one_front text _ _ (item_front at text a_rest a x) (item_front at text b_rest b y)

    same_size : length x.spelling ≡ length y.spelling
    same_size = ap (λ (f : Front). f.size) same_front

    one_item : a ≡ b
    one_item =
        let bytes : a.byte ≡ b.byte = ap (λ (f : Front). f.byte) same_front in
        let readings : a.reading ≡ b.reading = ap (λ (f : Front). f.reading) same_front in
        let places : a.place ≡ b.place = x.place_is ∙ sym y.place_is in
        let afters : a.after ≡ b.after = x.after_is ∙ ap (λ (n : ℕ). at + n) same_size ∙ sym y.after_is in
        by_parts (λ byte reading place after. record { byte = byte; reading = reading; place = place; after = after }) a.byte b.byte a.reading b.reading a.place b.place a.after b.after bytes readings places afters

    one_rest : a_rest ≡ b_rest
    one_rest = sym (drop_at x.spelling a_rest (length y.spelling) same_size) ∙ ap (λ (bytes : List ℕ). drop (length y.spelling) bytes) (sym x.text_is ∙ y.text_is) ∙ drop_at y.spelling b_rest (length y.spelling) refl

  -- a tail has no item at its front
  no_item : (at : ℕ) (text rest : List ℕ) (item : Item) → IsTail signs text → ¬ IsItem signs at text item rest
  no_item at [] rest item tail is = by (item_front at [] rest item is) where
    by : IsAtFront [] (front item.byte item.reading (length is.spelling)) → ⊥
    by front = let no = front.text_is in cc
  no_item at (byte ∷ []) rest item tail is = by (item_front at (byte ∷ []) rest item is) where
    by : IsAtFront (byte ∷ []) (front item.byte item.reading (length is.spelling)) → ⊥
    by found =
        let whole = found.text_is in
        let first : found.first ≡ byte = cc in
        let more : found.more ≡ [] = cc in
        let none : front_of signs byte (slice_get [] 0) ≡ None = rw (yes_sign signs.escape byte tail) refl in
        let some = rw (first, more) at found.front_is in
        let no : ◌≡◌ {A = Option Front} None (Some (front item.byte item.reading (length is.spelling))) = sym none ∙ some in
        cc
  no_item at (byte ∷ (next ∷ bytes)) rest item tail is = tail

  -- a text spells one body
  pub one_body : (at : ℕ) (text : List ℕ) (items others : List Item) (tail end : List ℕ) → IsBody signs at text items tail → IsBody signs at text others end → (items ≡ others) × (tail ≡ end)
  one_body at text [] [] tail end first second = (refl, sym first.0 ∙ second.0)
  one_body at text [] (other ∷ others) tail end first second = absurd (no_item at text second.0 other (subst (IsTail signs) (sym first.0) first.1) second.1)
  one_body at text (item ∷ items) [] tail end first second = absurd (no_item at text first.0 item (subst (IsTail signs) (sym second.0) second.1) first.1)
  one_body at text (item ∷ items) (other ∷ others) tail end first second =
      let same = one_item at text item other first.0 second.0 first.1 second.1 in
      let rests = one_rest at text item other first.0 second.0 first.1 second.1 in
      let later = one_body item.after first.0 items others tail end first.2
      (subst (λ (n : ℕ). IsBody signs n first.0 others end) (sym (ap (λ (i : Item). i.after) same)) (subst (λ (bytes : List ℕ). IsBody signs other.after bytes others end) (sym rests) second.2)) in
      let items_same = later.0 in
      (cc, later.1)
