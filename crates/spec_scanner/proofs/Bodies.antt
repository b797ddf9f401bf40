-- What was read of a body, item by item.
use Rattle.std.proofs.Common.{take, length-drop, nat_lt, if◌then◌else◌, ◌≡◌, ◌≢◌, ℕ, ◌+◌, ◌-◌, ◌<◌, ◌==◌, Bool, true, false, List, [], ◌∷◌, ◌++◌, length, drop, refl, sym, ap, ◌∙◌, subst, arith, Option, Some, None, inl, inr, length-append, MatchOption, eq-eqb}
use borrow.Author.Tests.{eqb-true}
use Rattle.std.specs.List.{slice_get}
use Rattle.std.specs.Option.{option_map}
use Rattle.std.proofs.lemmas.Bool.Decides.{nat_tests}
use Rattle.std.proofs.lemmas.List.{append-nil, append_assoc, drop_at, drop-drop, take_rest}
use Rattle.spec_scanner.specs.declared.body.Front.{Front}
use Rattle.spec_scanner.specs.declared.item.Item.{Item}
use Rattle.spec_scanner.specs.declared.item.Reading.{Reading}
use Rattle.spec_scanner.specs.declared.item.Reading.TheVariants.{Plain, Literal, Separator, End}
use Rattle.spec_scanner.specs.declared.signs.Signs.{Signs}
use Rattle.spec_scanner.specs.Body.{IsAlone, IsBody, IsItem, IsTail, Spells, is_sign, parts}
use Rattle.spec_scanner.specs.Fronts.{front, front_of}

-- a character is the byte where the test says so
pub sign_is : (sign : Option ℕ) (byte : ℕ) → is_sign sign byte ≡ true → sign ≡ Some byte
sign_is None byte is = cc
sign_is (Some other) byte is = ap Some (eqb-true other byte is)

sign_isnt : (sign : Option ℕ) (byte : ℕ) → is_sign sign byte ≡ false → sign ≢ Some byte
sign_isnt None byte is same = cc
sign_isnt (Some other) byte is same =
    let equal : other ≡ byte = cc in
    let yes = eq-eqb other byte equal in
    cc

-- the item that a front gives at a place
abbrev pub item_at : ℕ → Front → Item
item_at at front = record { byte = front.byte; reading = front.reading; place = at; after = at + front.size }

-- the bytes begin with the front's spelling
pub record IsRead (signs : Signs) (text : List ℕ) (front : Front) (rest : List ℕ) : Type 0 where
  pub spelling : List ℕ
  pub text_is : text ≡ spelling ++ rest
  pub spells : Spells signs front.reading front.byte spelling
  pub size_is : front.size ≡ length spelling
  pub alone : IsAlone front.reading front.byte rest

item_read : (signs : Signs) (at : ℕ) (text rest : List ℕ) (front : Front) → IsRead signs text front rest → IsItem signs at text (item_at at front) (drop ((at + front.size) - at) text)
item_read signs at text rest front read =
    let left : drop ((at + front.size) - at) text ≡ rest = rw read.text_is (drop_at read.spelling rest ((at + front.size) - at) (omega (arith, read.size_is))) in
    rw left (record {
      spelling = read.spelling;
      text_is = read.text_is;
      spells = read.spells;
      place_is = refl;
      after_is = ap (λ n. at + n) read.size_is;
      alone = read.alone;
    })

-- what a front of the text tells
abbrev pub Tells : Signs → List ℕ → Option Front → Type 0
Tells signs text found = MatchOption found (IsTail signs text) (λ front. (rest : List ℕ) × IsRead signs text front rest)

-- an escape character at the front
escaped : (signs : Signs) (byte : ℕ) (rest : List ℕ) → signs.escape ≡ Some byte → Tells signs (byte ∷ rest) (option_map (λ escaped. front escaped Literal 2) (slice_get rest 0))
escaped signs byte [] is = is
escaped signs byte (next ∷ rest) is = (rest, record { spelling = byte ∷ (next ∷ []); text_is = refl; spells = inl (byte, is, refl); size_is = refl; alone = tt })

-- a byte that parts, twice
doubled : (signs : Signs) (byte : ℕ) (rest : List ℕ) → parts signs byte ≡ true → slice_get rest 0 ≡ Some byte → Tells signs (byte ∷ rest) (Some (front byte Literal 2))
doubled signs byte [] is twice = cc
doubled signs byte (next ∷ rest) is twice =
    let same : next ≡ byte = cc in
    rw same (rest, record { spelling = byte ∷ (byte ∷ []); text_is = refl; spells = inr (is, refl); size_is = refl; alone = tt })

module _ (signs : Signs) (byte : ℕ) (rest : List ℕ) where
  -- a byte that parts, once
  alone : parts signs byte ≡ true → slice_get rest 0 ≢ Some byte → (is : Bool) → (signs.separator == byte) ≡ is → Tells signs (byte ∷ rest) (Some (if is then front byte Separator 1 else front byte End 1))
  alone is once true separates = (rest, record { spelling = byte ∷ []; text_is = refl; spells = (refl, eqb-true signs.separator byte separates); size_is = refl; alone = once })
  alone is once false other = (rest, record { spelling = byte ∷ []; text_is = refl; spells = (refl, sign_is signs.end byte (rw other at is)); size_is = refl; alone = once })

  parting : parts signs byte ≡ true → (twice : Bool) → is_sign (slice_get rest 0) byte ≡ twice
      → Tells signs (byte ∷ rest) (Some (if twice then front byte Literal 2 else if signs.separator == byte then front byte Separator 1 else front byte End 1))
  parting is true twice = doubled signs byte rest is (sign_is (slice_get rest 0) byte twice)
  parting is false once = alone is (λ twice. sign_isnt (slice_get rest 0) byte once twice) (signs.separator == byte) refl

  unescaped : is_sign signs.escape byte ≡ false → (is : Bool) → parts signs byte ≡ is
      → Tells signs (byte ∷ rest) (if is then Some (if is_sign (slice_get rest 0) byte then front byte Literal 2 else if signs.separator == byte then front byte Separator 1 else front byte End 1) else Some (front byte Plain 1))
  unescaped other true is = parting is (is_sign (slice_get rest 0) byte) refl
  unescaped other false is = (rest, record { spelling = byte ∷ []; text_is = refl; spells = (refl, is, other); size_is = refl; alone = tt })

  by_escape : (is : Bool) → is_sign signs.escape byte ≡ is → Tells signs (byte ∷ rest) (
      if is then option_map (λ escaped. front escaped Literal 2) (slice_get rest 0)
      else if parts signs byte then Some (if is_sign (slice_get rest 0) byte then front byte Literal 2 else if signs.separator == byte then front byte Separator 1 else front byte End 1)
      else Some (front byte Plain 1))
  by_escape true is = escaped signs byte rest (sign_is signs.escape byte is)
  by_escape false other = unescaped other (parts signs byte) refl

  -- the front of a text is read as it is spelled
  pub front_tells : Tells signs (byte ∷ rest) (front_of signs byte (slice_get rest 0))
  front_tells = by_escape (is_sign signs.escape byte) refl

-- the items lead from a place of a body to another: what follows there follows them
abbrev pub Lead : Signs → ℕ → List ℕ → List Item → ℕ → List ℕ → Type 0
Lead signs start whole items at text = (more : List Item) (tail : List ℕ) → IsBody signs at text more tail → IsBody signs start whole (items ++ more) tail

pub lead_more : (signs : Signs) (start at : ℕ) (whole text rest : List ℕ) (items : List Item) (item : Item) → Lead signs start whole items at text → IsItem signs at text item rest
    → Lead signs start whole (items ++ item ∷ []) item.after rest
lead_more signs start at whole text rest items item lead is more tail body = rw append_assoc (lead (item ∷ more) tail (rest, is, body))

pub lead_all : (signs : Signs) (start at : ℕ) (whole text : List ℕ) (items : List Item) → Lead signs start whole items at text → IsTail signs text → IsBody signs start whole items text
lead_all signs start at whole text items lead tail = rw append-nil at (lead [] text (refl, tail))

-- what is read at a place of a text is an item there
pub item_of : (signs : Signs) (at : ℕ) (text rest : List ℕ) (byte : ℕ) (next : Option ℕ) (found : Front) (size : ℕ) → text ≡ byte ∷ rest → next ≡ slice_get rest 0
    → Some found ≡ front_of signs byte next → size ≡ found.size
    → IsItem signs at text (record { byte = found.byte; reading = found.reading; place = at; after = at + size }) (drop ((at + size) - at) text)
item_of signs at text rest byte next found size text_is next_is is size_is =
    let told : Tells signs (byte ∷ rest) (Some found) = subst (Tells signs (byte ∷ rest)) (ap (front_of signs byte) (sym next_is) ∙ sym is) (front_tells signs byte rest) in
    rw (text_is, size_is) (item_read signs at (byte ∷ rest) told.0 found told.1)

-- a spelling has a byte
pub spelled : (signs : Signs) (reading : Reading) (byte : ℕ) (spelling : List ℕ) → Spells signs reading byte spelling → 0 < length spelling
spelled signs Plain byte spelling is = omega (arith, ap length is.0)
spelled signs Literal byte spelling (inl is) = omega (arith, ap length is.2)
spelled signs Literal byte spelling (inr is) = omega (arith, ap length is.1)
spelled signs Separator byte spelling is = omega (arith, ap length is.0)
spelled signs End byte spelling is = omega (arith, ap length is.0)

-- the item ends after the place where it begins, and within the text
pub after_more : (signs : Signs) (at : ℕ) (text rest : List ℕ) (item : Item) → IsItem signs at text item rest → at < item.after
after_more signs at text rest item is = omega (arith, is.after_is, spelled signs item.reading item.byte is.spelling is.spells)

pub after_within : (signs : Signs) (at : ℕ) (text rest : List ℕ) (item : Item) → IsItem signs at text item rest → item.after + length rest ≡ at + length text
after_within signs at text rest item is = omega (arith, is.after_is, ap length is.text_is, length-append is.spelling rest)

-- the item at a place of a text that goes on with what was cut off there
pub item_there : (signs : Signs) (at : ℕ) (text : List ℕ) (item : Item) → IsItem signs at (take (length text - at) (drop at text)) item (drop (item.after - at) (take (length text - at) (drop at text)))
    → IsItem signs at (drop at text) item (drop item.after text)
item_there signs at text item is =
    let whole = rw (take_rest text at) at is in
    let more = after_more signs at (drop at text) (drop (item.after - at) (drop at text)) item whole in
    let place : at + (item.after - at) ≡ item.after = omega arith in
    subst (IsItem signs at (drop at text) item) (drop-drop (item.after - at) at text ∙ ap (λ n. drop n text) place) whole

-- whether a text is left
pub left_is : (text : List ℕ) (at : ℕ) → nat_lt at (length text) ≡ nat_lt 0 (length (drop at text))
left_is text at = grind (arith, nat_tests, length-drop at text)
