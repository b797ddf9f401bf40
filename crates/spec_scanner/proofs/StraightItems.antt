-- The items of parts that are joined by separators.
use Rattle.std.proofs.Common.{◌≡◌, ◌≢◌, ℕ, suc, ◌+◌, ◌<◌, List, [], ◌∷◌, ◌++◌, length, refl, sym, ap, ap₂, arith, subst, add-zero, eq-eqb, ne_eqb, inl, inr, Some, slice_get}
use Rattle.std.specs.List.{onto_first, slice_split}
use Rattle.std.specs.Prelude.{⊤}
use Rattle.std.proofs.lemmas.Bool.{cases_eq}
use Rattle.spec_scanner.specs.declared.item.Item.{Item}
use Rattle.spec_scanner.specs.declared.item.Reading.TheVariants.{Plain, Separator}
use Rattle.spec_scanner.specs.Body.{IsBody, parts}
use Rattle.spec_scanner.specs.Options.{no_signs}
use Rattle.spec_scanner.specs.Straight.{is_separator}

-- the byte isn't among these
abbrev pub Free : ℕ → List ℕ → Type 0
Free byte [] = ⊤
Free byte (b ∷ bytes) = (b ≢ byte) × Free byte bytes

-- none of the parts has a separator
abbrev pub AreBarless : List (List ℕ) → Type 0
AreBarless [] = ⊤
AreBarless (part ∷ parts) = Free 124 part × AreBarless parts

-- none of the parts is empty
abbrev pub AreFilled : List (List ℕ) → Type 0
AreFilled [] = ⊤
AreFilled (part ∷ parts) = (0 < length part) × AreFilled parts

-- these parts, each after a separator
abbrev pub barred : List (List ℕ) → List ℕ
barred [] = []
barred (part ∷ parts) = 124 ∷ (part ++ barred parts)

-- a text is its first part and the others, each after a separator
pub record Parted (text : List ℕ) : Type 0 where
  pub first : List ℕ
  pub rest : List (List ℕ)
  pub cut : slice_split is_separator text ≡ first ∷ rest
  pub joined : text ≡ first ++ barred rest
  pub barless : AreBarless (first ∷ rest)

pub parted : (text : List ℕ) → Parted text
parted [] = record { first = []; rest = []; cut = refl; joined = refl; barless = (tt, tt) }
parted (byte ∷ bytes) =
    let later = parted bytes in
    elim (cases_eq byte 124) [
      | inl is ↦ record {
        first = [];
        rest = later.first ∷ later.rest;
        cut = rw (eq-eqb byte 124 is) (ap (λ parts. [] ∷ parts) later.cut);
        joined = ap₂ (λ b more. b ∷ more) is later.joined;
        barless = (tt, later.barless);
      }
      | inr other ↦ record {
        first = byte ∷ later.first;
        rest = later.rest;
        cut = rw (ne_eqb byte 124 other) (ap (onto_first byte) later.cut);
        joined = ap (λ more. byte ∷ more) later.joined;
        barless = ((other, later.barless.0), later.barless.1);
      }
    ]

-- bytes that stand for themselves, from a place on
abbrev pub plain_from : ℕ → List ℕ → List Item
plain_from at [] = []
plain_from at (byte ∷ bytes) = record { byte = byte; reading = Plain; place = at; after = suc at } ∷ plain_from (suc at) bytes

-- the separator at a place
abbrev pub bar_at : ℕ → Item
bar_at at = record { byte = 124; reading = Separator; place = at; after = suc at }

-- the items of parts, each after a separator, from a place on
abbrev pub barred_from : ℕ → List (List ℕ) → List Item
barred_from at [] = []
barred_from at (part ∷ parts) = bar_at at ∷ (plain_from (suc at) part ++ barred_from (suc at + length part) parts)

-- plain items, and what follows
body_plain : (at : ℕ) (bytes more : List ℕ) (items : List Item) → Free 124 bytes → IsBody no_signs (at + length bytes) more items []
    → IsBody no_signs at (bytes ++ more) (plain_from at bytes ++ items) []
body_plain at [] more items free body = subst (λ place. IsBody no_signs place more items []) (add-zero at) body
body_plain at (byte ∷ bytes) more items free body =
    let moved : at + length (byte ∷ bytes) ≡ suc at + length bytes = omega arith in (
      bytes ++ more,
      record {
        spelling = byte ∷ [];
        text_is = refl;
        spells = (refl, rw (ne_eqb 124 byte (λ same. free.0 (sym same))) refl, refl);
        place_is = refl;
        after_is = omega arith;
        alone = tt;
      },
      body_plain (suc at) bytes more items free.1 (subst (λ place. IsBody no_signs place more items []) moved body),
    )

-- no separator stands at the front of a part
front_alone : (part more : List ℕ) → 0 < length part → Free 124 part → slice_get (part ++ more) 0 ≢ Some 124
front_alone [] more filled free = absurd (omega arith)
front_alone (byte ∷ bytes) more filled free = λ same. free.0 (let equal : byte ≡ 124 = cc in equal)

-- parts, each after a separator
body_barred : (at : ℕ) (parts : List (List ℕ)) → AreBarless parts → AreFilled parts → IsBody no_signs at (barred parts) (barred_from at parts) []
body_barred at [] barless filled = (refl, tt)
body_barred at (part ∷ parts) barless filled = (
  part ++ barred parts,
  record {
    spelling = 124 ∷ [];
    text_is = refl;
    spells = (refl, refl);
    place_is = refl;
    after_is = omega arith;
    alone = front_alone part (barred parts) filled.0 barless.0;
  },
  body_plain (suc at) part (barred parts) (barred_from (suc at + length part) parts) barless.0 (body_barred (suc at + length part) parts barless.1 filled.1),
)

-- a first part and others are the items of a body
pub body_parts : (at : ℕ) (part : List ℕ) (parts : List (List ℕ)) → Free 124 part → AreBarless parts → AreFilled parts
    → IsBody no_signs at (part ++ barred parts) (plain_from at part ++ barred_from (at + length part) parts) []
body_parts at part parts free barless filled =
    body_plain at part (barred parts) (barred_from (at + length part) parts) free (body_barred (at + length part) parts barless filled)
