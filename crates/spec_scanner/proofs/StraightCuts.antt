-- The stretches of parts that are joined by separators.
use Rattle.std.proofs.Common.{◌≡◌, ℕ, suc, ◌+◌, List, [], ◌∷◌, ◌++◌, length, refl, ap, ◌∙◌, append-nil}
use Rattle.spec_scanner.specs.declared.item.Item.{Item}
use Rattle.spec_scanner.specs.declared.item.Reading.TheVariants.{Plain}
use Rattle.spec_scanner.specs.Stretches.{Stretch, cut, is_end, is_separator, put_first}
use Rattle.spec_scanner.proofs.StraightItems.{bar_at, barred_from, plain_from}

abbrev pub stretch : List Item → ℕ → Stretch
stretch inside closed = record { inside = inside; closed = closed }

-- a part that ends at a place is closed there where others follow, else at the end
abbrev pub closes : ℕ → ℕ → List (List ℕ) → ℕ
closes end at [] = end
closes end at (part ∷ parts) = at

-- the stretches of parts, each after a separator
abbrev pub stretches_from : ℕ → ℕ → List (List ℕ) → List Stretch
stretches_from end at [] = []
stretches_from end at (part ∷ parts) = stretch (plain_from (suc at) part) (closes end (suc at + length part) parts) ∷ stretches_from end (suc at + length part) parts

-- plain items stand in front of a stretch
cut_plain : (at : ℕ) (bytes : List ℕ) (items : List Item) (end closed : ℕ) (inside : List Item) (stretches : List Stretch)
    → cut is_separator items end ≡ stretch inside closed ∷ stretches
    → cut is_separator (plain_from at bytes ++ items) end ≡ stretch (plain_from at bytes ++ inside) closed ∷ stretches
cut_plain at [] items end closed inside stretches is = is
cut_plain at (byte ∷ bytes) items end closed inside stretches is =
    ap (put_first (record { byte = byte; reading = Plain; place = at; after = suc at })) (cut_plain (suc at) bytes items end closed inside stretches is)

-- a part is a stretch
cut_part : (at : ℕ) (bytes : List ℕ) (items : List Item) (end closed : ℕ) (stretches : List Stretch)
    → cut is_separator items end ≡ stretch [] closed ∷ stretches
    → cut is_separator (plain_from at bytes ++ items) end ≡ stretch (plain_from at bytes) closed ∷ stretches
cut_part at bytes items end closed stretches is =
    cut_plain at bytes items end closed [] stretches is ∙ ap (λ inside. stretch inside closed ∷ stretches) (append-nil (plain_from at bytes))

cut_barred : (end at : ℕ) (parts : List (List ℕ)) → cut is_separator (barred_from at parts) end ≡ stretch [] (closes end at parts) ∷ stretches_from end at parts
cut_barred end at [] = refl
cut_barred end at (part ∷ parts) =
    ap (λ stretches. stretch [] at ∷ stretches)
    (cut_part (suc at) part (barred_from (suc at + length part) parts) end (closes end (suc at + length part) parts) (stretches_from end (suc at + length part) parts)
    (cut_barred end (suc at + length part) parts))

-- parts are stretches
pub cut_parts : (end at : ℕ) (part : List ℕ) (parts : List (List ℕ))
    → cut is_separator (plain_from at part ++ barred_from (at + length part) parts) end
    ≡ stretch (plain_from at part) (closes end (at + length part) parts) ∷ stretches_from end (at + length part) parts
cut_parts end at part parts =
    cut_part at part (barred_from (at + length part) parts) end (closes end (at + length part) parts) (stretches_from end (at + length part) parts) (cut_barred end (at + length part) parts)

-- the items are one pipeline
whole_plain : (at : ℕ) (bytes : List ℕ) (items : List Item) (end : ℕ) → cut is_end items end ≡ stretch items end ∷ []
    → cut is_end (plain_from at bytes ++ items) end ≡ stretch (plain_from at bytes ++ items) end ∷ []
whole_plain at [] items end is = is
whole_plain at (byte ∷ bytes) items end is = ap (put_first (record { byte = byte; reading = Plain; place = at; after = suc at })) (whole_plain (suc at) bytes items end is)

whole_barred : (end at : ℕ) (parts : List (List ℕ)) → cut is_end (barred_from at parts) end ≡ stretch (barred_from at parts) end ∷ []
whole_barred end at [] = refl
whole_barred end at (part ∷ parts) = ap (put_first (bar_at at)) (whole_plain (suc at) part (barred_from (suc at + length part) parts) end (whole_barred end (suc at + length part) parts))

pub whole_parts : (end at : ℕ) (part : List ℕ) (parts : List (List ℕ))
    → cut is_end (plain_from at part ++ barred_from (at + length part) parts) end ≡ stretch (plain_from at part ++ barred_from (at + length part) parts) end ∷ []
whole_parts end at part parts = whole_plain at part (barred_from (at + length part) parts) end (whole_barred end (at + length part) parts)
