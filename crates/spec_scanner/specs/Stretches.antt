-- Items cut at the end characters into pipelines, and at the separators into the texts of stages.
use Rattle.std.specs.Prelude.{ℕ, ◌-◌, ◌==◌, ◌&&◌, Bool, true, false, if◌then◌else◌, List, [], ◌∷◌, length, take, drop}
use Rattle.std.specs.List.{list_all, prefix_len, suffix_len}
use Rattle.spec_scanner.specs.declared.item.Item.{Item}
use Rattle.spec_scanner.specs.declared.item.Reading.{Reading}
use Rattle.spec_scanner.specs.declared.item.Reading.TheVariants.{Plain, Separator, End}

abbrev pub is_end : Item → Bool
is_end item = ends item.reading where
  ends : Reading → Bool
  ends End = true
  ends _ = false

abbrev pub is_separator : Item → Bool
is_separator item = separates item.reading where
  separates : Reading → Bool
  separates Separator = true
  separates _ = false

abbrev pub is_plain : Item → Bool
is_plain item = plain item.reading where
  plain : Reading → Bool
  plain Plain = true
  plain _ = false

-- the items between two ends, and the place of what closes them
pub record Stretch : Type 0 where
  pub inside : List Item
  pub closed : ℕ

abbrev pub put_first : Item → List Stretch → List Stretch
put_first item [] = []
put_first item (stretch ∷ stretches) = record stretch { inside = item ∷ stretch.inside } ∷ stretches

-- the stretches between the items that part; the last one is closed at a place
abbrev pub cut : (Item → Bool) → List Item → ℕ → List Stretch
cut parts [] closed = record { inside = []; closed = closed } ∷ []
cut parts (item ∷ items) closed =
    if parts item then record { inside = []; closed = item.place } ∷ cut parts items closed
    else put_first item (cut parts items closed)

-- a blank that isn't escaped
abbrev pub is_plain_blank : Item → Bool
is_plain_blank item = is_plain item && (item.byte == 32)

-- a pipeline without a separator and with plain blanks alone is ignored
abbrev pub is_ignored : Stretch → Bool
is_ignored pipeline = list_all is_plain_blank pipeline.inside

abbrev pub without_front : List Item → List Item
without_front items = drop (prefix_len is_plain_blank items) items

abbrev pub without_back : List Item → List Item
without_back items = take (length items - suffix_len is_plain_blank items) items

-- a stage's text: the items without the plain blanks at the front and at the back
abbrev pub trimmed : List Item → List Item
trimmed items = without_back (without_front items)
