-- Arguments that a specification can name.
use Rattle.std.specs.Prelude.{ℕ, ◌+◌, Bool, true, false, ◌&&◌, ◌||◌, not, ◌==◌, nat_lt, nat_le, List, [], ◌∷◌, length, map}
use Rattle.std.specs.Int.{is_in_range}
use Rattle.std.specs.List.{list_all}
use Rattle.std.specs.declared.option.Option.{Option}
use Rattle.std.specs.declared.option.Option.TheVariants.{Some, None}
use Rattle.pipe_model.specs.declared.kind.Mapping.{Mapping}
use Rattle.pipe_model.specs.declared.kind.Mapping.TheVariants.{Upper, Lower, Bytes}
use Rattle.pipe_model.specs.declared.kind.Times.{Times}
use Rattle.pipe_model.specs.declared.kind.Times.TheVariants.{Only, All}
use Rattle.pipe_model.specs.declared.kind.Keep.{Keep}
use Rattle.pipe_model.specs.declared.kind.Keep.TheVariants.{Last}
use Rattle.pipe_model.specs.declared.kind.Image.{Image}
use Rattle.pipe_model.specs.declared.kind.Image.TheVariants as Images
use Rattle.pipe_model.specs.declared.kind.Cutting.{Cutting}
use Rattle.pipe_model.specs.declared.kind.Cutting.TheVariants as Cuttings
use Rattle.pipe_model.specs.declared.keys.SortKey.{SortKey}
use Rattle.pipe_model.specs.declared.keys.Total.{Total}
use Rattle.pipe_model.specs.declared.keys.Total.TheVariants as Totals
use Rattle.pipe_model.specs.declared.items.Origin.{Origin}
use Rattle.pipe_model.specs.declared.items.Origin.TheVariants as Origins
use Rattle.pipe_model.specs.declared.items.Spot.{Spot}
use Rattle.pipe_model.specs.declared.items.Spot.TheVariants.{Column, Next, NextWord}
use Rattle.pipe_model.specs.declared.items.Amount.{Amount}
use Rattle.pipe_model.specs.declared.items.Amount.TheVariants as Amounts
use Rattle.pipe_model.specs.declared.items.Item.{Item}
use Rattle.pipe_model.specs.declared.items.Item.TheVariants.{Field, Set}
use Rattle.pipe_model.specs.declared.range.Range.{Range}
use Rattle.pipe_model.specs.declared.range.Span.{Span}
use Rattle.pipe_model.specs.declared.range.Span.TheVariants.{Columns, Words, Fields}
use Rattle.pipe_model.specs.Members.{has}
use Rattle.pipe_model.specs.SpecsRows.{reads}

-- Words that several stages share

-- the greatest column, word, field, length or size that can be named
abbrev pub greatest : ℕ
greatest = 1048576

-- a number of columns or bytes, at least one
abbrev pub is_size : ℕ → Bool
is_size = is_in_range 1 greatest

-- the last one, where one is named, is the first or stands behind it; a range that is given by its length may end behind the greatest
abbrev pub is_last : ℕ → Option ℕ → Bool
is_last first None = true
is_last first (Some last) = is_in_range first (first + 1048575) last

-- a range of columns, words or fields
abbrev pub is_range : Range → Bool
is_range range = is_size range.first && is_last range.first range.last

-- the string isn't empty
abbrev pub is_filled : List ℕ → Bool
is_filled [] = false
is_filled (b ∷ string) = true

-- a number, or `*`
abbrev pub is_count : Times → Bool
is_count (Only n) = nat_le n 2147483647
is_count All = true

-- Devices, Selection and Editing

-- a name of a file
abbrev pub is_name : List ℕ → Bool
is_name name = is_in_range 1 255 (length name) && not (has name 32)

-- LOCATE: a string isn't empty, where there is one
abbrev pub is_locate : Range → Option (List ℕ) → Bool
is_locate range None = is_range range
is_locate range (Some text) = is_range range && is_filled text

-- the range names columns
abbrev pub are_columns : Span → Bool
are_columns Columns = true
are_columns Words = false
are_columns Fields = false

-- CHANGE: its strings may be empty
abbrev pub is_change : Range → Times → Bool
is_change range times = are_columns range.span && (is_range range && is_count times)

-- a number of bytes, which may be 0
abbrev pub is_length : ℕ → Bool
is_length n = nat_le n greatest

-- XLATE: its strings aren't empty, and equally long
abbrev pub is_mapping : Mapping → Bool
is_mapping Upper = true
is_mapping Lower = true
is_mapping (Bytes first second) = is_filled first && length first == length second

-- Order and counting

-- UNIQUE: COUNT stands with LAST alone
abbrev pub may_count : Keep → Bool
may_count Last = true
may_count keep = false

abbrev pub is_unique : Bool → Range → Keep → Bool
is_unique count range keep = is_range range && (not count || may_count keep)

-- SORT: 1 to 10 ranges
abbrev pub are_keys : List SortKey → Bool
are_keys keys = is_in_range 1 10 (length keys) && list_all (λ key. is_range key.range) keys

abbrev pub total_number : Total → ℕ
total_number Totals.Lines = 0
total_number Totals.Words = 1
total_number Totals.Bytes = 2

abbrev pub are_different : List ℕ → Bool
are_different [] = true
are_different (x ∷ xs) = not (has xs x) && are_different xs

-- COUNT: 1 to 3 totals, each once
abbrev pub are_totals : List Total → Bool
are_totals totals = is_in_range 1 3 (length totals) && are_different (map total_number totals)

-- Blocks

-- BLOCK
abbrev pub is_image : Image → Bool
is_image (Images.Text string) = is_filled string
is_image image = true

-- DEBLOCK
abbrev pub is_cutting : Cutting → Bool
is_cutting (Cuttings.Fixed size) = is_size size
is_cutting (Cuttings.Text string) = is_filled string
is_cutting cutting = true

-- SPECS

abbrev pub is_counter : ℕ → Bool
is_counter k = nat_lt k 10

abbrev pub is_origin : Origin → Bool
is_origin (Origins.Cut range) = is_range range
is_origin (Origins.Print k) = is_counter k
is_origin origin = true

abbrev pub is_field_length : Option ℕ → Bool
is_field_length None = true
is_field_length (Some len) = is_size len

abbrev pub is_spot : Spot → Bool
is_spot (Column first len) = is_size first && is_field_length len
is_spot (Next len) = is_field_length len
is_spot (NextWord len) = is_field_length len

abbrev pub is_amount : Amount → Bool
is_amount (Amounts.Counter k) = is_counter k
is_amount (Amounts.Number range) = is_range range
is_amount amount = true

abbrev pub is_item : Item → Bool
is_item (Field origin strip convert spot align) = is_origin origin && is_spot spot
is_item (Set k op amount) = is_counter k && is_amount amount
is_item item = true

-- the EOF list, which has no READ
abbrev pub is_eof : Option (List Item) → Bool
is_eof None = true
is_eof (Some eof) = list_all is_item eof && reads eof == 0

-- the first list has an item at least
abbrev pub is_specs : List Item → Option (List Item) → Bool
is_specs items eof = nat_le 1 (length items) && list_all is_item items && is_eof eof
