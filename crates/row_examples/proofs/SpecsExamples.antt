-- SPECS.
use Rattle.std.specs.Prelude.{◌≡◌, ℕ, [], ◌∷◌, true, false, pos, negsuc, codes, refl}
use Rattle.std.specs.Fmt.{digits}
use Prim.Native.String.{String}
use Rattle.std.specs.declared.option.Option.TheVariants.{Some, None}
use Rattle.pipe_model.specs.declared.kind.Kind.TheVariants.{Specs}
use Rattle.pipe_model.specs.declared.items.Origin.{Origin}
use Rattle.pipe_model.specs.declared.items.Origin.TheVariants.{Cut, Number, Text, Print}
use Rattle.pipe_model.specs.declared.items.Convert.TheVariants.{C2x, X2c}
use Rattle.pipe_model.specs.declared.items.Spot.{Spot}
use Rattle.pipe_model.specs.declared.items.Spot.TheVariants.{Column, Next, NextWord}
use Rattle.pipe_model.specs.declared.items.Align.{Align}
use Rattle.pipe_model.specs.declared.items.Align.TheVariants.{Left, Center, Right}
use Rattle.pipe_model.specs.declared.items.SetOp.TheVariants.{Put, Add, Subtract}
use Rattle.pipe_model.specs.declared.items.Amount.TheVariants as Amounts
use Rattle.pipe_model.specs.declared.items.Item.{Item}
use Rattle.pipe_model.specs.declared.items.Item.TheVariants.{Field, Read, Write, Pad, Set}
use Rattle.pipe_model.specs.Straight.{all_columns}
use Rattle.pipe_model.specs.Table.{form, line_of}
use Rattle.row_examples.specs.Acts.{strand, acts_over, code_over, records, columns, words, one, to, takes}

-- a field as it is
abbrev field : Origin → Spot → Item
field origin spot = Field origin false None spot Left

-- the whole record
abbrev whole : Spot → Item
whole spot = field (Cut all_columns) spot

-- the whole record in columns 2 to 5, with a bar behind
abbrev in_four : Align → Item
in_four align = Field (Cut all_columns) false None (Column 2 (Some 4)) align

abbrev column : ℕ → Spot
column n = Column n None

abbrev next : Spot
next = Next None

abbrev next_word : Spot
next_word = NextWord None

abbrev text : String → Origin
text string = Text (codes string)

-- Fields

-- fields come from parts of the record and from the cycle's number; STRIP removes blanks at both ends
words_exchanged : acts_over (Specs (field (Cut (words 2 2)) (column 1) ∷ field (Cut (words 1 1)) next_word ∷ Field Number true None next_word Left ∷ []) None) one (records "ab cd|ef gh") ≡ to 0 "cd ab 1" ∷ takes ∷ to 0 "gh ef 2" ∷ takes ∷ []
unfolding digits
words_exchanged = refl

-- the number has ten places
number : acts_over (Specs (field Number (column 1) ∷ []) None) one (records "a") ≡ to 0 "         1" ∷ takes ∷ []
unfolding digits
number = refl

to_hex : acts_over (Specs (Field (Cut all_columns) false (Some C2x) (column 1) Left ∷ []) None) one (records "AB") ≡ to 0 "4142" ∷ takes ∷ []
to_hex = refl

hex_letters : acts_over (Specs (Field (Cut all_columns) false (Some C2x) (column 1) Left ∷ []) None) one ((0 ∷ 175 ∷ []) ∷ []) ≡ to 0 "00AF" ∷ takes ∷ []
hex_letters = refl

-- hexadecimal digits are read in either case
from_hex : acts_over (Specs (Field (Cut all_columns) false (Some X2c) (column 1) Left ∷ []) None) one (records "4a4B") ≡ to 0 "JK" ∷ takes ∷ []
from_hex = refl

-- STRIP comes before the conversion
strips_first : acts_over (Specs (Field (Cut all_columns) true (Some X2c) (column 1) Left ∷ []) None) one (records " 4a ") ≡ to 0 "J" ∷ takes ∷ []
strips_first = refl

-- Places

-- a field overwrites from its column on, and the output is filled up to there
overwrites : acts_over (Specs (field (text "abcdef") (column 1) ∷ whole (column 3) ∷ []) None) one (records "x|uvwxyz") ≡ to 0 "abxdef" ∷ takes ∷ to 0 "abuvwxyz" ∷ takes ∷ []
overwrites = refl

fills : acts_over (Specs (whole (column 4) ∷ []) None) one (records "a") ≡ to 0 "   a" ∷ takes ∷ []
fills = refl

-- NEXTWORD leaves a gap but where the output is empty
places_behind : acts_over (Specs (whole next_word ∷ whole next ∷ whole next_word ∷ []) None) one (records "ab") ≡ to 0 "abab ab" ∷ takes ∷ []
places_behind = refl

-- an empty field without a length changes nothing: there is no gap, and nothing is filled
empty_field : acts_over (Specs (whole next_word ∷ field (text "") next_word ∷ field (text "") (column 9) ∷ []) None) one (records "a|") ≡ to 0 "a" ∷ takes ∷ to 0 "" ∷ takes ∷ []
empty_field = refl

-- with a length a field is filled or cut
left : acts_over (Specs (in_four Left ∷ field (text ".") next ∷ []) None) one (records "a|abcdef") ≡ to 0 " a   ." ∷ takes ∷ to 0 " abcd." ∷ takes ∷ []
left = refl

right : acts_over (Specs (in_four Right ∷ field (text ".") next ∷ []) None) one (records "a|abcdef") ≡ to 0 "    a." ∷ takes ∷ to 0 " cdef." ∷ takes ∷ []
right = refl

-- the odd byte at the right
center : acts_over (Specs (in_four Center ∷ field (text ".") next ∷ []) None) one (records "a|abcdef|abcdefg") ≡ to 0 "  a  ." ∷ takes ∷ to 0 " bcde." ∷ takes ∷ to 0 " bcde." ∷ takes ∷ []
center = refl

-- an empty field with a length is all pad
all_pad : acts_over (Specs (Pad 46 ∷ field (text "") (Next (Some 3)) ∷ []) None) one (records "a") ≡ to 0 "..." ∷ takes ∷ []
all_pad = refl

-- PAD holds for the items behind it, in its cycle
pads : acts_over (Specs (whole (column 3) ∷ Pad 46 ∷ whole (column 6) ∷ []) None) one (records "a|b") ≡ to 0 "  a..a" ∷ takes ∷ to 0 "  b..b" ∷ takes ∷ []
pads = refl

-- WRITE

-- WRITE writes the output and empties it
writes_twice : acts_over (Specs (whole (column 1) ∷ Write ∷ whole (column 2) ∷ []) None) one (records "a") ≡ to 0 "a" ∷ to 0 " a" ∷ takes ∷ []
writes_twice = refl

-- at the end of the cycle the output is written only where a field stands behind the last WRITE
writes_once : acts_over (Specs (whole (column 1) ∷ Write ∷ Pad 46 ∷ []) None) one (records "a") ≡ to 0 "a" ∷ takes ∷ []
writes_once = refl

writes_empty : acts_over (Specs (Write ∷ []) None) one (records "a") ≡ to 0 "" ∷ takes ∷ []
writes_empty = refl

-- Counters

-- the EOF list runs once, at the end of input
sum_of_words : acts_over (Specs (Set 0 Add (Amounts.Number (words 1 1)) ∷ []) (Some (field (Print 0) (column 1) ∷ []))) one (records "3 a|-5|10") ≡ takes ∷ takes ∷ takes ∷ to 0 "8" ∷ []
unfolding digits
sum_of_words = refl

-- counters start at 0, and keep their values from cycle to cycle
differences : acts_over (Specs (Set 1 Subtract (Amounts.Whole (pos 2)) ∷ Set 2 Put (Amounts.Counter 1) ∷ field (Print 2) (column 1) ∷ field (Print 3) next_word ∷ []) None) one (records "a|b") ≡ to 0 "-2 0" ∷ takes ∷ to 0 "-4 0" ∷ takes ∷ []
unfolding digits
differences = refl

-- a number may have blanks at its ends
blanks_at_ends : acts_over (Specs (Set 0 Put (Amounts.Number all_columns) ∷ field (Print 0) (column 1) ∷ []) None) one (records " -0012 ") ≡ to 0 "-12" ∷ takes ∷ []
unfolding digits
blanks_at_ends = refl

-- the least and the greatest value
limits : acts_over (Specs (Set 0 Put (Amounts.Number all_columns) ∷ field (Print 0) (column 1) ∷ []) None) one (records "-9223372036854775808|9223372036854775807") ≡ to 0 "-9223372036854775808" ∷ takes ∷ to 0 "9223372036854775807" ∷ takes ∷ []
unfolding digits
limits = refl

-- Faults

-- text that is no number ends it at its sight, with code 8
no_number : acts_over (Specs (Set 0 Add (Amounts.Number all_columns) ∷ field (Print 0) (column 1) ∷ []) None) one (records "1|9x|2") ≡ to 0 "1" ∷ takes ∷ []
unfolding digits
no_number = refl

no_number_code : code_over (Specs (Set 0 Add (Amounts.Number all_columns) ∷ field (Print 0) (column 1) ∷ []) None) one (records "1|9x|2") ≡ pos 8
no_number_code = refl

-- so do an empty text and twenty digits
empty_number : code_over (Specs (Set 0 Put (Amounts.Number all_columns) ∷ []) None) one (records "") ≡ pos 8
empty_number = refl

long_number : code_over (Specs (Set 0 Put (Amounts.Number all_columns) ∷ []) None) one (records "00000000000000000001") ≡ pos 8
long_number = refl

-- and a result that doesn't fit into 64 bits
past_greatest : acts_over (Specs (Set 0 Put (Amounts.Whole (pos 9223372036854775807)) ∷ Set 0 Add (Amounts.Whole (pos 1)) ∷ field (Print 0) (column 1) ∷ []) None) one (records "a") ≡ []
past_greatest = refl

past_least : code_over (Specs (Set 0 Put (Amounts.Whole (negsuc 9223372036854775807)) ∷ Set 0 Subtract (Amounts.Whole (pos 1)) ∷ []) None) one (records "a") ≡ pos 8
past_least = refl

-- and what isn't an even number of hexadecimal digits
odd_digits : code_over (Specs (Field (Cut all_columns) false (Some X2c) (column 1) Left ∷ []) None) one (records "4a4") ≡ pos 8
odd_digits = refl

-- nothing of the faulty cycle is written
nothing_written : acts_over (Specs (whole (column 1) ∷ Write ∷ Set 0 Put (Amounts.Number all_columns) ∷ []) None) one (records "1|x") ≡ to 0 "1" ∷ takes ∷ []
nothing_written = refl

-- a fault in the EOF list comes at the end; its record at hand is empty
eof_fault : acts_over (Specs (whole (column 1) ∷ []) (Some (field (text "e") (column 1) ∷ Set 0 Put (Amounts.Number all_columns) ∷ []))) one (records "1") ≡ to 0 "1" ∷ takes ∷ []
eof_fault = refl

eof_fault_code : code_over (Specs (whole (column 1) ∷ []) (Some (Set 0 Put (Amounts.Number all_columns) ∷ []))) one (records "1") ≡ pos 8
eof_fault_code = refl

-- READ

-- a cycle takes a record more for each READ, and its pairs come with the last of them; at the end an empty record stands for one that lacks
reads_one : acts_over (Specs (whole (column 1) ∷ Read ∷ whole next_word ∷ []) None) one (records "a|b|c") ≡ takes ∷ takes ∷ to 0 "a b" ∷ takes ∷ to 0 "c" ∷ []
reads_one = refl

-- also where READ is the last item
reads_last : acts_over (Specs (whole (column 1) ∷ Read ∷ []) None) one (records "a|b|c|d") ≡ takes ∷ takes ∷ to 0 "a" ∷ takes ∷ takes ∷ to 0 "c" ∷ []
reads_last = refl

-- two READs
reads_two : acts_over (Specs (Read ∷ whole (column 1) ∷ Read ∷ whole next ∷ []) None) one (records "a|b|c|d") ≡ takes ∷ takes ∷ takes ∷ to 0 "bc" ∷ takes ∷ to 0 "" ∷ []
reads_two = refl

-- the unfinished cycle comes before the EOF list, which is a cycle of its own
unfinished_first : acts_over (Specs (Field Number true None (column 1) Left ∷ Read ∷ []) (Some (Field Number true None (column 2) Left ∷ []))) one (records "a|b|c") ≡ takes ∷ takes ∷ to 0 "1" ∷ takes ∷ to 0 "2" ∷ to 0 " 3" ∷ []
unfolding digits
unfinished_first = refl

-- a fault before READ ends it when the record was taken, though the cycle isn't finished
fault_taken : acts_over (Specs (Set 0 Put (Amounts.Number all_columns) ∷ Read ∷ whole (column 1) ∷ []) None) one (records "1|a|x|b") ≡ takes ∷ takes ∷ to 0 "a" ∷ takes ∷ []
fault_taken = refl

fault_taken_code : code_over (Specs (Set 0 Put (Amounts.Number all_columns) ∷ Read ∷ whole (column 1) ∷ []) None) one (records "1|a|x|b") ≡ pos 8
fault_taken_code = refl

-- a fault over the empty record at the end: neither the unfinished cycle nor the EOF list writes
fault_unfinished : acts_over (Specs (Read ∷ Set 0 Put (Amounts.Number all_columns) ∷ []) (Some (field (text "e") (column 1) ∷ []))) one (records "a|1|c") ≡ takes ∷ takes ∷ takes ∷ []
fault_unfinished = refl

-- where only the EOF list is faulty, the unfinished cycle has written
fault_eof_alone : acts_over (Specs (whole (column 1) ∷ Read ∷ []) (Some (Set 0 Put (Amounts.Number all_columns) ∷ []))) one (records "a") ≡ takes ∷ to 0 "a" ∷ []
fault_eof_alone = refl

-- No records

no_records : acts_over (Specs (whole (column 1) ∷ Read ∷ []) None) one [] ≡ []
no_records = refl

eof_alone : acts_over (Specs (whole (column 1) ∷ []) (Some (Field Number true None (column 1) Left ∷ []))) one [] ≡ to 0 "1" ∷ []
unfolding digits
eof_alone = refl

-- Without READ and without an EOF list it writes only what the record at hand causes

thin : (form (strand (Specs (whole (column 1) ∷ []) None) one)).thin ≡ true
thin = refl

reading_not_thin : (form (strand (Specs (whole (column 1) ∷ Read ∷ []) None) one)).thin ≡ false
reading_not_thin = refl

empty_eof_not_thin : (form (strand (Specs (whole (column 1) ∷ []) (Some [])) one)).thin ≡ false
empty_eof_not_thin = refl

-- Arguments

-- the first list has an item at least, the EOF list need not
no_items : (line_of (Specs [] None)).proper ≡ false
no_items = refl

empty_eof : (line_of (Specs (Write ∷ []) (Some []))).proper ≡ true
empty_eof = refl

-- the EOF list has no READ
eof_reads : (line_of (Specs (Read ∷ []) (Some (Read ∷ [])))).proper ≡ false
eof_reads = refl

-- ten counters
tenth_counter : (line_of (Specs (Set 9 Put (Amounts.Counter 9) ∷ field (Print 9) next ∷ []) None)).proper ≡ true
tenth_counter = refl

no_counter : (line_of (Specs (Set 0 Put (Amounts.Counter 10) ∷ []) None)).proper ≡ false
no_counter = refl

-- columns, lengths and ranges are such as can be named; a string may be empty
no_column : (line_of (Specs (whole (column 0) ∷ []) None)).proper ≡ false
no_column = refl

no_length : (line_of (Specs (whole (NextWord (Some 0)) ∷ []) None)).proper ≡ false
no_length = refl

no_range : (line_of (Specs (Write ∷ []) (Some (field (Cut (columns 2 1)) next ∷ [])))).proper ≡ false
no_range = refl

no_number_range : (line_of (Specs (Set 0 Add (Amounts.Number (columns 0 1)) ∷ []) None)).proper ≡ false
no_number_range = refl

empty_text : (line_of (Specs (field (text "") next ∷ []) None)).proper ≡ true
empty_text = refl
