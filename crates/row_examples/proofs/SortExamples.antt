-- SORT.
use Rattle.std.specs.Prelude.{◌≡◌, [], ◌∷◌, true, false, replicate, refl}
use Rattle.pipe_model.specs.declared.kind.Kind.TheVariants.{Sort}
use Rattle.pipe_model.specs.declared.keys.SortKey.{SortKey}
use Rattle.pipe_model.specs.declared.range.Range.{Range}
use Rattle.pipe_model.specs.Straight.{all_columns}
use Rattle.pipe_model.specs.Table.{form, line_of}
use Rattle.row_examples.specs.Acts.{strand, acts_over, records, columns, words, one, to, takes}

abbrev up : Range → SortKey
up range = record { range = range; descending = false }

abbrev down : Range → SortKey
down range = record { range = range; descending = true }

-- all records come at the end, in order
in_order : acts_over (Sort (up all_columns ∷ [])) one (records "b|a|b") ≡ takes ∷ takes ∷ takes ∷ to 0 "a" ∷ to 0 "b" ∷ to 0 "b" ∷ []
in_order = refl

descending : acts_over (Sort (down all_columns ∷ [])) one (records "b|a|c") ≡ takes ∷ takes ∷ takes ∷ to 0 "c" ∷ to 0 "b" ∷ to 0 "a" ∷ []
descending = refl

-- a key is less than a longer one that begins with it, and capital letters are less than small ones
prefix_less : acts_over (Sort (up all_columns ∷ [])) one (records "ab|a||B") ≡ takes ∷ takes ∷ takes ∷ takes ∷ to 0 "" ∷ to 0 "B" ∷ to 0 "a" ∷ to 0 "ab" ∷ []
prefix_less = refl

-- digits are compared as bytes
as_bytes : acts_over (Sort (up all_columns ∷ [])) one (records "10|9") ≡ takes ∷ takes ∷ to 0 "10" ∷ to 0 "9" ∷ []
as_bytes = refl

-- records of one key stay as they came
stable : acts_over (Sort (up (columns 1 1) ∷ [])) one (records "b2|a9|b1|a3") ≡ takes ∷ takes ∷ takes ∷ takes ∷ to 0 "a9" ∷ to 0 "a3" ∷ to 0 "b2" ∷ to 0 "b1" ∷ []
stable = refl

-- also where the order is descending
stable_down : acts_over (Sort (down (columns 1 1) ∷ [])) one (records "b2|a9|b1|a3") ≡ takes ∷ takes ∷ takes ∷ takes ∷ to 0 "b2" ∷ to 0 "b1" ∷ to 0 "a9" ∷ to 0 "a3" ∷ []
stable_down = refl

-- the second range decides where the first doesn't
in_turn : acts_over (Sort (down (columns 1 1) ∷ up (columns 2 2) ∷ [])) one (records "a2|b1|a1|b2") ≡ takes ∷ takes ∷ takes ∷ takes ∷ to 0 "b1" ∷ to 0 "b2" ∷ to 0 "a1" ∷ to 0 "a2" ∷ []
in_turn = refl

-- by words
by_word : acts_over (Sort (up (words 2 2) ∷ [])) one (records "x b|y a|z") ≡ takes ∷ takes ∷ takes ∷ to 0 "z" ∷ to 0 "y a" ∷ to 0 "x b" ∷ []
by_word = refl

-- no records
no_records : acts_over (Sort (up all_columns ∷ [])) one [] ≡ []
no_records = refl

not_thin : (form (strand (Sort (up all_columns ∷ [])) one)).thin ≡ false
not_thin = refl

-- one range to ten
no_range : (line_of (Sort [])).proper ≡ false
no_range = refl

ten_ranges : (line_of (Sort (replicate 10 (up all_columns)))).proper ≡ true
ten_ranges = refl

eleven_ranges : (line_of (Sort (replicate 11 (up all_columns)))).proper ≡ false
eleven_ranges = refl

no_column : (line_of (Sort (up all_columns ∷ down (columns 0 1) ∷ []))).proper ≡ false
no_column = refl
