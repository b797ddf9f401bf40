-- LOCATE and NLOCATE.
use Rattle.std.specs.Prelude.{◌≡◌, [], ◌∷◌, codes, refl}
use Rattle.std.specs.declared.option.Option.TheVariants.{Some, None}
use Rattle.pipe_model.specs.declared.kind.Kind.TheVariants.{Locate, Nlocate}
use Rattle.pipe_model.specs.Straight.{all_columns}
use Rattle.row_examples.specs.Acts.{acts_over, records, one, both, columns, words, fields, columns_from, to, takes}

-- each record goes to output 0 or to output 1
to_either : acts_over (Locate all_columns (Some (codes "b"))) both (records "ab|cd|b") ≡ to 0 "ab" ∷ takes ∷ to 1 "cd" ∷ takes ∷ to 0 "b" ∷ takes ∷ []
to_either = refl

-- what would go to an output that isn't connected is not written
to_one : acts_over (Locate all_columns (Some (codes "b"))) one (records "ab|cd|b") ≡ to 0 "ab" ∷ takes ∷ takes ∷ to 0 "b" ∷ takes ∷ []
to_one = refl

-- without a string it selects where the range isn't empty
without_string : acts_over (Locate all_columns None) both (records "a||b") ≡ to 0 "a" ∷ takes ∷ to 1 "" ∷ takes ∷ to 0 "b" ∷ takes ∷ []
without_string = refl

-- the string is to stand wholly within the columns
within_columns : acts_over (Locate (columns 2 3) (Some (codes "ab"))) both (records "xabx|abxx|xxab|xab") ≡ to 0 "xabx" ∷ takes ∷ to 1 "abxx" ∷ takes ∷ to 1 "xxab" ∷ takes ∷ to 0 "xab" ∷ takes ∷ []
within_columns = refl

-- a record that ends before the columns has none of them
behind_the_end : acts_over (Locate (columns_from 3) None) both (records "ab|abc") ≡ to 1 "ab" ∷ takes ∷ to 0 "abc" ∷ takes ∷ []
behind_the_end = refl

-- words are separated by one blank or more, and those between belong to a range of several
within_words : acts_over (Locate (words 2 3) (Some (codes "b  c"))) both (records "a b  c| a  b  c d|b  c") ≡ to 0 "a b  c" ∷ takes ∷ to 0 " a  b  c d" ∷ takes ∷ to 1 "b  c" ∷ takes ∷ []
within_words = refl

-- a word that isn't there is empty
no_word : acts_over (Locate (words 2 2) None) both (records "a|a b|  a") ≡ to 1 "a" ∷ takes ∷ to 0 "a b" ∷ takes ∷ to 1 "  a" ∷ takes ∷ []
no_word = refl

-- fields are separated by tabs, and may be empty
within_fields : acts_over (Locate (fields 2 2) (Some (codes "b"))) both (records "a\tb\tc|b\ta|\t\tb") ≡ to 0 "a\tb\tc" ∷ takes ∷ to 1 "b\ta" ∷ takes ∷ to 1 "\t\tb" ∷ takes ∷ []
within_fields = refl

-- the tabs between fields belong to a range of several
tab_between : acts_over (Locate (fields 1 2) (Some (codes "\t"))) both (records "a\tb|a") ≡ to 0 "a\tb" ∷ takes ∷ to 1 "a" ∷ takes ∷ []
tab_between = refl

-- NLOCATE is the other way
not_located : acts_over (Nlocate all_columns (Some (codes "b"))) both (records "ab|cd|b") ≡ to 1 "ab" ∷ takes ∷ to 0 "cd" ∷ takes ∷ to 1 "b" ∷ takes ∷ []
not_located = refl

-- NLOCATE without a string selects where the range is empty
not_filled : acts_over (Nlocate (words 1 1) None) both (records "a||  ") ≡ to 1 "a" ∷ takes ∷ to 0 "" ∷ takes ∷ to 0 "  " ∷ takes ∷ []
not_filled = refl

-- a string that is longer than the record isn't in it
longer : acts_over (Nlocate all_columns (Some (codes "abc"))) one (records "ab|abc|xabc") ≡ to 0 "ab" ∷ takes ∷ takes ∷ takes ∷ []
longer = refl
