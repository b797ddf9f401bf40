-- CHANGE.
use Rattle.std.specs.Prelude.{◌≡◌, [], ◌∷◌, codes, refl}
use Rattle.pipe_model.specs.declared.kind.Kind.TheVariants.{Change}
use Rattle.pipe_model.specs.declared.kind.Times.TheVariants.{Only, All}
use Rattle.pipe_model.specs.Straight.{all_columns}
use Rattle.row_examples.specs.Acts.{acts_over, records, one, columns, columns_from, to, takes}

-- the first n
first_one : acts_over (Change all_columns (codes "bc") (codes "x") (Only 1)) one (records "abcabc") ≡ to 0 "axabc" ∷ takes ∷ []
first_one = refl

-- an empty first string puts the second in at the first column
put_in : acts_over (Change all_columns (codes "") (codes "x") All) one (records "ab|") ≡ to 0 "xab" ∷ takes ∷ to 0 "x" ∷ takes ∷ []
put_in = refl

-- all, where no number is given
all_of_them : acts_over (Change all_columns (codes "x") (codes "yy") All) one (records "x1|2|xxx") ≡ to 0 "yy1" ∷ takes ∷ to 0 "2" ∷ takes ∷ to 0 "yyyyyy" ∷ takes ∷ []
all_of_them = refl

-- from the left, and not overlapping
from_left : acts_over (Change all_columns (codes "aa") (codes "b") All) one (records "aaa|aaaa|aaaaa") ≡ to 0 "ba" ∷ takes ∷ to 0 "bb" ∷ takes ∷ to 0 "bba" ∷ takes ∷ []
from_left = refl

-- what is put in isn't looked at again
not_again : acts_over (Change all_columns (codes "a") (codes "aa") All) one (records "aba") ≡ to 0 "aabaa" ∷ takes ∷ []
not_again = refl

-- the second string may be empty
to_nothing : acts_over (Change all_columns (codes "a") (codes "") All) one (records "banana|aaa") ≡ to 0 "bnn" ∷ takes ∷ to 0 "" ∷ takes ∷ []
to_nothing = refl

-- an occurrence is to stand wholly within the columns
within : acts_over (Change (columns 2 4) (codes "ab") (codes "-") All) one (records "ababab|xabab") ≡ to 0 "ab-ab" ∷ takes ∷ to 0 "x-ab" ∷ takes ∷ []
within = refl

-- what stands before and behind the columns stays
around : acts_over (Change (columns 3 4) (codes "a") (codes "bc") All) one (records "aaaaaa") ≡ to 0 "aabcbcaa" ∷ takes ∷ []
around = refl

-- a record that ends before the columns stays
short : acts_over (Change (columns 4 5) (codes "a") (codes "b") All) one (records "aaa|aaaa") ≡ to 0 "aaa" ∷ takes ∷ to 0 "aaab" ∷ takes ∷ []
short = refl

-- 0 changes nothing
none_changed : acts_over (Change all_columns (codes "a") (codes "b") (Only 0)) one (records "aa") ≡ to 0 "aa" ∷ takes ∷ []
none_changed = refl

-- 0 puts nothing in either
none_put_in : acts_over (Change all_columns (codes "") (codes "b") (Only 0)) one (records "aa") ≡ to 0 "aa" ∷ takes ∷ []
none_put_in = refl

-- the number counts occurrences within the columns alone
counted_within : acts_over (Change (columns_from 2) (codes "a") (codes "b") (Only 1)) one (records "aaa") ≡ to 0 "aba" ∷ takes ∷ []
counted_within = refl

-- an empty first string puts the second in once, also where the number is 1
put_in_for_one : acts_over (Change all_columns (codes "") (codes "x") (Only 1)) one (records "ab") ≡ to 0 "xab" ∷ takes ∷ []
put_in_for_one = refl

-- or more
put_in_once : acts_over (Change all_columns (codes "") (codes "x") (Only 3)) one (records "ab") ≡ to 0 "xab" ∷ takes ∷ []
put_in_once = refl

-- it is put in behind the record's end, where that ends right before the columns
put_in_behind : acts_over (Change (columns 3 3) (codes "") (codes "x") All) one (records "ab|abc") ≡ to 0 "abx" ∷ takes ∷ to 0 "abxc" ∷ takes ∷ []
put_in_behind = refl

-- and nowhere, where the record is shorter
put_in_nowhere : acts_over (Change (columns 4 9) (codes "") (codes "x") All) one (records "ab|abc") ≡ to 0 "ab" ∷ takes ∷ to 0 "abcx" ∷ takes ∷ []
put_in_nowhere = refl

-- both strings may be empty
nothing_put_in : acts_over (Change all_columns (codes "") (codes "") All) one (records "ab") ≡ to 0 "ab" ∷ takes ∷ []
nothing_put_in = refl

-- a longer string than the columns is in none of them
too_long : acts_over (Change (columns 1 2) (codes "abc") (codes "x") All) one (records "abc") ≡ to 0 "abc" ∷ takes ∷ []
too_long = refl
