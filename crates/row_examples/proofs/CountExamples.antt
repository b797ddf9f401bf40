-- COUNT.
use Rattle.std.specs.Prelude.{◌≡◌, [], ◌∷◌, true, false, refl}
use Rattle.std.specs.Fmt.{digits}
use Rattle.pipe_model.specs.declared.kind.Kind.TheVariants.{Count}
use Rattle.pipe_model.specs.declared.keys.Total.TheVariants.{Lines, Words, Bytes}
use Rattle.pipe_model.specs.Table.{form, line_of}
use Rattle.row_examples.specs.Acts.{strand, acts_over, records, one, to, takes}

-- the counts come at the end, also of nothing
of_nothing : acts_over (Count (Lines ∷ [])) one [] ≡ to 0 "0" ∷ []
unfolding digits
of_nothing = refl

-- in the order given
all_three : acts_over (Count (Lines ∷ Words ∷ Bytes ∷ [])) one (records "a b|c") ≡ takes ∷ takes ∷ to 0 "2 3 4" ∷ []
unfolding digits
all_three = refl

other_order : acts_over (Count (Bytes ∷ Lines ∷ [])) one (records "a b|c") ≡ takes ∷ takes ∷ to 0 "4 2" ∷ []
unfolding digits
other_order = refl

-- words stand between blanks; a tab is no blank
words_between : acts_over (Count (Words ∷ [])) one (records "  a  bc |") ≡ takes ∷ takes ∷ to 0 "2" ∷ []
unfolding digits
words_between = refl

one_word : acts_over (Count (Words ∷ [])) one ((97 ∷ 9 ∷ 98 ∷ []) ∷ []) ≡ takes ∷ to 0 "1" ∷ []
unfolding digits
one_word = refl

-- bytes without line ends
empty_records : acts_over (Count (Bytes ∷ Lines ∷ [])) one (records "||") ≡ takes ∷ takes ∷ takes ∷ to 0 "0 3" ∷ []
unfolding digits
empty_records = refl

two_digits : acts_over (Count (Bytes ∷ [])) one (records "abcdefgh|ijkl") ≡ takes ∷ takes ∷ to 0 "12" ∷ []
unfolding digits
two_digits = refl

not_thin : (form (strand (Count (Lines ∷ [])) one)).thin ≡ false
not_thin = refl

-- one total to three, each once
three_totals : (line_of (Count (Words ∷ Bytes ∷ Lines ∷ []))).proper ≡ true
three_totals = refl

no_total : (line_of (Count [])).proper ≡ false
no_total = refl

twice : (line_of (Count (Words ∷ Lines ∷ Words ∷ []))).proper ≡ false
twice = refl
