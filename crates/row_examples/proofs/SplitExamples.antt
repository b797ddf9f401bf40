-- SPLIT.
use Rattle.std.specs.Prelude.{◌≡◌, [], ◌∷◌, codes, refl}
use Rattle.pipe_model.specs.declared.kind.Kind.TheVariants.{Split}
use Rattle.row_examples.specs.Acts.{acts_over, records, one, none, to, takes}

-- one pair for each run, all before the record is taken
at_blanks : acts_over (Split (codes " ")) one (records "one two") ≡ to 0 "one" ∷ to 0 "two" ∷ takes ∷ []
at_blanks = refl

-- several bytes of the string together separate once
many_blanks : acts_over (Split (codes " ")) one (records "  a  b ") ≡ to 0 "a" ∷ to 0 "b" ∷ takes ∷ []
many_blanks = refl

-- each byte of the string separates
of_a_set : acts_over (Split (codes ",;")) one (records "a,b;c;,d") ≡ to 0 "a" ∷ to 0 "b" ∷ to 0 "c" ∷ to 0 "d" ∷ takes ∷ []
of_a_set = refl

-- a record without a run causes no pair
no_run : acts_over (Split (codes " ")) one (records "|  |a") ≡ takes ∷ takes ∷ to 0 "a" ∷ takes ∷ []
no_run = refl

-- a record without such a byte is one run
one_run : acts_over (Split (codes ",")) one (records "a b") ≡ to 0 "a b" ∷ takes ∷ []
one_run = refl

-- at the very ends
at_ends : acts_over (Split (codes "x")) one (records "xax|ax|xa") ≡ to 0 "a" ∷ takes ∷ to 0 "a" ∷ takes ∷ to 0 "a" ∷ takes ∷ []
at_ends = refl

-- record by record
each : acts_over (Split (codes " ")) one (records "a b|c") ≡ to 0 "a" ∷ to 0 "b" ∷ takes ∷ to 0 "c" ∷ takes ∷ []
each = refl

-- without an output nothing is written
no_output : acts_over (Split (codes " ")) none (records "a b") ≡ takes ∷ []
no_output = refl
