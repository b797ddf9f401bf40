-- CHOP.
use Rattle.std.specs.Prelude.{◌≡◌, [], ◌∷◌, refl}
use Rattle.pipe_model.specs.declared.kind.Kind.TheVariants.{Chop}
use Rattle.row_examples.specs.Acts.{acts_over, records, one, both, second, none, to, takes}

-- the first n bytes to output 0 and then the rest to output 1
at_two : acts_over (Chop 2) both (records "abc") ≡ to 0 "ab" ∷ to 1 "c" ∷ takes ∷ []
at_two = refl

-- a record of n bytes or fewer leaves an empty rest, which is written
empty_rest : acts_over (Chop 2) both (records "ab|a|") ≡ to 0 "ab" ∷ to 1 "" ∷ takes ∷ to 0 "a" ∷ to 1 "" ∷ takes ∷ to 0 "" ∷ to 1 "" ∷ takes ∷ []
empty_rest = refl

-- with 0 all is rest
at_none : acts_over (Chop 0) both (records "ab") ≡ to 0 "" ∷ to 1 "ab" ∷ takes ∷ []
at_none = refl

-- without output 1 the rest isn't written
front_alone : acts_over (Chop 2) one (records "abc|a") ≡ to 0 "ab" ∷ takes ∷ to 0 "a" ∷ takes ∷ []
front_alone = refl

-- without output 0 the front isn't written
rest_alone : acts_over (Chop 2) second (records "abc|a") ≡ to 1 "c" ∷ takes ∷ to 1 "" ∷ takes ∷ []
rest_alone = refl

-- both pairs of a record come before it is taken
pairs_first : acts_over (Chop 1) both (records "ab|cd") ≡ to 0 "a" ∷ to 1 "b" ∷ takes ∷ to 0 "c" ∷ to 1 "d" ∷ takes ∷ []
pairs_first = refl

-- without outputs each record is taken
no_outputs : acts_over (Chop 1) none (records "ab|c") ≡ takes ∷ takes ∷ []
no_outputs = refl

-- at 80, the number where none is given
at_eighty : acts_over (Chop 80) both (records "abc") ≡ to 0 "abc" ∷ to 1 "" ∷ takes ∷ []
at_eighty = refl
