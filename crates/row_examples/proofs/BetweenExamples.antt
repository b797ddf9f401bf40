-- BETWEEN and INSIDE.
use Rattle.std.specs.Prelude.{◌≡◌, [], ◌∷◌, codes, refl}
use Rattle.pipe_model.specs.declared.kind.Kind.TheVariants.{Between, Inside}
use Rattle.row_examples.specs.Acts.{acts_over, records, one, both, to, takes}

-- both outer records are selected
both_ends : acts_over (Between (codes "B") (codes "E")) both (records "x|B1|y|E1|z") ≡ to 1 "x" ∷ takes ∷ to 0 "B1" ∷ takes ∷ to 0 "y" ∷ takes ∷ to 0 "E1" ∷ takes ∷ to 1 "z" ∷ takes ∷ []
both_ends = refl

-- again and again
again : acts_over (Between (codes "B") (codes "E")) both (records "B1|E1|x|B2|E2") ≡ to 0 "B1" ∷ takes ∷ to 0 "E1" ∷ takes ∷ to 1 "x" ∷ takes ∷ to 0 "B2" ∷ takes ∷ to 0 "E2" ∷ takes ∷ []
again = refl

-- within a part the first string begins nothing
first_within : acts_over (Between (codes "B") (codes "E")) both (records "B1|B2|E1|E2") ≡ to 0 "B1" ∷ takes ∷ to 0 "B2" ∷ takes ∷ to 0 "E1" ∷ takes ∷ to 1 "E2" ∷ takes ∷ []
first_within = refl

-- the record that begins a part doesn't end it, even where it begins with the second string too
one_record : acts_over (Between (codes "a") (codes "ab")) both (records "ab|x|ab|x") ≡ to 0 "ab" ∷ takes ∷ to 0 "x" ∷ takes ∷ to 0 "ab" ∷ takes ∷ to 1 "x" ∷ takes ∷ []
one_record = refl

-- with one string for both the parts follow one another
one_string : acts_over (Between (codes "-") (codes "-")) both (records "-1|a|-2|b|-3|c") ≡ to 0 "-1" ∷ takes ∷ to 0 "a" ∷ takes ∷ to 0 "-2" ∷ takes ∷ to 1 "b" ∷ takes ∷ to 0 "-3" ∷ takes ∷ to 0 "c" ∷ takes ∷ []
one_string = refl

-- a part that isn't ended goes on to the end of input
unended : acts_over (Between (codes "B") (codes "E")) one (records "x|B|y|z") ≡ takes ∷ to 0 "B" ∷ takes ∷ to 0 "y" ∷ takes ∷ to 0 "z" ∷ takes ∷ []
unended = refl

-- a string is to stand at the front
at_front : acts_over (Between (codes "B") (codes "E")) both (records "xB|E|B|xE") ≡ to 1 "xB" ∷ takes ∷ to 1 "E" ∷ takes ∷ to 0 "B" ∷ takes ∷ to 0 "xE" ∷ takes ∷ []
at_front = refl

-- the second string alone ends nothing
second_alone : acts_over (Between (codes "B") (codes "E")) both (records "E|x|E") ≡ to 1 "E" ∷ takes ∷ to 1 "x" ∷ takes ∷ to 1 "E" ∷ takes ∷ []
second_alone = refl

-- INSIDE leaves out the two outer records
inside : acts_over (Inside (codes "B") (codes "E")) both (records "x|B1|y|E1|z") ≡ to 1 "x" ∷ takes ∷ to 1 "B1" ∷ takes ∷ to 0 "y" ∷ takes ∷ to 1 "E1" ∷ takes ∷ to 1 "z" ∷ takes ∷ []
inside = refl

-- INSIDE, again and again
inside_again : acts_over (Inside (codes "B") (codes "E")) both (records "B|a|E|b|B|c|E") ≡ to 1 "B" ∷ takes ∷ to 0 "a" ∷ takes ∷ to 1 "E" ∷ takes ∷ to 1 "b" ∷ takes ∷ to 1 "B" ∷ takes ∷ to 0 "c" ∷ takes ∷ to 1 "E" ∷ takes ∷ []
inside_again = refl

-- of two adjacent outer records nothing is inside
nothing_inside : acts_over (Inside (codes "B") (codes "E")) one (records "B|E|B|E") ≡ takes ∷ takes ∷ takes ∷ takes ∷ []
nothing_inside = refl

-- within a part a record that begins with the first string is inside
first_inside : acts_over (Inside (codes "B") (codes "E")) one (records "B1|B2|E") ≡ takes ∷ to 0 "B2" ∷ takes ∷ takes ∷ []
first_inside = refl

-- a part that isn't ended is inside to the end of input
unended_inside : acts_over (Inside (codes "B") (codes "E")) one (records "B|y|z") ≡ takes ∷ to 0 "y" ∷ takes ∷ to 0 "z" ∷ takes ∷ []
unended_inside = refl
