-- FIND and NFIND.
use Rattle.std.specs.Prelude.{◌≡◌, [], ◌∷◌, codes, refl}
use Rattle.pipe_model.specs.declared.kind.Kind.TheVariants.{Find, Nfind}
use Rattle.row_examples.specs.Acts.{acts_over, records, one, both, to, takes}

-- an underscore agrees with a blank, and each other byte with itself
underscore : acts_over (Find (codes "a_")) both (records "a b|ab|a_|a") ≡ to 0 "a b" ∷ takes ∷ to 1 "ab" ∷ takes ∷ to 1 "a_" ∷ takes ∷ to 1 "a" ∷ takes ∷ []
underscore = refl

-- a blank agrees with any byte, and with none
blank : acts_over (Find (codes "a c")) both (records "abc|a c|ac|a") ≡ to 0 "abc" ∷ takes ∷ to 0 "a c" ∷ takes ∷ to 1 "ac" ∷ takes ∷ to 1 "a" ∷ takes ∷ []
blank = refl

-- blanks at the end of the text agree with nothing more in the record
blanks_at_end : acts_over (Find (codes "a  ")) both (records "a|ab|abcd|b") ≡ to 0 "a" ∷ takes ∷ to 0 "ab" ∷ takes ∷ to 0 "abcd" ∷ takes ∷ to 1 "b" ∷ takes ∷ []
blanks_at_end = refl

-- the text stands at the front
at_front : acts_over (Find (codes "b")) both (records "ab|b|") ≡ to 1 "ab" ∷ takes ∷ to 0 "b" ∷ takes ∷ to 1 "" ∷ takes ∷ []
at_front = refl

-- a text of blanks agrees with every record
all_blank : acts_over (Find (codes " ")) both (records "a|| ") ≡ to 0 "a" ∷ takes ∷ to 0 "" ∷ takes ∷ to 0 " " ∷ takes ∷ []
all_blank = refl

-- case counts
case : acts_over (Find (codes "A")) both (records "a|A") ≡ to 1 "a" ∷ takes ∷ to 0 "A" ∷ takes ∷ []
case = refl

-- a byte that comes behind the record's end agrees only where it is a blank
behind_end : acts_over (Find (codes "a b")) both (records "a|ax|axb") ≡ to 1 "a" ∷ takes ∷ to 1 "ax" ∷ takes ∷ to 0 "axb" ∷ takes ∷ []
behind_end = refl

-- NFIND is the other way
not_found : acts_over (Nfind (codes "a_")) both (records "a b|ab|") ≡ to 1 "a b" ∷ takes ∷ to 0 "ab" ∷ takes ∷ to 0 "" ∷ takes ∷ []
not_found = refl

-- NFIND selects a shorter record, unless blanks alone are behind its end
not_found_short : acts_over (Nfind (codes "a  c")) both (records "a|abbc|ab") ≡ to 0 "a" ∷ takes ∷ to 1 "abbc" ∷ takes ∷ to 0 "ab" ∷ takes ∷ []
not_found_short = refl

-- NFIND of blanks selects nothing
not_blank : acts_over (Nfind (codes " ")) both (records "a|") ≡ to 1 "a" ∷ takes ∷ to 1 "" ∷ takes ∷ []
not_blank = refl

-- with one output those that are found are taken, and not written
drops_found : acts_over (Nfind (codes "ab")) one (records "abab|ab|aab") ≡ takes ∷ takes ∷ to 0 "aab" ∷ takes ∷ []
drops_found = refl
