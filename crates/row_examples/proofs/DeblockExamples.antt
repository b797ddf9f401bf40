-- DEBLOCK.
use Rattle.std.specs.Prelude.{◌≡◌, [], ◌∷◌, false, pos, codes, refl}
use Rattle.pipe_model.specs.declared.kind.Kind.TheVariants.{Deblock}
use Rattle.pipe_model.specs.declared.kind.Cutting.TheVariants.{Fixed, Linend, Text, Sf}
use Rattle.pipe_model.specs.Table.{form, line_of}
use Rattle.row_examples.specs.Acts.{strand, acts_over, code_over, records, one, to, takes}

-- every n bytes, and at the end the rest
fixed : acts_over (Deblock (Fixed 3)) one (records "ab|cdef|g") ≡ takes ∷ takes ∷ to 0 "abc" ∷ to 0 "def" ∷ takes ∷ to 0 "g" ∷ []
fixed = refl

-- after each line feed; a record of the output is written with the record of the input that completes it
linend : acts_over (Deblock Linend) one ((97 ∷ 10 ∷ 98 ∷ []) ∷ (99 ∷ 10 ∷ 10 ∷ []) ∷ []) ≡ takes ∷ to 0 "a" ∷ takes ∷ to 0 "bc" ∷ to 0 "" ∷ []
linend = refl

-- the end of a record ends nothing
linend_rest : acts_over (Deblock Linend) one (records "a|b") ≡ takes ∷ takes ∷ to 0 "ab" ∷ []
linend_rest = refl

-- after each occurrence of a string
string : acts_over (Deblock (Text (codes ","))) one (records "a,b") ≡ takes ∷ to 0 "a" ∷ to 0 "b" ∷ []
string = refl

-- an occurrence may begin in one record and end in another
string_across : acts_over (Deblock (Text (codes "--"))) one (records "a-|-b-|c--") ≡ takes ∷ takes ∷ to 0 "a" ∷ takes ∷ to 0 "b-c" ∷ []
string_across = refl

-- occurrences are found from the left and don't overlap
string_left : acts_over (Deblock (Text (codes "aba"))) one (records "ababa") ≡ takes ∷ to 0 "" ∷ to 0 "ba" ∷ []
string_left = refl

string_twice : acts_over (Deblock (Text (codes "aa"))) one (records "aaaaab") ≡ takes ∷ to 0 "" ∷ to 0 "" ∷ to 0 "ab" ∷ []
string_twice = refl

-- by lengths that count their own two bytes; a length below 2 ends it with code 8, behind the records before it
sf : acts_over (Deblock Sf) one ((0 ∷ 3 ∷ 97 ∷ 0 ∷ 1 ∷ []) ∷ records "b") ≡ takes ∷ to 0 "a" ∷ []
sf = refl

sf_code : code_over (Deblock Sf) one ((0 ∷ 3 ∷ 97 ∷ 0 ∷ 1 ∷ []) ∷ records "b") ≡ pos 8
sf_code = refl

-- a record and its length may come in pieces, and may be empty
sf_pieces : acts_over (Deblock Sf) one ((0 ∷ []) ∷ (4 ∷ 97 ∷ []) ∷ (98 ∷ 0 ∷ 2 ∷ []) ∷ []) ≡ takes ∷ takes ∷ takes ∷ to 0 "ab" ∷ to 0 "" ∷ []
sf_pieces = refl

sf_pieces_code : code_over (Deblock Sf) one ((0 ∷ []) ∷ (4 ∷ 97 ∷ []) ∷ (98 ∷ 0 ∷ 2 ∷ []) ∷ []) ≡ pos 0
sf_pieces_code = refl

-- a rest isn't written, and gives code 8
sf_rest : acts_over (Deblock Sf) one ((0 ∷ 3 ∷ 97 ∷ 0 ∷ 9 ∷ 98 ∷ []) ∷ []) ≡ takes ∷ to 0 "a" ∷ []
sf_rest = refl

sf_rest_code : code_over (Deblock Sf) one ((0 ∷ 3 ∷ 97 ∷ 0 ∷ 9 ∷ 98 ∷ []) ∷ []) ≡ pos 8
sf_rest_code = refl

-- also a rest of one byte
sf_byte_code : code_over (Deblock Sf) one ((0 ∷ 2 ∷ 0 ∷ []) ∷ []) ≡ pos 8
sf_byte_code = refl

no_records : acts_over (Deblock Sf) one [] ≡ []
no_records = refl

no_records_code : code_over (Deblock Sf) one [] ≡ pos 0
no_records_code = refl

not_thin : (form (strand (Deblock Linend) one)).thin ≡ false
not_thin = refl

no_size : (line_of (Deblock (Fixed 0))).proper ≡ false
no_size = refl

empty_string : (line_of (Deblock (Text []))).proper ≡ false
empty_string = refl
