-- BLOCK.
use Rattle.std.specs.Prelude.{◌≡◌, [], ◌∷◌, false, pos, replicate, codes, refl}
use Rattle.pipe_model.specs.declared.kind.Kind.TheVariants.{Block}
use Rattle.pipe_model.specs.declared.kind.Image.TheVariants.{Fixed, Linend, Text, Sf}
use Rattle.pipe_model.specs.Row.Act.{Writes}
use Rattle.pipe_model.specs.Table.{form, line_of}
use Rattle.row_examples.specs.Acts.{strand, acts_over, code_over, records, one, to, takes}

-- the records as they are
fixed : acts_over (Block 3 Fixed) one (records "ab|cde|f") ≡ takes ∷ takes ∷ to 0 "abc" ∷ takes ∷ to 0 "def" ∷ []
fixed = refl

-- each with a line feed
linend : acts_over (Block 3 Linend) one (records "ab||c") ≡ takes ∷ Writes 0 (97 ∷ 98 ∷ 10 ∷ []) ∷ takes ∷ takes ∷ Writes 0 (10 ∷ 99 ∷ 10 ∷ []) ∷ []
linend = refl

-- each with a string
string : acts_over (Block 4 (Text (codes ", "))) one (records "ab|c|d") ≡ takes ∷ to 0 "ab, " ∷ takes ∷ takes ∷ to 0 "c, d" ∷ to 0 ", " ∷ []
string = refl

-- each behind its length, which counts its own two bytes
sf : acts_over (Block 64 Sf) one (records "a") ≡ takes ∷ Writes 0 (0 ∷ 3 ∷ 97 ∷ []) ∷ []
sf = refl

-- an empty record has a length too
sf_empty : acts_over (Block 3 Sf) one (records "a||") ≡ takes ∷ Writes 0 (0 ∷ 3 ∷ 97 ∷ []) ∷ takes ∷ takes ∷ Writes 0 (0 ∷ 2 ∷ 0 ∷ []) ∷ Writes 0 (2 ∷ []) ∷ []
sf_empty = refl

-- the higher byte comes first
sf_high : acts_over (Block 2 Sf) one (replicate 254 97 ∷ replicate 255 97 ∷ []) ≡ acts_over (Block 2 Fixed) one ((1 ∷ 0 ∷ replicate 254 97) ∷ (1 ∷ 1 ∷ replicate 255 97) ∷ [])
sf_high = refl

-- without a fill the rest stays, however short
rest : acts_over (Block 100 Fixed) one (records "a|b") ≡ takes ∷ takes ∷ to 0 "ab" ∷ []
rest = refl

-- a record whose length doesn't fit into two bytes ends it with code 8, without pairs
too_long : acts_over (Block 1 Sf) one (replicate 65534 97 ∷ (98 ∷ []) ∷ []) ≡ takes ∷ []
too_long = refl

too_long_code : code_over (Block 1 Sf) one (replicate 65534 97 ∷ (98 ∷ []) ∷ []) ≡ pos 8
too_long_code = refl

-- behind it the rest is not written either
no_rest : acts_over (Block 100 Sf) one ((98 ∷ []) ∷ replicate 65534 97 ∷ []) ≡ takes ∷ takes ∷ []
no_rest = refl

longest_code : code_over (Block 1048576 Sf) one (replicate 65533 97 ∷ []) ≡ pos 0
longest_code = refl

-- in the other forms a record may have any length
any_length : code_over (Block 1048576 Linend) one (replicate 65534 97 ∷ []) ≡ pos 0
any_length = refl

no_records : acts_over (Block 3 Linend) one [] ≡ []
no_records = refl

not_thin : (form (strand (Block 1 Fixed) one)).thin ≡ false
not_thin = refl

no_size : (line_of (Block 0 Fixed)).proper ≡ false
no_size = refl

-- the string isn't empty
empty_string : (line_of (Block 3 (Text []))).proper ≡ false
empty_string = refl
