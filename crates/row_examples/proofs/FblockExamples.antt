-- FBLOCK.
use Rattle.std.specs.Prelude.{◌≡◌, [], ◌∷◌, true, false, refl}
use Rattle.std.specs.declared.option.Option.TheVariants.{Some, None}
use Rattle.pipe_model.specs.declared.kind.Kind.TheVariants.{Fblock}
use Rattle.pipe_model.specs.Table.{form, line_of}
use Rattle.row_examples.specs.Acts.{strand, acts_over, records, one, to, takes}

-- a block is written with the record that fills it; the last one is filled with the byte
fills : acts_over (Fblock 2 (Some 46)) one (records "abcde") ≡ takes ∷ to 0 "ab" ∷ to 0 "cd" ∷ to 0 "e." ∷ []
fills = refl

-- without a byte the rest stays as it is
rest : acts_over (Fblock 4 None) one (records "ab|cde|f") ≡ takes ∷ takes ∷ to 0 "abcd" ∷ takes ∷ to 0 "ef" ∷ []
rest = refl

-- no rest, no pair
no_rest : acts_over (Fblock 2 (Some 46)) one (records "ab|cd") ≡ takes ∷ to 0 "ab" ∷ takes ∷ to 0 "cd" ∷ []
no_rest = refl

-- several records in one block, and several blocks of one record
several : acts_over (Fblock 3 None) one (records "a|b|cdefgh|") ≡ takes ∷ takes ∷ takes ∷ to 0 "abc" ∷ to 0 "def" ∷ takes ∷ to 0 "gh" ∷ []
several = refl

-- a block of one byte
of_one : acts_over (Fblock 1 None) one (records "ab|c") ≡ takes ∷ to 0 "a" ∷ to 0 "b" ∷ takes ∷ to 0 "c" ∷ []
of_one = refl

-- empty records add nothing
empty_records : acts_over (Fblock 3 (Some 46)) one (records "|") ≡ takes ∷ takes ∷ []
empty_records = refl

no_records : acts_over (Fblock 3 (Some 46)) one [] ≡ []
no_records = refl

not_thin : (form (strand (Fblock 1 None) one)).thin ≡ false
not_thin = refl

-- a size is 1 to 1,048,576
largest : (line_of (Fblock 1048576 None)).proper ≡ true
largest = refl

no_size : (line_of (Fblock 0 None)).proper ≡ false
no_size = refl

too_large : (line_of (Fblock 1048577 (Some 32))).proper ≡ false
too_large = refl
