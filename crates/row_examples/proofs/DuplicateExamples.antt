-- DUPLICATE.
use Rattle.std.specs.Prelude.{◌≡◌, true, false, [], ◌∷◌, codes, refl}
use Rattle.pipe_model.specs.declared.kind.Kind.TheVariants.{Duplicate}
use Rattle.pipe_model.specs.declared.kind.Times.TheVariants.{Only, All}
use Rattle.pipe_model.specs.Row.Act.{Repeats}
use Rattle.pipe_model.specs.Table.{form}
use Rattle.row_examples.specs.Acts.{strand, acts_over, records, one, none, to, takes}

-- n more of each record, before it is taken
one_more : acts_over (Duplicate (Only 1)) one (records "a|b") ≡ to 0 "a" ∷ to 0 "a" ∷ takes ∷ to 0 "b" ∷ to 0 "b" ∷ takes ∷ []
one_more = refl

-- with 0 the record alone
none_more : acts_over (Duplicate (Only 0)) one (records "a|b") ≡ to 0 "a" ∷ takes ∷ to 0 "b" ∷ takes ∷ []
none_more = refl

-- three in all
two_more : acts_over (Duplicate (Only 2)) one (records "a") ≡ to 0 "a" ∷ to 0 "a" ∷ to 0 "a" ∷ takes ∷ []
two_more = refl

-- an empty record too
empty : acts_over (Duplicate (Only 1)) one (records "") ≡ to 0 "" ∷ to 0 "" ∷ takes ∷ []
empty = refl

-- `*` writes again and again, and takes the record when the output has refused
without_end : acts_over (Duplicate All) one (records "x") ≡ Repeats 0 (codes "x") ∷ takes ∷ []
without_end = refl

-- without an output each record is taken
no_output : acts_over (Duplicate All) none (records "a|b") ≡ takes ∷ takes ∷ []
no_output = refl

-- and with a number too
no_output_counted : acts_over (Duplicate (Only 2)) none (records "a|b") ≡ takes ∷ takes ∷ []
no_output_counted = refl

-- no records, no pairs
no_records : acts_over (Duplicate (Only 3)) one [] ≡ []
no_records = refl

-- with a number the pairs are finite
finite : (form (strand (Duplicate (Only 3)) one)).finite ≡ true
finite = refl

-- without one they have no end
not_finite : (form (strand (Duplicate All) one)).finite ≡ false
not_finite = refl
