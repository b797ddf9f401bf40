-- REVERSE.
use Rattle.std.specs.Prelude.{◌≡◌, [], ◌∷◌, refl}
use Rattle.pipe_model.specs.declared.kind.Kind.TheVariants.{Reverse}
use Rattle.row_examples.specs.Acts.{acts_over, records, one, none, to, takes}

-- the bytes in reverse order
reversed : acts_over Reverse one (records "ab|abc") ≡ to 0 "ba" ∷ takes ∷ to 0 "cba" ∷ takes ∷ []
reversed = refl

-- a record of one byte or none stays
short : acts_over Reverse one (records "a|") ≡ to 0 "a" ∷ takes ∷ to 0 "" ∷ takes ∷ []
short = refl

-- blanks at the ends change their ends
blanks : acts_over Reverse one (records " ab") ≡ to 0 "ba " ∷ takes ∷ []
blanks = refl

-- each record by itself
each : acts_over Reverse one (records "ab|cd") ≡ to 0 "ba" ∷ takes ∷ to 0 "dc" ∷ takes ∷ []
each = refl

-- without an output nothing is written
no_output : acts_over Reverse none (records "ab") ≡ takes ∷ []
no_output = refl
