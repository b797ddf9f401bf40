-- BUFFER and COPY.
use Rattle.std.specs.Prelude.{◌≡◌, ◌||◌, ◌&&◌, not, true, false, [], ◌∷◌, refl}
use Rattle.pipe_model.specs.declared.kind.Kind.TheVariants.{Buffer, Copy}
use Rattle.pipe_model.specs.Table.{form}
use Rattle.row_examples.specs.Acts.{strand, acts_over, records, one, none, to, takes}

-- BUFFER writes nothing before the end of input
buffered : acts_over Buffer one (records "a|b|c") ≡ takes ∷ takes ∷ takes ∷ to 0 "a" ∷ to 0 "b" ∷ to 0 "c" ∷ []
buffered = refl

-- no records, no pairs
buffered_none : acts_over Buffer one [] ≡ []
buffered_none = refl

-- without an output it takes all
buffered_no_output : acts_over Buffer none (records "a|b") ≡ takes ∷ takes ∷ []
buffered_no_output = refl

-- empty records are kept too
buffered_empty : acts_over Buffer one (records "|a") ≡ takes ∷ takes ∷ to 0 "" ∷ to 0 "a" ∷ []
buffered_empty = refl

-- COPY takes each record before it writes it
copied : acts_over Copy one (records "a|b") ≡ takes ∷ to 0 "a" ∷ takes ∷ to 0 "b" ∷ []
copied = refl

-- so neither of them is thin
thick : (form (strand Buffer one)).thin || (form (strand Copy one)).thin ≡ false
thick = refl

-- BUFFER keeps the order
buffered_order : acts_over Buffer one (records "c|a|b") ≡ takes ∷ takes ∷ takes ∷ to 0 "c" ∷ to 0 "a" ∷ to 0 "b" ∷ []
buffered_order = refl

-- BUFFER looks at what it keeps, and COPY passes on what it saw
looks : (form (strand Buffer one)).looks && not (form (strand Copy one)).looks ≡ true
looks = refl
