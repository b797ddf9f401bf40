-- TOLABEL and FRLABEL.
use Rattle.std.specs.Prelude.{◌≡◌, [], ◌∷◌, codes, refl}
use Rattle.pipe_model.specs.declared.kind.Kind.TheVariants.{ToLabel, FrLabel}
use Rattle.row_examples.specs.Acts.{acts_over, records, one, both, second, none, to, takes}

-- with output 1 connected, the first record that begins with the text and all behind it go there
to_with_second : acts_over (ToLabel (codes "L")) both (records "a|b|L1|c|L2") ≡ to 0 "a" ∷ takes ∷ to 0 "b" ∷ takes ∷ to 1 "L1" ∷ takes ∷ to 1 "c" ∷ takes ∷ to 1 "L2" ∷ takes ∷ []
to_with_second = refl

-- without output 1 it ends at the sight of that record, which isn't taken
to_alone : acts_over (ToLabel (codes "L")) one (records "a|b|L1|c") ≡ to 0 "a" ∷ takes ∷ to 0 "b" ∷ takes ∷ []
to_alone = refl

-- where no record begins with the text all are selected
to_none : acts_over (ToLabel (codes "L")) one (records "a|xL") ≡ to 0 "a" ∷ takes ∷ to 0 "xL" ∷ takes ∷ []
to_none = refl

-- the first record may be the one
to_first : acts_over (ToLabel (codes "L")) one (records "L|a") ≡ []
to_first = refl

-- an empty text is met by every record
to_empty : acts_over (ToLabel (codes "")) both (records "a|b") ≡ to 1 "a" ∷ takes ∷ to 1 "b" ∷ takes ∷ []
to_empty = refl

-- it ends by what stands at output 1, also where output 0 isn't connected
to_second_alone : acts_over (ToLabel (codes "L")) second (records "a|L|b") ≡ takes ∷ to 1 "L" ∷ takes ∷ to 1 "b" ∷ takes ∷ []
to_second_alone = refl

-- no output at all: it still ends at its sight
to_no_outputs : acts_over (ToLabel (codes "L")) none (records "a|L|b") ≡ takes ∷ []
to_no_outputs = refl

-- from the first record that begins with the text on
from : acts_over (FrLabel (codes "L")) both (records "a|L1|b|L2") ≡ to 1 "a" ∷ takes ∷ to 0 "L1" ∷ takes ∷ to 0 "b" ∷ takes ∷ to 0 "L2" ∷ takes ∷ []
from = refl

-- without output 1 what comes before is taken, and not written
from_alone : acts_over (FrLabel (codes "L")) one (records "a|b|L|c") ≡ takes ∷ takes ∷ to 0 "L" ∷ takes ∷ to 0 "c" ∷ takes ∷ []
from_alone = refl

-- it never ends before the end of input
from_none : acts_over (FrLabel (codes "L")) both (records "a|xL") ≡ to 1 "a" ∷ takes ∷ to 1 "xL" ∷ takes ∷ []
from_none = refl

-- an empty text is met by the first record
from_empty : acts_over (FrLabel (codes "")) one (records "a|b") ≡ to 0 "a" ∷ takes ∷ to 0 "b" ∷ takes ∷ []
from_empty = refl
