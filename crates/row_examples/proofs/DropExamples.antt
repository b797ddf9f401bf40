-- DROP FIRST and DROP LAST.
use Rattle.std.specs.Prelude.{◌≡◌, [], ◌∷◌, refl}
use Rattle.pipe_model.specs.declared.kind.Kind.TheVariants.{DropFirst, DropLast}
use Rattle.pipe_model.specs.declared.kind.Times.TheVariants.{Only, All}
use Rattle.row_examples.specs.Acts.{acts_over, records, one, both, second, to, takes}

-- the first n go to output 1, the others to output 0
first_two : acts_over (DropFirst (Only 2)) both (records "a|b|c|d") ≡ to 1 "a" ∷ takes ∷ to 1 "b" ∷ takes ∷ to 0 "c" ∷ takes ∷ to 0 "d" ∷ takes ∷ []
first_two = refl

-- without output 1 the first n are taken, and not written
first_alone : acts_over (DropFirst (Only 1)) one (records "a|b|c") ≡ takes ∷ to 0 "b" ∷ takes ∷ to 0 "c" ∷ takes ∷ []
first_alone = refl

-- with 0 all go to output 0
none_dropped : acts_over (DropFirst (Only 0)) both (records "a|b") ≡ to 0 "a" ∷ takes ∷ to 0 "b" ∷ takes ∷ []
none_dropped = refl

-- `*` drops all, and never stops
all_dropped : acts_over (DropFirst All) both (records "a|b|c") ≡ to 1 "a" ∷ takes ∷ to 1 "b" ∷ takes ∷ to 1 "c" ∷ takes ∷ []
all_dropped = refl

-- fewer records than n are all dropped
few : acts_over (DropFirst (Only 3)) both (records "a|b") ≡ to 1 "a" ∷ takes ∷ to 1 "b" ∷ takes ∷ []
few = refl

-- it goes on where only output 1 is connected
second_alone : acts_over (DropFirst (Only 1)) second (records "a|b|c") ≡ to 1 "a" ∷ takes ∷ takes ∷ takes ∷ []
second_alone = refl

-- a record goes to output 0 when n others have come behind it, and the window to output 1
last_two : acts_over (DropLast (Only 2)) both (records "a|b|c|d") ≡ takes ∷ takes ∷ takes ∷ to 0 "a" ∷ takes ∷ to 0 "b" ∷ to 1 "c" ∷ to 1 "d" ∷ []
last_two = refl

-- without output 1 the window isn't written
last_alone : acts_over (DropLast (Only 1)) one (records "a|b|c") ≡ takes ∷ takes ∷ to 0 "a" ∷ takes ∷ to 0 "b" ∷ []
last_alone = refl

-- with 0 each record goes on, behind its taking
last_none : acts_over (DropLast (Only 0)) both (records "a|b") ≡ takes ∷ to 0 "a" ∷ takes ∷ to 0 "b" ∷ []
last_none = refl

-- `*` keeps all in the window
last_all : acts_over (DropLast All) both (records "a|b") ≡ takes ∷ takes ∷ to 1 "a" ∷ to 1 "b" ∷ []
last_all = refl
