-- TAKE FIRST and TAKE LAST.
use Rattle.std.specs.Prelude.{◌≡◌, [], ◌∷◌, refl}
use Rattle.pipe_model.specs.declared.kind.Kind.TheVariants.{TakeFirst, TakeLast}
use Rattle.pipe_model.specs.declared.kind.Times.TheVariants.{Only, All}
use Rattle.row_examples.specs.Acts.{acts_over, records, one, both, second, none, to, takes}

-- with output 1 connected it goes on behind the first n
first_two : acts_over (TakeFirst (Only 2)) both (records "a|b|c|d") ≡ to 0 "a" ∷ takes ∷ to 0 "b" ∷ takes ∷ to 1 "c" ∷ takes ∷ to 1 "d" ∷ takes ∷ []
first_two = refl

-- without output 1 it stops after n records
stops_after_one : acts_over (TakeFirst (Only 1)) one (records "a|b|c") ≡ to 0 "a" ∷ takes ∷ []
stops_after_one = refl

-- it stops after the n-th record and not before the end of input
stops_after_two : acts_over (TakeFirst (Only 2)) one (records "a|b|c") ≡ to 0 "a" ∷ takes ∷ to 0 "b" ∷ takes ∷ []
stops_after_two = refl

-- fewer records than n are all selected
few : acts_over (TakeFirst (Only 3)) one (records "a|b") ≡ to 0 "a" ∷ takes ∷ to 0 "b" ∷ takes ∷ []
few = refl

-- with 0 and without output 1 it reads nothing
reads_nothing : acts_over (TakeFirst (Only 0)) one (records "a|b") ≡ []
reads_nothing = refl

-- with 0 and with output 1 all go there
none_selected : acts_over (TakeFirst (Only 0)) both (records "a|b") ≡ to 1 "a" ∷ takes ∷ to 1 "b" ∷ takes ∷ []
none_selected = refl

-- `*` selects all, and never stops
all_selected : acts_over (TakeFirst All) one (records "a|b|c") ≡ to 0 "a" ∷ takes ∷ to 0 "b" ∷ takes ∷ to 0 "c" ∷ takes ∷ []
all_selected = refl

-- it stops by what stands at output 1, also where output 0 isn't connected
without_first_output : acts_over (TakeFirst (Only 1)) second (records "a|b") ≡ takes ∷ to 1 "b" ∷ takes ∷ []
without_first_output = refl

-- no output at all: after n records it has nothing more to do
no_outputs : acts_over (TakeFirst (Only 1)) none (records "a|b") ≡ takes ∷ []
no_outputs = refl

-- the record is taken before another one leaves the window, and the window comes at the end
last_two : acts_over (TakeLast (Only 2)) both (records "a|b|c|d") ≡ takes ∷ takes ∷ takes ∷ to 1 "a" ∷ takes ∷ to 1 "b" ∷ to 0 "c" ∷ to 0 "d" ∷ []
last_two = refl

-- the window alone, with output 1 not connected
last_two_alone : acts_over (TakeLast (Only 2)) one (records "a|b|c") ≡ takes ∷ takes ∷ takes ∷ to 0 "b" ∷ to 0 "c" ∷ []
last_two_alone = refl

-- fewer records than n stay in the window
few_last : acts_over (TakeLast (Only 3)) both (records "a|b") ≡ takes ∷ takes ∷ to 0 "a" ∷ to 0 "b" ∷ []
few_last = refl

-- with 0 each record leaves at once
last_none : acts_over (TakeLast (Only 0)) both (records "a|b") ≡ takes ∷ to 1 "a" ∷ takes ∷ to 1 "b" ∷ []
last_none = refl

-- `*` keeps all
last_all : acts_over (TakeLast All) both (records "a|b|c") ≡ takes ∷ takes ∷ takes ∷ to 0 "a" ∷ to 0 "b" ∷ to 0 "c" ∷ []
last_all = refl

-- no records, no pairs
last_of_nothing : acts_over (TakeLast (Only 2)) both [] ≡ []
last_of_nothing = refl
