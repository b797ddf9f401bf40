-- JOIN.
use Rattle.std.specs.Prelude.{◌≡◌, [], ◌∷◌, codes, refl}
use Rattle.pipe_model.specs.declared.kind.Kind.TheVariants.{Join}
use Rattle.pipe_model.specs.declared.kind.Times.TheVariants.{Only, All}
use Rattle.row_examples.specs.Acts.{acts_over, records, one, to, takes}

-- groups of n + 1, each written when its last record was taken
pairs_of_two : acts_over (Join (Only 1) (codes "")) one (records "a|b|c|d") ≡ takes ∷ takes ∷ to 0 "ab" ∷ takes ∷ takes ∷ to 0 "cd" ∷ []
pairs_of_two = refl

-- an unfinished group comes at the end
unfinished : acts_over (Join (Only 1) (codes "-")) one (records "a|b|c") ≡ takes ∷ takes ∷ to 0 "a-b" ∷ takes ∷ to 0 "c" ∷ []
unfinished = refl

-- `*` joins all at the end
all_joined : acts_over (Join All (codes "-")) one (records "one|two") ≡ takes ∷ takes ∷ to 0 "one-two" ∷ []
all_joined = refl

-- with 0 each record is a group
each_alone : acts_over (Join (Only 0) (codes "-")) one (records "a|b") ≡ takes ∷ to 0 "a" ∷ takes ∷ to 0 "b" ∷ []
each_alone = refl

-- three in a group
of_three : acts_over (Join (Only 2) (codes ",")) one (records "a|b|c|d|e") ≡ takes ∷ takes ∷ takes ∷ to 0 "a,b,c" ∷ takes ∷ takes ∷ to 0 "d,e" ∷ []
of_three = refl

-- without records there is no group
no_records : acts_over (Join All (codes "-")) one [] ≡ []
no_records = refl

-- and none is unfinished behind a finished one
nothing_left : acts_over (Join (Only 1) (codes "-")) one (records "a|b") ≡ takes ∷ takes ∷ to 0 "a-b" ∷ []
nothing_left = refl

-- empty records are joined too
empty_records : acts_over (Join (Only 2) (codes "-")) one (records "||") ≡ takes ∷ takes ∷ takes ∷ to 0 "--" ∷ []
empty_records = refl

-- one record of a larger group
one_record : acts_over (Join (Only 9) (codes "-")) one (records "a") ≡ takes ∷ to 0 "a" ∷ []
one_record = refl
