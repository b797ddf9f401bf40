-- STRIP.
use Rattle.std.specs.Prelude.{◌≡◌, true, false, [], ◌∷◌, codes, refl}
use Rattle.pipe_model.specs.declared.kind.Kind.TheVariants.{Strip}
use Rattle.row_examples.specs.Acts.{acts_over, records, one, to, takes}

-- at both ends, and not between
both_ends : acts_over (Strip true true (codes " ")) one (records "  a b |a") ≡ to 0 "a b" ∷ takes ∷ to 0 "a" ∷ takes ∷ []
both_ends = refl

-- at the front alone
leading : acts_over (Strip true false (codes " ")) one (records "  a |a ") ≡ to 0 "a " ∷ takes ∷ to 0 "a " ∷ takes ∷ []
leading = refl

-- at the back alone
trailing : acts_over (Strip false true (codes " ")) one (records "  a | a") ≡ to 0 "  a" ∷ takes ∷ to 0 " a" ∷ takes ∷ []
trailing = refl

-- each byte of the string is removed, in any order
of_a_set : acts_over (Strip true true (codes "ab")) one (records "abbacab|cabc|ba") ≡ to 0 "c" ∷ takes ∷ to 0 "cabc" ∷ takes ∷ to 0 "" ∷ takes ∷ []
of_a_set = refl

-- a record of such bytes becomes empty
all_of_it : acts_over (Strip true false (codes " ")) one (records "   |") ≡ to 0 "" ∷ takes ∷ to 0 "" ∷ takes ∷ []
all_of_it = refl

-- and from the back too
all_from_back : acts_over (Strip false true (codes " ")) one (records "   |") ≡ to 0 "" ∷ takes ∷ to 0 "" ∷ takes ∷ []
all_from_back = refl

-- bytes outside the string stay
others : acts_over (Strip true true (codes "x")) one (records " a ") ≡ to 0 " a " ∷ takes ∷ []
others = refl

-- a byte may stand in the string twice
twice : acts_over (Strip true true (codes "aa")) one (records "aba") ≡ to 0 "b" ∷ takes ∷ []
twice = refl
