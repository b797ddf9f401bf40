-- PAD.
use Rattle.std.specs.Prelude.{◌≡◌, true, false, [], ◌∷◌, refl}
use Rattle.pipe_model.specs.declared.kind.Kind.TheVariants.{Pad}
use Rattle.row_examples.specs.Acts.{acts_over, records, one, to, takes}

-- on the right
right : acts_over (Pad false 4 32) one (records "ab|") ≡ to 0 "ab  " ∷ takes ∷ to 0 "    " ∷ takes ∷ []
right = refl

-- on the left
left : acts_over (Pad true 4 46) one (records "ba") ≡ to 0 "..ba" ∷ takes ∷ []
left = refl

-- with another byte
with_star : acts_over (Pad false 3 42) one (records "a|ab") ≡ to 0 "a**" ∷ takes ∷ to 0 "ab*" ∷ takes ∷ []
with_star = refl

-- a longer record stays
longer : acts_over (Pad false 2 42) one (records "abc|ab") ≡ to 0 "abc" ∷ takes ∷ to 0 "ab" ∷ takes ∷ []
longer = refl

-- a longer record stays on the left too
longer_left : acts_over (Pad true 2 42) one (records "abc|ab") ≡ to 0 "abc" ∷ takes ∷ to 0 "ab" ∷ takes ∷ []
longer_left = refl

-- with 0 all records stay
to_none : acts_over (Pad true 0 42) one (records "a|") ≡ to 0 "a" ∷ takes ∷ to 0 "" ∷ takes ∷ []
to_none = refl

-- a record of just the width stays
as_wide : acts_over (Pad true 2 42) one (records "ab") ≡ to 0 "ab" ∷ takes ∷ []
as_wide = refl

-- blanks at the end count
blanks_count : acts_over (Pad false 3 42) one (records "a ") ≡ to 0 "a *" ∷ takes ∷ []
blanks_count = refl
