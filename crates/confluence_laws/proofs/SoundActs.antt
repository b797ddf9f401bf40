-- Plans that fit: writes, and takings of what is in sight.
use Rattle.std.proofs.Common.{◌≡◌, ℕ, true, false, cond, ◌||◌, ◌==◌, List, [], ◌∷◌, ◌++◌, refl, sym, ◌∙◌, ap, subst}
use Rattle.std.proofs.Math.Bool.{or-true}
use Rattle.pipe_model.specs.Event.{Want}
use Rattle.pipe_model.specs.Row.{Pair, Act, Goal, Known, sees, without}
use Rattle.pipe_model.specs.Row.Act.{Writes, Repeats, Takes}
use Rattle.pipe_model.specs.Shape.{writes}
use Rattle.pipe_model.proofs.Numbers.{test_same}
use Rattle.confluence_laws.proofs.Facts.{Fits, ThinActs, NoRepeats, has_take, taken}

-- writes come first: what follows them fits
pub fits_writes : (A : Known → Want → Type 0) (k : Known) (ps : List Pair) (acts : List Act) (goal : Goal) → Fits A k acts goal → Fits A k (writes ps ++ acts) goal
fits_writes A k [] acts goal fits = fits
fits_writes A k (p ∷ ps) acts goal fits = fits_writes A k ps acts goal fits

-- nothing but writes
pub fits_only : (A : Known → Want → Type 0) (k : Known) (ps : List Pair) (goal : Goal) → Fits A k [] goal → Fits A k (writes ps) goal
fits_only A k [] goal fits = fits
fits_only A k (p ∷ ps) goal fits = fits_only A k ps goal fits

-- some acts more
pub fits_then : (A : Known → Want → Type 0) (k : Known) (ps : List Pair) (i : ℕ) (acts : List Act) (goal : Goal) → sees i k.sight ≡ true → Fits A (taken i k) acts goal → Fits A k ((writes ps ++ Takes i ∷ []) ++ acts) goal
fits_then A k [] i acts goal sight fits = (sight, fits)
fits_then A k (p ∷ ps) i acts goal sight fits = fits_then A k ps i acts goal sight fits

-- writes and then a taking are what a thin row does
pub thin_writes : (ps : List Pair) (i : ℕ) → (has_take (writes ps ++ Takes i ∷ []) ≡ true) × ThinActs (writes ps ++ Takes i ∷ [])
thin_writes [] i = (refl, tt)
thin_writes (p ∷ ps) i = let rest = thin_writes ps i in (rest.0, rest)

-- writes add no endless pairs
pub no_repeats : (ps : List Pair) (acts : List Act) → NoRepeats acts → NoRepeats (writes ps ++ acts)
no_repeats [] acts none = none
no_repeats (p ∷ ps) acts none = no_repeats ps acts none

-- and are none
pub only_writes : (ps : List Pair) → NoRepeats (writes ps)
only_writes [] = tt
only_writes (p ∷ ps) = only_writes ps

-- nor do some acts more
pub both_repeats : (acts more : List Act) → NoRepeats acts → NoRepeats more → NoRepeats (acts ++ more)
both_repeats [] more none none_more = none_more
both_repeats (Writes o rec ∷ acts) more none none_more = both_repeats acts more none none_more
both_repeats (Repeats o rec ∷ acts) more none none_more = absurd none
both_repeats (Takes i ∷ acts) more none none_more = both_repeats acts more none none_more

-- a record that was just seen is in sight
pub sees_new : (sight : List Pair) (i : ℕ) (rec : List ℕ) → sees i (sight ++ (i, rec) ∷ []) ≡ true
sees_new [] i rec = ap (λ b. b || false) (test_same i)
sees_new (p ∷ ps) i rec = ap (λ b. (p.0 == i) || b) (sees_new ps i rec) ∙ or-true (p.0 == i)

-- and where none was in sight before, none is once it is taken
pub without_new : (sight : List Pair) (i : ℕ) (rec : List ℕ) → sight ≡ [] → without i (without i sight ++ (i, rec) ∷ []) ≡ []
without_new sight i rec none = subst (λ z. without i (without i z ++ (i, rec) ∷ []) ≡ []) (sym none) (ap (λ b. cond b [] ((i, rec) ∷ [])) (test_same i))
