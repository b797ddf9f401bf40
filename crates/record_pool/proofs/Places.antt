-- What a change of one place does to the list of places.
use Rattle.std.proofs.Common.{◌≡◌, ◌≢◌, ℕ, ◌+◌, ◌<◌, zero, suc, List, [], ◌∷◌, ◌++◌, length, get_or, refl, ap, ◌∙◌, arith}
use Rattle.std.proofs.Math.ListN.{set}
use Rattle.std.specs.Prelude.{Option, None, IsSome}
use Rattle.std.specs.List.{sum_by}
use Rattle.std.proofs.lemmas.List.Sums.{sum_by-cons}
use Rattle.record_pool.specs.PoolState.{Held}
use Rattle.record_pool.specs.Places.{place_at, with_place}

-- the place that was changed
pub place_at-same : (places : List (Option Held)) (p : ℕ) (now : Option Held) → place_at (with_place places p now) p ≡ now
place_at-same [] zero now = refl
place_at-same [] (suc p) now = place_at-same [] p now
place_at-same (place ∷ rest) zero now = refl
place_at-same (place ∷ rest) (suc p) now = place_at-same rest p now

-- the other places
pub place_at-other : (places : List (Option Held)) (p q : ℕ) (now : Option Held) → q ≢ p → place_at (with_place places p now) q ≡ place_at places q
place_at-other [] zero zero now apart = absurd (apart refl)
place_at-other [] zero (suc q) now apart = refl
place_at-other [] (suc p) zero now apart = refl
place_at-other [] (suc p) (suc q) now apart = place_at-other [] p q now (λ e. apart (ap suc e))
place_at-other (place ∷ rest) zero zero now apart = absurd (apart refl)
place_at-other (place ∷ rest) zero (suc q) now apart = refl
place_at-other (place ∷ rest) (suc p) zero now apart = refl
place_at-other (place ∷ rest) (suc p) (suc q) now apart = place_at-other rest p q now (λ e. apart (ap suc e))

-- a record is at one of the places
pub place_at-within : (places : List (Option Held)) (p : ℕ) → IsSome (place_at places p) → p < length places
place_at-within [] p held = cc
place_at-within (place ∷ rest) zero held = omega arith
place_at-within (place ∷ rest) (suc p) held = omega (arith, place_at-within rest p held)

-- within the list the change is a write
pub with_place-set : (places : List (Option Held)) (p : ℕ) (now : Option Held) → p < length places → with_place places p now ≡ set places p now
with_place-set [] p now within = absurd (omega arith)
with_place-set (place ∷ rest) zero now within = refl
with_place-set (place ∷ rest) (suc p) now within = ap (λ (xs : List (Option Held)). place ∷ xs) (with_place-set rest p now (omega arith))

-- at its end it adds a place
pub with_place-end : (places : List (Option Held)) (now : Option Held) → with_place places (length places) now ≡ places ++ now ∷ []
with_place-end [] now = refl
with_place-end (place ∷ rest) now = ap (λ (xs : List (Option Held)). place ∷ xs) (with_place-end rest now)

-- a sum over the places changes by the term of the place
pub sum_by-with_place : (f : Option Held → ℕ) → f None ≡ 0 → (places : List (Option Held)) (p : ℕ) (now : Option Held) → sum_by f (with_place places p now) + f (place_at places p) ≡ sum_by f places + f now
sum_by-with_place f none [] zero now = omega (arith, none)
sum_by-with_place f none [] (suc p) now = omega (arith, none, sum_by-cons f None (with_place [] p now), sum_by-with_place f none [] p now)
sum_by-with_place f none (place ∷ rest) zero now = omega (arith, sum_by-cons f now rest, sum_by-cons f place rest)
sum_by-with_place f none (place ∷ rest) (suc p) now = omega (arith, sum_by-cons f place (with_place rest p now), sum_by-cons f place rest, sum_by-with_place f none rest p now)

-- within the list the default of a read does not matter
pub get_or-any : (places : List (Option Held)) (p : ℕ) (d e : Option Held) → p < length places → get_or places p d ≡ get_or places p e
get_or-any [] p d e within = absurd (omega arith)
get_or-any (place ∷ rest) zero d e within = refl
get_or-any (place ∷ rest) (suc p) d e within = get_or-any rest p d e (omega arith)

-- past the last place there is none
pub place_at-end : (places : List (Option Held)) → place_at places (length places) ≡ None
place_at-end [] = refl
place_at-end (place ∷ rest) = place_at-end rest

-- what a read of a held place finds
pub read_held : (places : List (Option Held)) (p : ℕ) (was : Option Held) → IsSome (place_at places p) → was ≡ get_or places p was → was ≡ place_at places p
read_held places p was held e = e ∙ get_or-any places p was None (place_at-within places p held)
