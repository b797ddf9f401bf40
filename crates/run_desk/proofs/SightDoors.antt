-- The sights of a strand's inputs, by their numbers.
use Rattle.std.proofs.Common.{◌≡◌, ◌≢◌, ℕ, zero, suc, ◌+◌, ◌<◌, ◌≤◌, Bool, true, false, cond, List, [], ◌∷◌, length, drop, refl, ◌∙◌, ap, arith, Option, Some, None, slice_get}
use Rattle.std.specs.Option.{option_map}
use Rattle.std.proofs.lemmas.Bool.{eqb-true}
use Rattle.run_desk.specs.Desk.{DoorsState}
use Rattle.run_desk.specs.Telling.{joined, inputs_of, numbered, sights_of, sight_through}
use Rattle.run_desk.specs.Turns.{list_changed_behind, sights_without}
use Rattle.run_desk.proofs.Lists.{leads, leads_any, map_same, changed_there, sights_without_at, which_leads}

-- Numbers

-- the number at a place, which is one of the inputs
pub numbered_at : (n : ℕ) (doors : List (Option ℕ)) (i m : ℕ) → joined (slice_get (numbered n doors) i) ≡ Some m → (m ≡ n + i) × (i < length doors)
numbered_at n [] i m at = cc
numbered_at n (door ∷ doors) zero m at = let same : n ≡ m = cc in (omega (arith, same), omega arith)
numbered_at n (door ∷ doors) (suc i) m at = let rest = numbered_at (suc n) doors i m at in (omega (arith, rest.0), omega (arith, rest.1))

-- each of the inputs has its number, and nothing else has
pub numbered_in : (n : ℕ) (doors : List (Option ℕ)) (i : ℕ) → i < length doors → joined (slice_get (numbered n doors) i) ≡ Some (n + i)
numbered_in n [] i within = absurd (omega (arith, within))
numbered_in n (door ∷ doors) zero within = ap Some (let e : n ≡ n + 0 = omega arith in e)
numbered_in n (door ∷ doors) (suc i) within = numbered_in (suc n) doors i (omega (arith, within)) ∙ ap Some (let e : suc n + i ≡ n + suc i = omega arith in e)

pub numbered_out : (n : ℕ) (doors : List (Option ℕ)) (i : ℕ) → length doors ≤ i → joined (slice_get (numbered n doors) i) ≡ None
numbered_out n [] i past = refl
numbered_out n (door ∷ doors) zero past = absurd (omega (arith, past))
numbered_out n (door ∷ doors) (suc i) past = numbered_out (suc n) doors i (omega (arith, past))

-- as many doors have the same numbers
pub numbered_long : (n : ℕ) (doors others : List (Option ℕ)) → length doors ≡ length others → numbered n doors ≡ numbered n others
numbered_long n [] [] long = refl
numbered_long n [] (other ∷ others) long = absurd (omega (arith, long))
numbered_long n (door ∷ doors) [] long = absurd (omega (arith, long))
numbered_long n (door ∷ doors) (other ∷ others) long = ap (λ xs. Some n ∷ xs) (numbered_long (suc n) doors others (omega (arith, long)))

numbered_there : (n : ℕ) (doors : List (Option ℕ)) (i j : ℕ) → joined (slice_get doors i) ≡ Some j → (m : ℕ) × (joined (slice_get (numbered n doors) i) ≡ Some m)
numbered_there n [] i j at = cc
numbered_there n (door ∷ doors) zero j at = (n, refl)
numbered_there n (door ∷ doors) (suc i) j at = numbered_there (suc n) doors i j at

-- an input that leads to a link has a sight
pub has_sight : (doors : Option DoorsState) (i j : ℕ) → joined (slice_get (inputs_of doors) i) ≡ Some j → (m : ℕ) × (joined (slice_get (sights_of doors) i) ≡ Some m)
has_sight None i j at = cc
has_sight (Some doors) i j at = numbered_there doors.first_sight doors.inputs i j at

-- What stays

-- where another sight changes, this one stays
pub through_changed : (sights : List (Option ℕ)) (f : Option ℕ → Option ℕ) (n : ℕ) (door : Option ℕ) → door ≢ Some n → sight_through (list_changed_behind sights f (Some n)) door ≡ sight_through sights door
through_changed sights f n None apart = refl
through_changed sights f n (Some m) apart = ap joined (changed_there sights f n m (λ e. apart (ap Some e)))

-- the door of a number leads there
led_there : (n : ℕ) (door : Option ℕ) → leads n door ≡ true → door ≡ Some n
led_there n None is = cc
led_there n (Some m) is = ap Some (eqb-true m n is)

-- where others are given back, this one stays
pub through_without : (doors sights : List (Option ℕ)) (door : Option ℕ) → ((i m : ℕ) → joined (slice_get doors i) ≡ Some m → door ≢ Some m) → sight_through (sights_without doors sights) door ≡ sight_through sights door
through_without doors sights None apart = refl
through_without doors sights (Some n) apart = by (leads_any n doors) refl
  where
    by : (b : Bool) → leads_any n doors ≡ b → sight_through (sights_without doors sights) (Some n) ≡ sight_through sights (Some n)
    by true is = let w = which_leads n doors is in absurd (apart w.0 n (led_there n (joined (slice_get doors w.0)) w.1) refl)
    by false is =
        ap joined (sights_without_at doors sights n ∙ ap (λ (b : Bool). option_map (λ (sight : Option ℕ). cond b None sight) (slice_get sights n)) is ∙ map_same (slice_get sights n))

-- Some inputs after the others

drop_next : (n : ℕ) (doors : List (Option ℕ)) (k : ℕ) → k < length doors → numbered n (drop k doors) ≡ Some n ∷ numbered (suc n) (drop (suc k) doors)
drop_next n [] k within = absurd (omega (arith, within))
drop_next n (door ∷ doors) zero within = refl
drop_next n (door ∷ doors) (suc k) within = drop_next n doors k (omega (arith, within))

-- behind the first so many inputs comes the one of that number
pub numbered_drop : (n : ℕ) (doors : List (Option ℕ)) (k : ℕ) → k < length doors → numbered n (drop k doors) ≡ Some n ∷ numbered (n + 1) (drop (k + 1) doors)
numbered_drop n doors k within =
    drop_next n doors k within ∙ ap (λ m. Some n ∷ numbered m (drop (suc k) doors)) (let e : suc n ≡ n + 1 = omega arith in e)
    ∙ ap (λ m. Some n ∷ numbered (n + 1) (drop m doors)) (let e : suc k ≡ k + 1 = omega arith in e)
