-- How many offers, places in queues and sights hold a record, and how many places the queues have, where one of them changes.
use Rattle.std.proofs.Common.{◌≡◌, ℕ, zero, suc, ◌+◌, ◌==◌, Bool, cond, List, [], ◌∷◌, ◌++◌, length, drop, refl, ◌∙◌, ap, arith, Option, Some, None, slice_get, slice_set, true, ◌<◌}
use Rattle.std.specs.Prelude.{count_by}
use Rattle.std.specs.List.{sum_by}
use Rattle.std.specs.Option.{option_map}
use Rattle.std.proofs.lemmas.List.Sums.{sum_by-cons, sum_by_push}
use Rattle.connectors.specs.WireState.{WireState, waiting_in, lined_up}
use Rattle.run_desk.specs.Telling.{joined, through, sight_through}
use Rattle.run_desk.specs.Holding.{holds, offer_holds, queue_holds, holds_of}
use Rattle.run_desk.specs.Turns.{list_changed_at, list_changed_behind, wires_changed, no_sight}

-- one for what passes a test
abbrev pub one : Bool → ℕ
one b = cond b 1 0

-- how often an offer or a sight holds the record of a grip
abbrev pub hold : ℕ → Option ℕ → ℕ
hold grip x = one (holds grip x)

-- how often a wire does, by its offer and its queue
abbrev pub wire_holds : ℕ → WireState → ℕ
wire_holds grip wire = hold grip wire.offer + queue_holds grip wire

-- how many places in its queue are filled or reserved
abbrev pub places_in : WireState → ℕ
places_in wire = length (waiting_in wire.queue) + one wire.reserved

-- Lists

-- a first item counts for itself
pub count_first : {A : Type 0} (p : A → Bool) (x : A) (xs : List A) → count_by p (x ∷ xs) ≡ one (p x) + count_by p xs
count_first p x xs = sum_by-cons (λ y. one (p y)) x xs

-- and so does a last one
pub count_last : {A : Type 0} (p : A → Bool) (xs : List A) (x : A) → count_by p (xs ++ x ∷ []) ≡ count_by p xs + one (p x)
count_last p xs x = sum_by_push (λ y. one (p y)) xs x

-- where an item passes the test, some do
pub count_some : {A : Type 0} (p : A → Bool) (xs : List A) (k : ℕ) (x : A) → slice_get xs k ≡ Some x → p x ≡ true → 0 < count_by p xs
count_some p [] k x at is = cc
count_some p (z ∷ zs) zero x at is = let same : z ≡ x = cc in omega (arith, count_first p z zs, ap (λ w. one (p w)) same, ap one is)
count_some p (z ∷ zs) (suc k) x at is = omega (arith, count_first p z zs, count_some p zs k x at is)

-- where an item gives something, the sum is something
pub sum_some : {A : Type 0} (h : A → ℕ) (xs : List A) (k : ℕ) (x : A) → slice_get xs k ≡ Some x → 0 < h x → 0 < sum_by h xs
sum_some h [] k x at is = cc
sum_some h (z ∷ zs) zero x at is = let same : z ≡ x = cc in omega (arith, sum_by-cons h z zs, ap h same, is)
sum_some h (z ∷ zs) (suc k) x at is = omega (arith, sum_by-cons h z zs, sum_some h zs k x at is)

-- where one item changes, the sum changes by what the old one and the new one give
pub sum_set : {A : Type 0} (h : A → ℕ) (xs : List A) (k : ℕ) (x y : A) → slice_get xs k ≡ Some x → sum_by h (slice_set xs k y) + h x ≡ sum_by h xs + h y
sum_set h [] k x y at = cc
sum_set h (z ∷ zs) zero x y at =
    let is : z ≡ x = cc in
    omega (arith, sum_by-cons h y zs, sum_by-cons h z zs, ap h is)
sum_set h (z ∷ zs) (suc k) x y at = omega (arith, sum_by-cons h z (slice_set zs k y), sum_by-cons h z zs, sum_set h zs k x y at)

-- and so it is behind a door
pub sum_changed : {A : Type 0} (h : A → ℕ) (f : A → A) (xs : List A) (k : ℕ) (x : A) → slice_get xs k ≡ Some x →
    sum_by h (list_changed_behind xs f (Some k)) + h x ≡ sum_by h xs + h (f x)
sum_changed h f xs k x at = ap (λ z. sum_by h (list_changed_at xs k f z) + h x) at ∙ sum_set h xs k x (f x) at

-- a change that the sum doesn't see
pub sum_still : {A : Type 0} (h : A → ℕ) (f : A → A) → ((x : A) → h (f x) ≡ h x) → (xs : List A) (door : Option ℕ) → sum_by h (list_changed_behind xs f door) ≡ sum_by h xs
sum_still h f same xs None = refl
sum_still {A} h f same xs (Some k) = go (slice_get xs k) refl
  where
    go : (x : Option A) → slice_get xs k ≡ x → sum_by h (list_changed_at xs k f x) ≡ sum_by h xs
    go None at = refl
    go (Some x) at = omega (arith, sum_set h xs k x (f x) at, same x)

-- Wires

-- behind a door that leads to this wire
pub sum_behind : (h : WireState → ℕ) (f : WireState → WireState) (wires : List WireState) (door : Option ℕ) (wire : WireState) → through wires door ≡ Some wire →
    sum_by h (list_changed_behind wires f door) + h wire ≡ sum_by h wires + h (f wire)
sum_behind h f wires None wire at = cc
sum_behind h f wires (Some k) wire at = sum_changed h f wires k wire at

-- behind a door that leads to none nothing changes
pub same_behind : (f : WireState → WireState) (wires : List WireState) (door : Option ℕ) → through wires door ≡ None → list_changed_behind wires f door ≡ wires
same_behind f wires None at = refl
same_behind f wires (Some k) at = ap (list_changed_at wires k f) at

-- what the sum doesn't see of each change, it doesn't see of several
pub sum_all_still : (h : WireState → ℕ) (f : WireState → WireState) → ((wire : WireState) → h (f wire) ≡ h wire) → (doors : List (Option ℕ)) (wires : List WireState) →
    sum_by h (wires_changed f doors wires) ≡ sum_by h wires
sum_all_still h f same [] wires = refl
sum_all_still h f same (door ∷ doors) wires = sum_all_still h f same doors (list_changed_behind wires f door) ∙ sum_still h f same wires door

-- the offers and the queues together
pub wires_hold : (grip : ℕ) (wires : List WireState) → sum_by (wire_holds grip) wires ≡ count_by (offer_holds grip) wires + sum_by (queue_holds grip) wires
wires_hold grip [] = refl
wires_hold grip (wire ∷ wires) =
    omega (arith, sum_by-cons (wire_holds grip) wire wires, count_first (offer_holds grip) wire wires, sum_by-cons (queue_holds grip) wire wires, wires_hold grip wires)

-- where a wire is changed, the holds change by what it held and what it holds then
pub holds_behind : (f : WireState → WireState) (wires : List WireState) (sights : List (Option ℕ)) (door : Option ℕ) (wire : WireState) → through wires door ≡ Some wire →
    (grip : ℕ) → holds_of (list_changed_behind wires f door) sights grip + wire_holds grip wire ≡ holds_of wires sights grip + wire_holds grip (f wire)
holds_behind f wires sights door wire at grip =
    omega (arith, wires_hold grip (list_changed_behind wires f door), wires_hold grip wires, sum_behind (wire_holds grip) f wires door wire at)

-- Queues

-- the oldest record of a queue counts for itself
pub count_oldest : (grip : ℕ) (queue : Option (List ℕ)) →
    count_by (λ held. held == grip) (waiting_in (option_map (drop 1) queue)) + hold grip (slice_get (waiting_in queue) 0) ≡ count_by (λ held. held == grip) (waiting_in queue)
count_oldest grip None = refl
count_oldest grip (Some []) = refl
count_oldest grip (Some (held ∷ more)) = omega (arith, count_first (λ z. z == grip) held more)

-- and so does one that is put in a queue
pub count_lined : (grip : ℕ) (waiting : List ℕ) (offer : Option ℕ) →
    count_by (λ held. held == grip) (waiting_in (lined_up (Some waiting) offer)) ≡ hold grip offer + count_by (λ held. held == grip) waiting
count_lined grip waiting None = omega arith
count_lined grip waiting (Some held) = omega (arith, count_last (λ z. z == grip) waiting held)

-- Sights

-- where the sight behind a door is given back, the count falls by what it held
pub count_unseen : (grip : ℕ) (sights : List (Option ℕ)) (door : Option ℕ) →
    count_by (holds grip) (list_changed_behind sights no_sight door) + hold grip (sight_through sights door) ≡ count_by (holds grip) sights
count_unseen grip sights None = omega arith
count_unseen grip sights (Some k) = go (slice_get sights k) refl
  where
    go : (x : Option (Option ℕ)) → slice_get sights k ≡ x → count_by (holds grip) (list_changed_at sights k no_sight x) + hold grip (joined x) ≡ count_by (holds grip) sights
    go None at = omega arith
    go (Some sight) at = omega (arith, sum_set (hold grip) sights k sight None at)

-- where another record takes its place, the count rises by what that one holds, too
pub count_seen : (grip now : ℕ) (sights : List (Option ℕ)) (k : ℕ) (sight : Option ℕ) → slice_get sights k ≡ Some sight →
    count_by (holds grip) (list_changed_behind sights (λ old. Some now) (Some k)) + hold grip (sight_through sights (Some k)) ≡ count_by (holds grip) sights + hold grip (Some now)
count_seen grip now sights k sight at =
    ap (λ z. count_by (holds grip) (list_changed_behind sights (λ old. Some now) (Some k)) + hold grip (joined z)) at
    ∙ sum_changed (hold grip) (λ old. Some now) sights k sight at
