-- Lists in which what is behind a door is changed.
use Rattle.std.proofs.Common.{◌≡◌, ◌≢◌, ◌⊎◌, inl, inr, ℕ, zero, suc, Bool, true, false, cond, ◌||◌, ◌==◌, List, [], ◌∷◌, length, refl, sym, ◌∙◌, ap, Option, Some, None, slice_get, length-set}
use Rattle.std.proofs.lemmas.Bool.{ne_eqb}
use Rattle.std.specs.Option.{option_map}
use Rattle.pipe_model.proofs.Truths.{or_second}
use Rattle.pipe_model.proofs.Numbers.{equal_or_not, test_same}
use Rattle.pipe_model.proofs.Lists.{get_set_same, get_set_other}
use Rattle.connectors.specs.WireState.{WireState}
use Rattle.run_desk.specs.Turns.{list_changed_at, list_changed_behind, wires_changed, no_sight, sights_without}
use Rattle.run_desk.specs.Telling.{joined}

-- Options

-- nothing changes where nothing is done
pub map_same : {A : Type 0} (x : Option A) → option_map (λ y. y) x ≡ x
map_same None = refl
map_same (Some y) = refl

-- what is there after a change was there before it
pub map_back : {A B : Type 0} (f : A → B) (x : Option A) (y : B) → option_map f x ≡ Some y → (z : A) × (x ≡ Some z) × (y ≡ f z)
map_back f None y e = cc
map_back f (Some z) y e = (z, refl, cc)

-- One door

-- the door leads to the place
abbrev pub leads : ℕ → Option ℕ → Bool
leads j None = false
leads j (Some k) = k == j

-- the item at the place that changed
pub changed_here : {A : Type 0} (xs : List A) (f : A → A) (k : ℕ) → slice_get (list_changed_behind xs f (Some k)) k ≡ option_map f (slice_get xs k)
changed_here {A} xs f k = go (slice_get xs k) refl
  where
    go : (x : Option A) → slice_get xs k ≡ x → slice_get (list_changed_at xs k f x) k ≡ option_map f x
    go None e = e
    go (Some y) e = get_set_same xs k (f y) y e

-- and at another place
pub changed_there : {A : Type 0} (xs : List A) (f : A → A) (k j : ℕ) → j ≢ k → slice_get (list_changed_behind xs f (Some k)) j ≡ slice_get xs j
changed_there {A} xs f k j apart = go (slice_get xs k)
  where
    go : (x : Option A) → slice_get (list_changed_at xs k f x) j ≡ slice_get xs j
    go None = refl
    go (Some y) = get_set_other xs k j (f y) apart

-- both at once: the item at a place changes where the door leads there
pub changed_at : {A : Type 0} (xs : List A) (f : A → A) (door : Option ℕ) (j : ℕ) → slice_get (list_changed_behind xs f door) j ≡ option_map (λ x. cond (leads j door) (f x) x) (slice_get xs j)
changed_at xs f None j = sym (map_same (slice_get xs j))
changed_at {A} xs f (Some k) j = by (equal_or_not j k)
  where
    here : slice_get (list_changed_behind xs f (Some k)) k ≡ option_map (λ x. cond (k == k) (f x) x) (slice_get xs k)
    here = changed_here xs f k ∙ ap (λ (b : Bool). option_map (λ x. cond b (f x) x) (slice_get xs k)) (sym (test_same k))

    by : (j ≡ k) ⊎ (j ≢ k) → slice_get (list_changed_behind xs f (Some k)) j ≡ option_map (λ x. cond (k == j) (f x) x) (slice_get xs j)
    by (inl e) = ap (slice_get (list_changed_behind xs f (Some k))) e ∙ here ∙ ap (λ (z : ℕ). option_map (λ x. cond (k == z) (f x) x) (slice_get xs z)) (sym e)
    by (inr apart) =
        changed_there xs f k j apart ∙ sym (map_same (slice_get xs j))
        ∙ ap (λ (b : Bool). option_map (λ x. cond b (f x) x) (slice_get xs j)) (sym (ne_eqb k j (λ e. apart (sym e))))

-- as many items as before
pub changed_length : {A : Type 0} (xs : List A) (f : A → A) (door : Option ℕ) → length (list_changed_behind xs f door) ≡ length xs
changed_length xs f None = refl
changed_length {A} xs f (Some k) = go (slice_get xs k)
  where
    go : (x : Option A) → length (list_changed_at xs k f x) ≡ length xs
    go None = refl
    go (Some y) = length-set xs k (f y)

-- what is at a place after the change, was there before it or is changed
pub changed_back : {A : Type 0} (xs : List A) (f : A → A) (door : Option ℕ) (j : ℕ) (y : A) → slice_get (list_changed_behind xs f door) j ≡ Some y →
    (x : A) × (slice_get xs j ≡ Some x) × (y ≡ cond (leads j door) (f x) x)
changed_back xs f door j y at = map_back (λ x. cond (leads j door) (f x) x) (slice_get xs j) y (sym (changed_at xs f door j) ∙ at)

-- Several doors

-- one of the doors leads to the place
abbrev pub leads_any : ℕ → List (Option ℕ) → Bool
leads_any j [] = false
leads_any j (door ∷ doors) = leads j door || leads_any j doors

-- the door of a number is one of them
pub leads_one : (j : ℕ) (doors : List (Option ℕ)) (i : ℕ) → leads j (joined (slice_get doors i)) ≡ true → leads_any j doors ≡ true
leads_one j [] i it = cc
leads_one j (door ∷ doors) zero it = ap (λ b. b || leads_any j doors) it
leads_one j (door ∷ doors) (suc i) it = or_second (leads j door) (leads_any j doors) (leads_one j doors i it)

-- and one of them has a number
pub which_leads : (j : ℕ) (doors : List (Option ℕ)) → leads_any j doors ≡ true → (i : ℕ) × (leads j (joined (slice_get doors i)) ≡ true)
which_leads j [] it = cc
which_leads j (door ∷ doors) it = go (leads j door) refl it (which_leads j doors)
  where
    go : (b : Bool) → leads j door ≡ b → (b || leads_any j doors) ≡ true → (leads_any j doors ≡ true → (i : ℕ) × (leads j (joined (slice_get doors i)) ≡ true)) →
        (i : ℕ) × (leads j (joined (slice_get (door ∷ doors) i)) ≡ true)
    go true is it further = (0, is)
    go false is it further = let r = further it in (suc r.0, r.1)

-- the list, where the items behind these doors are changed, one after the other
abbrev pub every_changed : {A : Type 0} → (A → A) → List (Option ℕ) → List A → List A
every_changed f [] xs = xs
every_changed f (door ∷ doors) xs = every_changed f doors (list_changed_behind xs f door)

-- the item at a place changes where one of the doors leads there; that several do makes no difference
pub every_at : {A : Type 0} (f : A → A) → ((x : A) → f (f x) ≡ f x) → (doors : List (Option ℕ)) (xs : List A) (j : ℕ) →
    slice_get (every_changed f doors xs) j ≡ option_map (λ x. cond (leads_any j doors) (f x) x) (slice_get xs j)
every_at f twice [] xs j = sym (map_same (slice_get xs j))
every_at {A} f twice (door ∷ doors) xs j =
    every_at f twice doors (list_changed_behind xs f door) j
    ∙ ap (option_map (λ x. cond (leads_any j doors) (f x) x)) (changed_at xs f door j)
    ∙ fold (leads j door) (leads_any j doors) (slice_get xs j)
  where
    fold : (a b : Bool) (x : Option A) → option_map (λ y. cond b (f y) y) (option_map (λ y. cond a (f y) y) x) ≡ option_map (λ y. cond (a || b) (f y) y) x
    fold a b None = refl
    fold true true (Some x) = ap Some (twice x)
    fold true false (Some x) = refl
    fold false b (Some x) = refl

-- as many items as before
pub every_length : {A : Type 0} (f : A → A) (doors : List (Option ℕ)) (xs : List A) → length (every_changed f doors xs) ≡ length xs
every_length f [] xs = refl
every_length f (door ∷ doors) xs = every_length f doors (list_changed_behind xs f door) ∙ changed_length xs f door

-- Wires and sights

-- the wires behind doors are such a list
pub all_changed_is : (f : WireState → WireState) (doors : List (Option ℕ)) (wires : List WireState) → wires_changed f doors wires ≡ every_changed f doors wires
all_changed_is f [] wires = refl
all_changed_is f (door ∷ doors) wires = all_changed_is f doors (list_changed_behind wires f door)

-- and so are the sights that were given back
pub sights_without_is : (doors sights : List (Option ℕ)) → sights_without doors sights ≡ every_changed no_sight doors sights
sights_without_is [] sights = refl
sights_without_is (door ∷ doors) sights = sights_without_is doors (list_changed_behind sights no_sight door)

-- the wire at a place
pub all_changed_at : (f : WireState → WireState) → ((wire : WireState) → f (f wire) ≡ f wire) → (doors : List (Option ℕ)) (wires : List WireState) (j : ℕ) →
    slice_get (wires_changed f doors wires) j ≡ option_map (λ wire. cond (leads_any j doors) (f wire) wire) (slice_get wires j)
all_changed_at f twice doors wires j = ap (λ z. slice_get z j) (all_changed_is f doors wires) ∙ every_at f twice doors wires j

-- what is there after it, was there before it or is changed
pub all_changed_back : (f : WireState → WireState) → ((wire : WireState) → f (f wire) ≡ f wire) → (doors : List (Option ℕ)) (wires : List WireState) (j : ℕ) (after : WireState) →
    slice_get (wires_changed f doors wires) j ≡ Some after → (wire : WireState) × (slice_get wires j ≡ Some wire) × (after ≡ cond (leads_any j doors) (f wire) wire)
all_changed_back f twice doors wires j after at =
    map_back (λ wire. cond (leads_any j doors) (f wire) wire) (slice_get wires j) after (sym (all_changed_at f twice doors wires j) ∙ at)

-- as many wires as before
pub all_changed_length : (f : WireState → WireState) (doors : List (Option ℕ)) (wires : List WireState) → length (wires_changed f doors wires) ≡ length wires
all_changed_length f doors wires = ap length (all_changed_is f doors wires) ∙ every_length f doors wires

-- the sight at a place
pub sights_without_at : (doors sights : List (Option ℕ)) (j : ℕ) → slice_get (sights_without doors sights) j ≡ option_map (λ sight. cond (leads_any j doors) None sight) (slice_get sights j)
sights_without_at doors sights j = ap (λ z. slice_get z j) (sights_without_is doors sights) ∙ every_at no_sight (λ sight. refl) doors sights j

-- what is there after it, was there before it or is nothing
pub sights_without_back : (doors sights : List (Option ℕ)) (j : ℕ) (after : Option ℕ) → slice_get (sights_without doors sights) j ≡ Some after →
    (sight : Option ℕ) × (slice_get sights j ≡ Some sight) × (after ≡ cond (leads_any j doors) None sight)
sights_without_back doors sights j after at =
    map_back (λ sight. cond (leads_any j doors) None sight) (slice_get sights j) after (sym (sights_without_at doors sights j) ∙ at)

-- as many sights as before
pub sights_without_length : (doors sights : List (Option ℕ)) → length (sights_without doors sights) ≡ length sights
sights_without_length doors sights = ap length (sights_without_is doors sights) ∙ every_length no_sight doors sights
