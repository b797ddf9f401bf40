-- How many items pass a test from the front on, and from the back.
use Rattle.std.proofs.Common.{◌≡◌, ℕ, ◌+◌, ◌-◌, ◌≤◌, Bool, true, false, not, cond, List, [], ◌∷◌, ◌++◌, length, take, drop, refl, ap, ◌∙◌, arith, Some, None, unwrap_or, length-append, length-drop, take_all}
use Rattle.std.specs.List.{last_or, position, prefix_len, slice_get, suffix_len}
use Rattle.std.proofs.lemmas.List.{reverse-append, take-append-le}
use Rattle.std.proofs.lemmas.List.Sums.{prefix_len-le-length}

-- two tests that are alike pass as many
pub same_front : {X : Type 0} (p q : X → Bool) → ((x : X) → p x ≡ q x) → (xs : List X) → prefix_len p xs ≡ prefix_len q xs
same_front p q same [] = refl
same_front p q same (x ∷ xs) = rw (same x) (ap (λ n. cond (q x) (1 + n) 0) (same_front p q same xs))

not_not : (b : Bool) → not (not b) ≡ b
not_not true = refl
not_not false = refl

-- the place of the first that passes, or the length
pub first_or_length : {X : Type 0} (p : X → Bool) (xs : List X) → unwrap_or (position p xs) (length xs) ≡ prefix_len (λ x. not (p x)) xs
first_or_length p xs =
    let within : prefix_len (λ x. not (p x)) xs ≤ length xs = prefix_len-le-length (λ x. not (p x)) xs in
    grind arith

-- the place of the first that fails, or the length
pub first_other_or_length : {X : Type 0} (p : X → Bool) (xs : List X) → unwrap_or (position (λ x. not (p x)) xs) (length xs) ≡ prefix_len p xs
first_other_or_length p xs = first_or_length (λ x. not (p x)) xs ∙ same_front (λ x. not (not (p x))) p (λ x. not_not (p x)) xs

-- a slice from a place on
pub rest_of : {X : Type 0} (xs : List X) (n : ℕ) → take (length xs - n) (drop n xs) ≡ drop n xs
rest_of xs n = take_all (length xs - n) (drop n xs) (omega (arith, length-drop n xs))

last_from : {X : Type 0} (x : X) (xs : List X) → slice_get (x ∷ xs) (length xs) ≡ last_or (Some x) xs
last_from x [] = refl
last_from x (y ∷ ys) = last_from y ys

-- the last item by its place
pub last_is : {X : Type 0} (xs : List X) → slice_get xs (length xs - 1) ≡ last_or None xs
last_is [] = refl
last_is (x ∷ xs) =
    let at : length (x ∷ xs) - 1 ≡ length xs = omega arith in
    ap (slice_get (x ∷ xs)) at ∙ last_from x xs

suffix_more : {X : Type 0} (p : X → Bool) (xs : List X) (x : X) → suffix_len p (xs ++ x ∷ []) ≡ cond (p x) (1 + suffix_len p xs) 0
suffix_more p xs x = ap (prefix_len p) (reverse-append xs (x ∷ []))

-- without its last items that pass
abbrev pub without_last : {X : Type 0} → (X → Bool) → List X → List X
without_last p xs = take (length xs - suffix_len p xs) xs

-- a last item that passes goes
pub last_goes : {X : Type 0} (p : X → Bool) (xs : List X) (x : X) → p x ≡ true → without_last p (xs ++ x ∷ []) ≡ without_last p xs
last_goes p xs x passes =
    let more : suffix_len p (xs ++ x ∷ []) ≡ 1 + suffix_len p xs = suffix_more p xs x ∙ ap (λ b. cond b (1 + suffix_len p xs) 0) passes in
    let left : length (xs ++ x ∷ []) - suffix_len p (xs ++ x ∷ []) ≡ length xs - suffix_len p xs = omega (arith, more, length-append xs (x ∷ [])) in
    ap (λ n. take n (xs ++ x ∷ [])) left ∙ take-append-le (length xs - suffix_len p xs) xs (x ∷ []) (omega arith)

-- a last item that fails stays, and all before it
pub last_stays : {X : Type 0} (p : X → Bool) (xs : List X) (x : X) → p x ≡ false → without_last p (xs ++ x ∷ []) ≡ xs ++ x ∷ []
last_stays p xs x fails =
    let none : suffix_len p (xs ++ x ∷ []) ≡ 0 = suffix_more p xs x ∙ ap (λ b. cond b (1 + suffix_len p xs) 0) fails in
    take_all (length (xs ++ x ∷ []) - suffix_len p (xs ++ x ∷ [])) (xs ++ x ∷ []) (omega (arith, none))
