-- The first place at which a test passes, in a list and in one that goes on.
use Rattle.std.proofs.Common.{◌≡◌, ℕ, suc, ◌+◌, Bool, true, false, cond, not, nat_lt, List, [], ◌∷◌, ◌++◌, refl, sym, ◌∙◌, ap, subst, arith, Option, Some, None, slice_get, length}
use Rattle.std.specs.List.{position, position_or_len}
use Rattle.std.specs.Option.{option_map}
use Rattle.std.proofs.lemmas.Bool.Decides.{nat_tests}

next_below : (a b : ℕ) → nat_lt (1 + a) (suc b) ≡ nat_lt a b
next_below a b = grind (arith, nat_tests)

next_place : (b : Bool) (k : ℕ) → cond b (Some (1 + k)) None ≡ option_map suc (cond b (Some k) None)
next_place true k = ap Some (omega arith)
next_place false k = refl

position_more : {X : Type 0} (p : X → Bool) (x : X) (xs : List X) → position p (x ∷ xs) ≡ cond (p x) (Some 0) (option_map suc (position p xs))
position_more p x xs = go (p x) refl
  where
    go : (b : Bool) → p x ≡ b → cond (nat_lt (cond (not (p x)) (1 + position_or_len p xs) 0) (suc (length xs))) (Some (cond (not (p x)) (1 + position_or_len p xs) 0)) None ≡ cond (p x) (Some 0) (option_map suc (position p xs))
    go true is = rw is (ap (λ b. cond b (Some 0) None) (first (length xs)))
      where
        first : (n : ℕ) → nat_lt 0 (suc n) ≡ true
        first n = grind (arith, nat_tests)
    go false is = rw is (ap (λ b. cond b (Some (1 + position_or_len p xs)) None) (next_below (position_or_len p xs) (length xs)) ∙ next_place (nat_lt (position_or_len p xs) (length xs)) (position_or_len p xs))

-- the number of what is found one place further on
one_less : (b : Bool) (o : Option ℕ) (k : ℕ) → b ≡ false → cond b (Some 0) (option_map suc o) ≡ Some k → (j : ℕ) × (o ≡ Some j) × (k ≡ suc j)
one_less true o k is found = cc
one_less false None k is found = cc
one_less false (Some j) k is found = (j, refl, cc)

none_less : (b : Bool) (o : Option ℕ) → cond b (Some 0) (option_map suc o) ≡ None → (b ≡ false) × (o ≡ None)
none_less true o is = cc
none_less false None is = (refl, refl)
none_less false (Some j) is = cc

-- what is found passes, and stands at its place
pub position_finds : {X : Type 0} (p : X → Bool) (xs : List X) (k : ℕ) → position p xs ≡ Some k → (x : X) × (slice_get xs k ≡ Some x) × (p x ≡ true)
position_finds p [] k is = cc
position_finds {X} p (x ∷ xs) k is = go (p x) refl (λ j found. position_finds p xs j found)
  where
    go : (b : Bool) → p x ≡ b → ((j : ℕ) → position p xs ≡ Some j → (y : X) × (slice_get xs j ≡ Some y) × (p y ≡ true)) → (y : X) × (slice_get (x ∷ xs) k ≡ Some y) × (p y ≡ true)
    go true passes rest =
        let here : Some 0 ≡ Some k = ap (λ b. cond b (Some 0) (option_map suc (position p xs))) (sym passes) ∙ sym (position_more p x xs) ∙ is in
        let zero_is : 0 ≡ k = cc in
        (x, subst (λ j. slice_get (x ∷ xs) j ≡ Some x) zero_is refl, passes)
    go false fails rest =
        let less = one_less (p x) (position p xs) k fails (sym (position_more p x xs) ∙ is) in
        let r = rest less.0 less.1 in
        (r.0, subst (λ j. slice_get (x ∷ xs) j ≡ Some r.0) (sym less.2) r.1, r.2)

-- what is found stays, where the list goes on
pub position_stays : {X : Type 0} (p : X → Bool) (xs ys : List X) (k : ℕ) → position p xs ≡ Some k → position p (xs ++ ys) ≡ Some k
position_stays p [] ys k is = cc
position_stays p (x ∷ xs) ys k is = position_more p x (xs ++ ys) ∙ go (p x) refl (λ j found. position_stays p xs ys j found)
  where
    go : (b : Bool) → p x ≡ b → ((j : ℕ) → position p xs ≡ Some j → position p (xs ++ ys) ≡ Some j) → cond (p x) (Some 0) (option_map suc (position p (xs ++ ys))) ≡ Some k
    go true passes rest = rw passes (ap (λ b. cond b (Some 0) (option_map suc (position p xs))) (sym passes) ∙ sym (position_more p x xs) ∙ is)
    go false fails rest =
        let less = one_less (p x) (position p xs) k fails (sym (position_more p x xs) ∙ is) in
        rw (fails, rest less.0 less.1) (ap Some (sym less.2))

-- where nothing is found, the next that passes is the first
pub position_new : {X : Type 0} (p : X → Bool) (xs : List X) (y : X) (ys : List X) → position p xs ≡ None → p y ≡ true → position p (xs ++ y ∷ ys) ≡ Some (length xs)
position_new p [] y ys none passes = position_more p y ys ∙ ap (λ b. cond b (Some 0) (option_map suc (position p ys))) passes
position_new p (x ∷ xs) y ys none passes =
    let less = none_less (p x) (position p xs) (sym (position_more p x xs) ∙ none) in
    position_more p x (xs ++ y ∷ ys) ∙ ap (λ b. cond b (Some 0) (option_map suc (position p (xs ++ y ∷ ys)))) less.0
    ∙ ap (option_map suc) (position_new p xs y ys less.1 passes)

-- nor is anything found with one more that fails
pub position_still : {X : Type 0} (p : X → Bool) (xs : List X) (y : X) → position p xs ≡ None → p y ≡ false → position p (xs ++ y ∷ []) ≡ None
position_still p [] y none fails = position_more p y [] ∙ ap (λ b. cond b (Some 0) (option_map suc (position p []))) fails
position_still p (x ∷ xs) y none fails =
    let less = none_less (p x) (position p xs) (sym (position_more p x xs) ∙ none) in
    position_more p x (xs ++ y ∷ []) ∙ ap (λ b. cond b (Some 0) (option_map suc (position p (xs ++ y ∷ [])))) less.0
    ∙ ap (option_map suc) (position_still p xs y less.1 fails)
