-- The flags of the places of strands.
use Rattle.std.proofs.Common.{◌≡◌, ◌⊎◌, inl, inr, ℕ, suc, ◌≤◌, ◌<◌, Bool, true, false, cond, ◌||◌, List, [], ◌∷◌, refl, sym, ◌∙◌, ap, arith, Some, slice_get, is_some, map}
use Rattle.std.specs.Prelude.{find, unwrap_or}
use Rattle.std.specs.List.{list_any, range_with_len}
use Rattle.std.proofs.lemmas.List.FromFn.{length-map-range_with_len}
use Rattle.std.proofs.lemmas.Option.{slice_get_past}
use Rattle.std.proofs.lemmas.Bool.{cases_lt}
use Rattle.pipe_model.specs.Members.{flag_at}
use Rattle.net_graph.proofs.FormedLists.{get_numbered}

pub found_or_not : {X : Type 0} (p : X → Bool) (xs : List X) → list_any p xs ≡ is_some (find p xs)
found_or_not p [] = refl
found_or_not p (x ∷ xs) = go (p x) (found_or_not p xs)
  where
    go : (b : Bool) → list_any p xs ≡ is_some (find p xs) → (b || list_any p xs) ≡ is_some (cond b (Some x) (find p xs))
    go true rest = refl
    go false rest = rest

-- what passes stands somewhere
pub passes_at : {X : Type 0} (p : X → Bool) (xs : List X) → list_any p xs ≡ true → (j : ℕ) × (x : X) × (slice_get xs j ≡ Some x) × (p x ≡ true)
passes_at p [] is = cc
passes_at {X} p (x ∷ xs) is = go (p x) refl (λ some. passes_at p xs some)
  where
    go : (b : Bool) → p x ≡ b → (list_any p xs ≡ true → (j : ℕ) × (y : X) × (slice_get xs j ≡ Some y) × (p y ≡ true)) → (j : ℕ) × (y : X) × (slice_get (x ∷ xs) j ≡ Some y) × (p y ≡ true)
    go true passes rest = (0, x, refl, passes)
    go false fails rest = (let r = rest (ap (λ b. b || list_any p xs) (sym fails) ∙ is) in (suc r.0, r.1, r.2, r.3))

-- the flags of the first places tell of each place, where no place after them passes
pub flag_is : (f : ℕ → Bool) (n i : ℕ) → (n ≤ i → f i ≡ false) → flag_at (map f (range_with_len 0 n)) i ≡ f i
flag_is f n i past = go (cases_lt i n)
  where
    go : (i < n) ⊎ (n ≤ i) → flag_at (map f (range_with_len 0 n)) i ≡ f i
    go (inl below) = ap (λ o. unwrap_or o false) (get_numbered f 0 n i i below (omega arith))
    go (inr above) = ap (λ o. unwrap_or o false) (slice_get_past (map f (range_with_len 0 n)) i (omega (arith, above, length-map-range_with_len f 0 n))) ∙ sym (past above)
