-- Two lists of which each member of one fits that of the other.
use Rattle.std.proofs.Common.{◌≡◌, suc, List, [], ◌∷◌, ◌++◌, length, refl, ap}
use Rattle.std.specs.List.{AllZip}

module _ {A B : Type 0} (R : A → B → Type 0) where
  -- they have as many members
  pub zip_length : (xs : List A) (ys : List B) → AllZip R xs ys → length xs ≡ length ys
  zip_length [] [] are = refl
  zip_length [] (y ∷ ys) are = absurd are
  zip_length (x ∷ xs) [] are = absurd are
  zip_length (x ∷ xs) (y ∷ ys) are = ap suc (zip_length xs ys are.1)

  -- with one member more each
  pub zip_push : (xs : List A) (ys : List B) (x : A) (y : B) → AllZip R xs ys → R x y → AllZip R (xs ++ x ∷ []) (ys ++ y ∷ [])
  zip_push [] [] x y are one = (one, tt)
  zip_push [] (v ∷ vs) x y are one = absurd are
  zip_push (u ∷ us) [] x y are one = absurd are
  zip_push (u ∷ us) (v ∷ vs) x y are one = (are.0, zip_push us vs x y are.1 one)
