-- What holds of the items of two lists, place by place.
use Rattle.std.proofs.Common.{List, [], ◌∷◌, ◌++◌}
use Rattle.std.specs.List.{AllZip}

-- of one more item of each
pub zip_more : {A B : Type 0} (R : A → B → Type 0) (xs : List A) (ys : List B) (x : A) (y : B) → AllZip R xs ys → R x y → AllZip R (xs ++ x ∷ []) (ys ++ y ∷ [])
zip_more R [] [] x y all holds = (holds, tt)
zip_more R [] (b ∷ ys) x y all holds = absurd all
zip_more R (a ∷ xs) [] x y all holds = absurd all
zip_more R (a ∷ xs) (b ∷ ys) x y all holds = (all.0, zip_more R xs ys x y all.1 holds)

-- of what follows from it
pub zip_too : {A B : Type 0} (P Q : A → B → Type 0) → ((x : A) (y : B) → P x y → Q x y) → (xs : List A) (ys : List B) → AllZip P xs ys → AllZip Q xs ys
zip_too P Q follows [] [] all = tt
zip_too P Q follows [] (b ∷ ys) all = absurd all
zip_too P Q follows (a ∷ xs) [] all = absurd all
zip_too P Q follows (a ∷ xs) (b ∷ ys) all = (follows a b all.0, zip_too P Q follows xs ys all.1)
