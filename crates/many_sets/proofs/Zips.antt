-- Facts of two lists, place by place.
use Rattle.std.proofs.Common.{ℕ, ◌+◌, ◌<◌, List, [], ◌∷◌, ◌++◌, length, get_or, take, sym, subst, arith}
use Rattle.std.specs.List.{All, AllZip}
use Rattle.std.proofs.lemmas.List.{take_more}
use Rattle.std.proofs.lemmas.List.Elements.{All-cons, All-head, All-tail}
use Rattle.std.proofs.lemmas.Slice.Zip.{all_zipped_more}

-- from facts of a first and a second list, and of the second and a third
pub zip_through : {A B C : Type 0} (P : A → B → Type 0) (Q : B → C → Type 0) (R : A → C → Type 0) → ((x : A) (y : B) (z : C) → P x y → Q y z → R x z)
    → (xs : List A) (ys : List B) (zs : List C) → AllZip P xs ys → AllZip Q ys zs → AllZip R xs zs
zip_through P Q R by [] [] [] p q = tt
zip_through P Q R by [] [] (z ∷ zs) p q = q
zip_through P Q R by [] (y ∷ ys) zs p q = absurd p
zip_through P Q R by (x ∷ xs) [] zs p q = absurd p
zip_through P Q R by (x ∷ xs) (y ∷ ys) [] p q = absurd q
zip_through P Q R by (x ∷ xs) (y ∷ ys) (z ∷ zs) p q = (by x y z p.0 q.0, zip_through P Q R by xs ys zs p.1 q.1)

pub zip_weaker : {A B : Type 0} (P Q : A → B → Type 0) → ((x : A) (y : B) → P x y → Q x y) → (xs : List A) (ys : List B) → AllZip P xs ys → AllZip Q xs ys
zip_weaker P Q by [] [] p = tt
zip_weaker P Q by [] (y ∷ ys) p = p
zip_weaker P Q by (x ∷ xs) [] p = p
zip_weaker P Q by (x ∷ xs) (y ∷ ys) p = (by x y p.0, zip_weaker P Q by xs ys p.1)

-- of each element and itself
pub zip_self : {A : Type 0} (P : A → Type 0) (R : A → A → Type 0) → ((x : A) → P x → R x x) → (xs : List A) → All P xs → AllZip R xs xs
zip_self P R by [] all = tt
zip_self P R by (x ∷ xs) all = (by x (All-head P x xs all), zip_self P R by xs (All-tail P x xs all))

-- of each element of the second list
pub zip_all : {A B : Type 0} (R : A → B → Type 0) (P : B → Type 0) → ((x : A) (y : B) → R x y → P y) → (xs : List A) (ys : List B) → AllZip R xs ys → All P ys
zip_all R P by [] [] zip = λ i d h. absurd (omega arith)
zip_all R P by [] (y ∷ ys) zip = absurd zip
zip_all R P by (x ∷ xs) [] zip = absurd zip
zip_all R P by (x ∷ xs) (y ∷ ys) zip = All-cons P y ys (by x y zip.0) (zip_all R P by xs ys zip.1)

-- one more place of the first list
pub zip_more : {A B : Type 0} (R : A → B → Type 0) (xs : List A) (ys : List B) (n : ℕ) (d : A) (y : B) → n < length xs → AllZip R (take n xs) ys → R (get_or xs n d) y → AllZip R (take (n + 1) xs) (ys ++ y ∷ [])
zip_more R xs ys n d y below zip more = subst (λ l. AllZip R l (ys ++ y ∷ [])) (sym (take_more xs n d below)) (all_zipped_more R (take n xs) ys (get_or xs n d) y zip more)
