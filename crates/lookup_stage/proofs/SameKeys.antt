-- Keys with the same bytes.
use Rattle.std.proofs.Common.{◌≡◌, ℕ, true, false, ◌&&◌, nat_eq, List, [], ◌∷◌, refl, ap, ◌∙◌}
use Rattle.std.specs.Str.{bytes_eq}
use Rattle.std.proofs.lemmas.Cmp.{nat_list_eq_equiv}
use Rattle.std.proofs.lemmas.Slice.Eq.{bytes_eq-Decides}
use Rattle.pipe_model.specs.Keys.{is_same}

same_bytes : (a b : List ℕ) → bytes_eq a b ≡ is_same a b
same_bytes [] [] = refl
same_bytes [] (y ∷ b) = refl
same_bytes (x ∷ a) [] = refl
same_bytes (x ∷ a) (y ∷ b) = ap (λ s. nat_eq x y && s) (same_bytes a b)

-- the map's test of a key is the row's, the other way round
pub same_turned : (a b : List ℕ) → bytes_eq a b ≡ is_same b a
same_turned a b = nat_list_eq_equiv.symm a b ∙ same_bytes b a

key_is : (a b : List ℕ) → is_same a b ≡ true → a ≡ b
key_is a b is = (bytes_eq-Decides a b).0 (same_bytes a b ∙ is)

-- two that are the same as a third are the same
pub meet : (a b c : List ℕ) → is_same a c ≡ true → is_same b c ≡ true → is_same a b ≡ true
meet a b c p q = ap (is_same a) (key_is b c q) ∙ p

-- a key differs from what is the same as one that it differs from
pub apart_too : (a b c : List ℕ) → is_same a c ≡ false → is_same b c ≡ true → is_same a b ≡ false
apart_too a b c apart same = ap (is_same a) (key_is b c same) ∙ apart
