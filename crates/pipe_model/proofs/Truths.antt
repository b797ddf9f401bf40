-- Plain facts of truth values and of choices by them.
use Rattle.std.proofs.Common.{◌≡◌, ◌⊎◌, inl, inr, Bool, true, false, cond, ◌&&◌, ◌||◌, refl, Option, Some, None}

-- a choice that gives something was made for it
pub cond_some : {A : Type 0} {e : A} (b : Bool) (x : Option A) → cond b x None ≡ Some e → (b ≡ true) × (x ≡ Some e)
cond_some true x p = (refl, p)
cond_some false x p = cc

-- two tests hold, so each does
pub both : (a b : Bool) → (a && b) ≡ true → (a ≡ true) × (b ≡ true)
both true b p = (refl, p)
both false b p = cc

-- two tests don't both hold where the second doesn't
pub not_second : (a b : Bool) → b ≡ false → (a && b) ≡ false
not_second true b p = p
not_second false b p = refl

-- one of two tests holds
pub either : (a b : Bool) → (a || b) ≡ true → (a ≡ true) ⊎ (b ≡ true)
either true b p = inl refl
either false b p = inr p

-- neither of two tests holds
pub neither : (a b : Bool) → (a || b) ≡ false → (a ≡ false) × (b ≡ false)
neither true b p = cc
neither false b p = (refl, p)

-- one of two tests holds, and where the second doesn't it is the first
pub or_first : (a b : Bool) → (a || b) ≡ true → b ≡ false → a ≡ true
or_first true b p q = refl
or_first false true p q = cc
or_first false false p q = cc

-- one of two tests holds where the second does
pub or_second : (a b : Bool) → b ≡ true → (a || b) ≡ true
or_second true b p = refl
or_second false b p = p
