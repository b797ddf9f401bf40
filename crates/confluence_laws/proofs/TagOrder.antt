-- The order of tags, and the least of several.
use Rattle.std.proofs.Common.{◌≡◌, ◌≢◌, ◌⊎◌, inl, inr, ℕ, zero, suc, ◌≤◌, ◌<◌, Bool, true, false, cond, ◌&&◌, ◌||◌, ◌==◌, List, [], ◌∷◌, ◌++◌, refl, sym, ◌∙◌, ap, arith, Option, Some, None, slice_get}
use Rattle.std.specs.Prelude.{nat_lt}
use Rattle.std.proofs.lemmas.Bool.Decides.{nat_tests}
use Rattle.std.proofs.lemmas.Bool.{eqb-true, ltb-true}
use Rattle.pipe_model.specs.declared.net.Link.{Link}
use Rattle.pipe_model.specs.Tags.{Tag, Pick, comes_before, lesser, least}
use Rattle.pipe_model.proofs.Truths.{either, both}
use Rattle.pipe_model.proofs.Numbers.{equal_or_not}

-- Less by a number

-- the first numbers that differ say that one is less: neither is the other's beginning
abbrev pub IsLess : Tag → Tag → Type 0
IsLess [] ys = ⊥
IsLess (x ∷ xs) [] = ⊥
IsLess (x ∷ xs) (y ∷ ys) = (x < y) ⊎ ((x ≡ y) × IsLess xs ys)

pub less_or : (n m : ℕ) (b : Bool) → n < m → (nat_lt n m || b) ≡ true
less_or n m b lt = ap (λ z. z || b) (let e : nat_lt n m ≡ true = grind (arith, nat_tests) in e)

pub same_or : (n m : ℕ) (b : Bool) → n ≡ m → b ≡ true → (nat_lt n m || ((n == m) && b)) ≡ true
same_or n m b e is =
    let a : nat_lt n m ≡ false = grind (arith, nat_tests) in
    let c : (n == m) ≡ true = grind (arith, nat_tests) in
    ap (λ z. z || ((n == m) && b)) a ∙ ap (λ z. z && b) c ∙ is

-- so it comes before
pub less_before : (xs ys : Tag) → IsLess xs ys → comes_before xs ys ≡ true
less_before [] ys less = absurd less
less_before (x ∷ xs) [] less = absurd less
less_before (x ∷ xs) (y ∷ ys) (inl lt) = less_or x y ((x == y) && comes_before xs ys) lt
less_before (x ∷ xs) (y ∷ ys) (inr both_are) = same_or x y (comes_before xs ys) both_are.0 (less_before xs ys both_are.1)

-- none is less than itself
pub not_less : (xs : Tag) → IsLess xs xs → ⊥
not_less [] less = less
not_less (x ∷ xs) (inl lt) = absurd (omega (arith, lt))
not_less (x ∷ xs) (inr both_are) = not_less xs both_are.1

pub less_further : (xs ys zs : Tag) → IsLess xs ys → IsLess ys zs → IsLess xs zs
less_further [] ys zs a b = absurd a
less_further (x ∷ xs) [] zs a b = absurd a
less_further (x ∷ xs) (y ∷ ys) [] a b = absurd b
less_further (x ∷ xs) (y ∷ ys) (z ∷ zs) (inl a) (inl b) = inl (omega (arith, a, b))
less_further (x ∷ xs) (y ∷ ys) (z ∷ zs) (inl a) (inr b) = inl (let e = b.0 in omega (arith, a, e))
less_further (x ∷ xs) (y ∷ ys) (z ∷ zs) (inr a) (inl b) = inl (let e = a.0 in omega (arith, e, b))
less_further (x ∷ xs) (y ∷ ys) (z ∷ zs) (inr a) (inr b) = inr (a.0 ∙ b.0, less_further xs ys zs a.1 b.1)

-- whatever follows
pub less_with_ends : (xs ys us vs : Tag) → IsLess xs ys → IsLess (xs ++ us) (ys ++ vs)
less_with_ends [] ys us vs less = absurd less
less_with_ends (x ∷ xs) [] us vs less = absurd less
less_with_ends (x ∷ xs) (y ∷ ys) us vs (inl lt) = inl lt
less_with_ends (x ∷ xs) (y ∷ ys) us vs (inr both_are) = inr (both_are.0, less_with_ends xs ys us vs both_are.1)

-- and behind equal numbers
pub less_behind : (us xs ys : Tag) → IsLess xs ys → IsLess (us ++ xs) (us ++ ys)
less_behind [] xs ys less = less
less_behind (u ∷ us) xs ys less = inr (refl, less_behind us xs ys less)

-- The least

-- the first numbers say it, or the rest does
by_heads : (x y : ℕ) (b : Bool) → (nat_lt x y || ((x == y) && b)) ≡ true → (x < y) ⊎ ((x ≡ y) × (b ≡ true))
by_heads x y b e = elim (either (nat_lt x y) ((x == y) && b) e) [
  | inl lt ↦ inl (ltb-true x y lt)
  | inr rest ↦ (let r = both (x == y) b rest in inr (eqb-true x y r.0, r.1))
]

-- what lies between two comes before the one or behind the other
between : (xs ys zs : Tag) → comes_before xs zs ≡ true → (comes_before xs ys ≡ true) ⊎ (comes_before ys zs ≡ true)
between [] [] [] e = cc
between [] [] (z ∷ zs) e = inr refl
between [] (y ∷ ys) zs e = inl refl
between (x ∷ xs) ys [] e = cc
between (x ∷ xs) [] (z ∷ zs) e = inr refl
between (x ∷ xs) (y ∷ ys) (z ∷ zs) e = by_order (by_heads x z (comes_before xs zs) e) (λ q. between xs ys zs q)
  where
    Between : Type 0
    Between = (comes_before (x ∷ xs) (y ∷ ys) ≡ true) ⊎ (comes_before (y ∷ ys) (z ∷ zs) ≡ true)

    less_x : x < y → Between
    less_x lt = inl (less_or x y ((x == y) && comes_before xs ys) lt)

    less_z : y < z → Between
    less_z lt = inr (less_or y z ((y == z) && comes_before ys zs) lt)

    by_order : (x < z) ⊎ ((x ≡ z) × (comes_before xs zs ≡ true)) → (comes_before xs zs ≡ true → (comes_before xs ys ≡ true) ⊎ (comes_before ys zs ≡ true)) → Between
    by_order (inl lt) rest = elim (equal_or_not x y) [
      | inl is ↦ less_z (omega (arith, lt, is))
      | inr apart ↦ by_test (nat_lt x y) refl apart lt
    ]
      where
        by_test : (b : Bool) → nat_lt x y ≡ b → x ≢ y → x < z → Between
        by_test true is apart lt = less_x (ltb-true x y is)
        by_test false is apart lt = (let not_less : y ≤ x = grind (arith, nat_tests) in less_z (omega (arith, not_less, lt)))
    by_order (inr same_heads) rest = elim (equal_or_not x y) [
      | inl is ↦ elim (rest same_heads.1) [
        | inl a ↦ inl (same_or x y (comes_before xs ys) is a)
        | inr b ↦ inr (same_or y z (comes_before ys zs) (sym is ∙ same_heads.0) b)
      ]
      | inr apart ↦ by_test (nat_lt x y) refl apart same_heads.0
    ]
      where
        by_test : (b : Bool) → nat_lt x y ≡ b → x ≢ y → x ≡ z → Between
        by_test true is apart same = less_x (ltb-true x y is)
        by_test false is apart same = (let not_less : y < x = grind (arith, nat_tests) in less_z (omega (arith, not_less, same)))

-- none comes before itself
not_before_itself : (xs : Tag) → comes_before xs xs ≡ true → ⊥
not_before_itself [] e = cc
not_before_itself (x ∷ xs) e = elim (by_heads x x (comes_before xs xs) e) [ inl lt ↦ absurd (omega (arith, lt)) | inr r ↦ not_before_itself xs r.1 ]

-- of two only one comes before the other
not_both : (xs ys : Tag) → comes_before xs ys ≡ true → comes_before ys xs ≡ true → ⊥
not_both [] [] a b = cc
not_both [] (y ∷ ys) a b = cc
not_both (x ∷ xs) [] a b = cc
not_both (x ∷ xs) (y ∷ ys) a b = by_both (by_heads x y (comes_before xs ys) a) (by_heads y x (comes_before ys xs) b) (λ p q. not_both xs ys p q)
  where
    by_both : (x < y) ⊎ ((x ≡ y) × (comes_before xs ys ≡ true)) → (y < x) ⊎ ((y ≡ x) × (comes_before ys xs ≡ true)) → (comes_before xs ys ≡ true → comes_before ys xs ≡ true → ⊥) → ⊥
    by_both (inl p) (inl q) rest = absurd (omega (arith, p, q))
    by_both (inl p) (inr q) rest = absurd (let e = q.0 in omega (arith, p, e))
    by_both (inr p) (inl q) rest = absurd (let e = p.0 in omega (arith, e, q))
    by_both (inr p) (inr q) rest = rest p.1 q.1

-- a test that fails
fails : (b : Bool) → (b ≡ true → ⊥) → b ≡ false
fails true never = absurd (never refl)
fails false never = refl

-- it is one of those that there are
pub least_from : (f : Link → Option Pick) (links : List Link) (b : Pick) → least f links ≡ Some b → (j : ℕ) × (m : Link) × (slice_get links j ≡ Some m) × (f m ≡ Some b)
least_from f [] b e = cc
least_from f (x ∷ xs) b e = by_two (f x) (least f xs) refl e (λ q. least_from f xs b q)
  where
    There : List Link → Type 0
    There links = (j : ℕ) × (m : Link) × (slice_get links j ≡ Some m) × (f m ≡ Some b)

    later : There xs → There (x ∷ xs)
    later r = (suc r.0, r.1, r.2, r.3)

    by_test : (a c : Pick) (t : Bool) → f x ≡ Some a → cond t (Some c) (Some a) ≡ Some b → (Some c ≡ Some b → There xs) → There (x ∷ xs)
    by_test a c true is q rest = later (rest q)
    by_test a c false is q rest = (0, x, refl, is ∙ q)

    by_two : (a c : Option Pick) → f x ≡ a → lesser a c ≡ Some b → (c ≡ Some b → There xs) → There (x ∷ xs)
    by_two None c is q rest = later (rest q)
    by_two (Some a) None is q rest = (0, x, refl, is ∙ q)
    by_two (Some a) (Some c) is q rest = by_test a c (comes_before c.1 a.1) is q rest

-- one that no other is less than, and to which no other is equal, is the least
pub least_is : (f : Link → Option Pick) (links : List Link) (j : ℕ) (l : Link) (a : Pick) → slice_get links j ≡ Some l → f l ≡ Some a →
    ((k : ℕ) (m : Link) (b : Pick) → slice_get links k ≡ Some m → f m ≡ Some b → (comes_before b.1 a.1 ≡ false) × (comes_before a.1 b.1 ≡ false → b ≡ a)) → least f links ≡ Some a
least_is f [] j l a at is each = cc
least_is f (x ∷ xs) zero l a at is each =
    let it : x ≡ l = cc in
    by_rest (least f xs) refl (ap f it ∙ is)
  where
    by_rest : (c : Option Pick) → least f xs ≡ c → f x ≡ Some a → lesser (f x) c ≡ Some a
    by_rest None e here = ap (λ z. lesser z None) here
    by_rest (Some c) e here =
        let r = least_from f xs c e in
        let q = each (suc r.0) r.1 c r.2 r.3 in
        ap (λ z. lesser z (Some c)) here ∙ ap (λ b. cond b (Some c) (Some a)) q.0
least_is f (x ∷ xs) (suc j) l a at is each = ap (lesser (f x)) (least_is f xs j l a at is (λ k m b p q. each (suc k) m b p q)) ∙ by_head (f x) refl
  where
    by_test : (c : Pick) (b : Bool) → comes_before a.1 c.1 ≡ b → (comes_before a.1 c.1 ≡ false → c ≡ a) → cond b (Some a) (Some c) ≡ Some a
    by_test c true e one = refl
    by_test c false e one = ap Some (one e)

    by_head : (c : Option Pick) → f x ≡ c → lesser c (Some a) ≡ Some a
    by_head None e = refl
    by_head (Some c) e = by_test c (comes_before a.1 c.1) refl (each 0 x c refl e).1

-- where there is none there is no least
pub least_none : (f : Link → Option Pick) (links : List Link) → ((k : ℕ) (m : Link) → slice_get links k ≡ Some m → f m ≡ None) → least f links ≡ None
least_none f [] each = refl
least_none f (x ∷ xs) each = ap (λ z. lesser z (least f xs)) (each 0 x refl) ∙ least_none f xs (λ k m e. each (suc k) m e)

-- where there is no least there is none
lesser_none : (a b : Option Pick) → lesser a b ≡ None → (a ≡ None) × (b ≡ None)
lesser_none None b e = (refl, e)
lesser_none (Some a) None e = cc
lesser_none (Some a) (Some b) e = (let z : cond (comes_before b.1 a.1) (Some b) (Some a) ≡ None = e in absurd (never (comes_before b.1 a.1) z))
  where
    never : (t : Bool) → cond t (Some b) (Some a) ≡ None → ⊥
    never true q = cc
    never false q = cc

pub none_of : (f : Link → Option Pick) (links : List Link) (j : ℕ) (m : Link) → slice_get links j ≡ Some m → least f links ≡ None → f m ≡ None
none_of f [] j m at e = cc
none_of f (x ∷ xs) zero m at e = let it : x ≡ m = cc in ap f (sym it) ∙ (lesser_none (f x) (least f xs) e).0
none_of f (x ∷ xs) (suc j) m at e = none_of f xs j m at (lesser_none (f x) (least f xs) e).1

-- nothing comes before the least
pub least_first : (f : Link → Option Pick) (links : List Link) (j : ℕ) (m : Link) (a b : Pick) → slice_get links j ≡ Some m → f m ≡ Some b → least f links ≡ Some a → comes_before b.1 a.1 ≡ false
least_first f [] j m a b at is e = cc
least_first f (x ∷ xs) zero m a b at is e = let it : x ≡ m = cc in by_head (least f xs) (ap (λ z. lesser z (least f xs)) (sym (ap f it ∙ is)) ∙ e)
  where
    by_test : (c : Pick) (t : Bool) → comes_before c.1 b.1 ≡ t → cond t (Some c) (Some b) ≡ Some a → comes_before b.1 a.1 ≡ false
    by_test c true before q =
        let one : c ≡ a = cc in
        ap (λ (z : Pick). comes_before b.1 z.1) (sym one) ∙ fails (comes_before b.1 c.1) (λ other. not_both b.1 c.1 other before)
    by_test c false before q = let one : b ≡ a = cc in ap (λ (z : Pick). comes_before b.1 z.1) (sym one) ∙ fails (comes_before b.1 b.1) (not_before_itself b.1)

    by_head : (m : Option Pick) → lesser (Some b) m ≡ Some a → comes_before b.1 a.1 ≡ false
    by_head None q = let one : b ≡ a = cc in ap (λ (z : Pick). comes_before b.1 z.1) (sym one) ∙ fails (comes_before b.1 b.1) (not_before_itself b.1)
    by_head (Some c) q = by_test c (comes_before c.1 b.1) refl q
least_first f (x ∷ xs) (suc j) m a b at is e = by_two (f x) (least f xs) e (λ c q. least_first f xs j m c b at is q) refl
  where
    none_there : least f xs ≡ None → ⊥
    none_there none = (let z : Some b ≡ None = sym is ∙ none_of f xs j m at none in cc)

    by_two : (x' c : Option Pick) → lesser x' c ≡ Some a → ((c : Pick) → least f xs ≡ Some c → comes_before b.1 c.1 ≡ false) → least f xs ≡ c → comes_before b.1 a.1 ≡ false
    by_two None None q rest is' = cc
    by_two None (Some c) q rest is' = rest a (is' ∙ q)
    by_two (Some x') None q rest is' = absurd (none_there is')
    by_two (Some x') (Some c) q rest is' = by_test x' c (comes_before c.1 x'.1) refl q (rest c is')
      where
        by_test : (x' c : Pick) (t : Bool) → comes_before c.1 x'.1 ≡ t → cond t (Some c) (Some x') ≡ Some a → comes_before b.1 c.1 ≡ false → comes_before b.1 a.1 ≡ false
        by_test x' c true before q none = let one : c ≡ a = cc in ap (λ (z : Pick). comes_before b.1 z.1) (sym one) ∙ none
        by_test x' c false before q none =
            let one : x' ≡ a = cc in
            ap (λ (z : Pick). comes_before b.1 z.1) (sym one) ∙ fails (comes_before b.1 x'.1) (λ other. elim (between b.1 c.1 x'.1 other) [
              | inl p ↦ (let z : true ≡ false = sym p ∙ none in cc)
              | inr p ↦ (let z : true ≡ false = sym p ∙ before in cc)
            ])
