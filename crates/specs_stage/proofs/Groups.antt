-- How the groups of records grow.
use Rattle.std.proofs.Common.{◌≡◌, ◌≢◌, ◌≤◌, ◌+◌, ◌-◌, ◌∙◌, ℕ, zero, suc, List, [], ◌∷◌, ◌++◌, length, refl, ap, sym, subst, length-append, append_assoc, arith, cond}
use Rattle.std.specs.Prelude.{◌==◌, Bool, true, false}
use Rattle.std.specs.List.{onto_first}
use Rattle.std.proofs.lemmas.Bool.{ne_eqb}
use Rattle.pipe_model.specs.Parts.{without_last, last_part, onto_part, cut_after, cut_every}

-- one more member in the last part, which is whole with it or isn't
abbrev pub with_one : {X : Type 0} → Bool → X → List (List X) → List (List X)
with_one true y parts = without_last parts ++ (last_part parts ++ y ∷ []) ∷ [] ∷ []
with_one false y parts = without_last parts ++ (last_part parts ++ y ∷ []) ∷ []

-- how many members the last part lacks
abbrev pub lacking : {X : Type 0} → ℕ → ℕ → List X → ℕ
lacking n left [] = left
lacking n left (x ∷ xs) = lacking n (cond (left == 1) n (left - 1)) xs

some_part : {X : Type 0} (b : Bool) (x : X) (parts : List (List X)) → (p : List X) × (ps : List (List X)) × (onto_part b x parts ≡ p ∷ ps)
some_part true x parts = (x ∷ [], parts, refl)
some_part false x [] = (x ∷ [], [], refl)
some_part false x (p ∷ ps) = (x ∷ p, ps, refl)

some_cut : {X : Type 0} (n left : ℕ) (xs : List X) → (p : List X) × (ps : List (List X)) × (cut_after n left xs ≡ p ∷ ps)
some_cut n left [] = ([], [], refl)
some_cut n left (x ∷ xs) = some_part (left == 1) x (cut_after n (cond (left == 1) n (left - 1)) xs)

onto_with : {X : Type 0} (b c : Bool) (x y p : X) (q : List X) (ps : List (List X)) → onto_part b x (with_one c y (q ∷ ps)) ≡ with_one c y (onto_part b x (q ∷ ps))
onto_with true true x y p q ps = refl
onto_with true false x y p q ps = refl
onto_with false true x y p q [] = refl
onto_with false false x y p q [] = refl
onto_with false true x y p q (r ∷ ps) = refl
onto_with false false x y p q (r ∷ ps) = refl

onto_more : {X : Type 0} (b c : Bool) (x y : X) (parts : List (List X)) (some : (p : List X) × (ps : List (List X)) × (parts ≡ p ∷ ps)) → onto_part b x (with_one c y parts) ≡ with_one c y (onto_part b x parts)
onto_more b c x y parts some = subst (λ parts. onto_part b x (with_one c y parts) ≡ with_one c y (onto_part b x parts)) (sym some.2) (onto_with b c x y x some.0 some.1)

first_cut : {X : Type 0} (n : ℕ) (b : Bool) (m : ℕ) (y : X) → onto_part b y (cut_after n m []) ≡ with_one b y ([] ∷ [])
first_cut n true m y = refl
first_cut n false m y = refl

pub cut_more : {X : Type 0} (n left : ℕ) (xs : List X) (y : X) → cut_after n left (xs ++ y ∷ []) ≡ with_one (lacking n left xs == 1) y (cut_after n left xs)
cut_more n left [] y = first_cut n (left == 1) (cond (left == 1) n (left - 1)) y
cut_more n left (x ∷ xs) y =
    let next = cond (left == 1) n (left - 1) in
    ap (onto_part (left == 1) x) (cut_more n next xs y) ∙ onto_more (left == 1) (lacking n next xs == 1) x y (cut_after n next xs) (some_cut n next xs)

-- members before the first part
abbrev pub before_first : {X : Type 0} → List X → List (List X) → List (List X)
before_first p [] = p ∷ []
before_first p (q ∷ qs) = (p ++ q) ∷ qs

onto_before : {X : Type 0} (p : List X) (x : X) (parts : List (List X)) → before_first p (onto_first x parts) ≡ before_first (p ++ x ∷ []) parts
onto_before p x [] = refl
onto_before p x (q ∷ qs) = ap (λ l. l ∷ qs) (sym (append_assoc p (x ∷ []) q))

before_nothing : {X : Type 0} (parts : List (List X)) (some : (p : List X) × (ps : List (List X)) × (parts ≡ p ∷ ps)) → before_first [] parts ≡ parts
before_nothing parts some = subst (λ parts. before_first [] parts ≡ parts) (sym some.2) refl

last_behind : {X : Type 0} (p : List X) (parts : List (List X)) (some : (q : List X) × (qs : List (List X)) × (parts ≡ q ∷ qs)) → last_part (p ∷ parts) ≡ last_part parts
last_behind p parts some = subst (λ parts. last_part (p ∷ parts) ≡ last_part parts) (sym some.2) refl

lacks_all : {X : Type 0} (n left : ℕ) (p xs : List X) → 1 ≤ n → 1 ≤ left → length p + left ≡ n → length (last_part (before_first p (cut_after n left xs))) + lacking n left xs ≡ n
lacks_all n left p [] some least size = omega (arith, size, length-append p [])
lacks_all n zero p (x ∷ xs) some least size = absurd (omega (arith, least))
lacks_all n (suc zero) p (x ∷ xs) some least size =
    let cut = some_cut n n xs in
    let whole = last_behind (p ++ x ∷ []) (cut_after n n xs) cut in
    let rest = lacks_all n n [] xs some some (omega arith) in
    let same = before_nothing (cut_after n n xs) cut in
    omega (arith, rest, ap length whole, ap (λ parts. length (last_part parts)) same)
lacks_all n (suc (suc left)) p (x ∷ xs) some least size =
    let other = ne_eqb (suc (suc left)) 1 (λ is. omega (arith, is)) in
    let less : suc (suc left) - 1 ≡ suc left = omega arith in
    let next : cond (suc (suc left) == 1) n (suc (suc left) - 1) ≡ suc left = ap (λ is. cond is n (suc (suc left) - 1)) other ∙ less in
    let onto : onto_part (suc (suc left) == 1) x (cut_after n (cond (suc (suc left) == 1) n (suc (suc left) - 1)) xs) ≡ onto_first x (cut_after n (suc left) xs) =
    ap (λ is. onto_part is x (cut_after n (cond (suc (suc left) == 1) n (suc (suc left) - 1)) xs)) other ∙ ap (λ m. onto_first x (cut_after n m xs)) next in
    let rest = lacks_all n (suc left) (p ++ x ∷ []) xs some (omega arith) (omega (arith, size, length-append p (x ∷ []))) in
    ap (λ m. length (last_part (before_first p (onto_part (suc (suc left) == 1) x (cut_after n (cond (suc (suc left) == 1) n (suc (suc left) - 1)) xs)))) + lacking n m xs) next
    ∙ ap (λ parts. length (last_part (before_first p parts)) + lacking n (suc left) xs) onto
    ∙ ap (λ parts. length (last_part parts) + lacking n (suc left) xs) (onto_before p x (cut_after n (suc left) xs)) ∙ rest

without_end : {X : Type 0} (xs : List X) (y : X) → without_last (xs ++ y ∷ []) ≡ xs
without_end [] y = refl
without_end (x ∷ []) y = refl
without_end (x ∷ z ∷ xs) y = ap (λ l. x ∷ l) (without_end (z ∷ xs) y)

last_end : {X : Type 0} (xs : List (List X)) (y : List X) → last_part (xs ++ y ∷ []) ≡ y
last_end [] y = refl
last_end (x ∷ []) y = refl
last_end (x ∷ z ∷ xs) y = last_end (z ∷ xs) y

lacks_positive : {X : Type 0} (n left : ℕ) (xs : List X) → 1 ≤ n → 1 ≤ left → 1 ≤ lacking n left xs
lacks_positive n left [] some least = least
lacks_positive n zero (x ∷ xs) some least = absurd (omega (arith, least))
lacks_positive n (suc zero) (x ∷ xs) some least = lacks_positive n n xs some some
lacks_positive n (suc (suc left)) (x ∷ xs) some least =
    let other = ne_eqb (suc (suc left)) 1 (λ is. omega (arith, is)) in
    let less : suc (suc left) - 1 ≡ suc left = omega arith in
    subst (λ (m : ℕ). 1 ≤ lacking n m xs) (sym (ap (λ is. cond is n (suc (suc left) - 1)) other ∙ less)) (lacks_positive n (suc left) xs some (omega arith))

module _ {X : Type 0} (k : ℕ) (xs : List X) (y : X) where
  pub lacks : length (last_part (cut_every (suc k) xs)) + lacking (suc k) (suc k) xs ≡ suc k
  lacks =
      let same = before_nothing (cut_every (suc k) xs) (some_cut (suc k) (suc k) xs) in
      let rest = lacks_all (suc k) (suc k) [] xs (omega arith) (omega arith) (omega arith) in
      omega (arith, rest, ap (λ parts. length (last_part parts)) same)

  -- the last part is never whole
  pub last_short : length (last_part (cut_every (suc k) xs)) ≤ k
  last_short = omega (arith, lacks, lacks_positive (suc k) (suc k) xs (omega arith) (omega arith))

  -- it is whole with one more member
  pub group_ends : length (last_part (cut_every (suc k) xs)) ≡ k → cut_every (suc k) (xs ++ y ∷ []) ≡ without_last (cut_every (suc k) xs) ++ (last_part (cut_every (suc k) xs) ++ y ∷ []) ∷ [] ∷ []
  group_ends full = cut_more (suc k) (suc k) xs y ∙ ap (λ m. with_one (m == 1) y (cut_every (suc k) xs)) (let one : lacking (suc k) (suc k) xs ≡ 1 = omega (arith, lacks, full) in one)

  -- or isn't
  pub group_grows : length (last_part (cut_every (suc k) xs)) ≢ k → cut_every (suc k) (xs ++ y ∷ []) ≡ without_last (cut_every (suc k) xs) ++ (last_part (cut_every (suc k) xs) ++ y ∷ []) ∷ []
  group_grows short = cut_more (suc k) (suc k) xs y ∙ ap (λ is. with_one is y (cut_every (suc k) xs)) (ne_eqb (lacking (suc k) (suc k) xs) 1 (λ is. short (omega (arith, lacks, is))))

  pub ends_front : length (last_part (cut_every (suc k) xs)) ≡ k → without_last (cut_every (suc k) (xs ++ y ∷ [])) ≡ without_last (cut_every (suc k) xs) ++ (last_part (cut_every (suc k) xs) ++ y ∷ []) ∷ []
  ends_front full = ap without_last (group_ends full) ∙ ap without_last (two (without_last (cut_every (suc k) xs)) (last_part (cut_every (suc k) xs) ++ y ∷ []) []) ∙ without_end (without_last (cut_every (suc k) xs) ++ (last_part (cut_every (suc k) xs) ++ y ∷ []) ∷ []) []
    where
      two : (parts : List (List X)) (p q : List X) → parts ++ p ∷ q ∷ [] ≡ (parts ++ p ∷ []) ++ q ∷ []
      two parts p q = sym (append_assoc parts (p ∷ []) (q ∷ []))

  pub ends_last : length (last_part (cut_every (suc k) xs)) ≡ k → last_part (cut_every (suc k) (xs ++ y ∷ [])) ≡ []
  ends_last full = ap last_part (group_ends full ∙ sym (append_assoc (without_last (cut_every (suc k) xs)) ((last_part (cut_every (suc k) xs) ++ y ∷ []) ∷ []) ([] ∷ []))) ∙ last_end (without_last (cut_every (suc k) xs) ++ (last_part (cut_every (suc k) xs) ++ y ∷ []) ∷ []) []

  pub grows_front : length (last_part (cut_every (suc k) xs)) ≢ k → without_last (cut_every (suc k) (xs ++ y ∷ [])) ≡ without_last (cut_every (suc k) xs)
  grows_front short = ap without_last (group_grows short) ∙ without_end (without_last (cut_every (suc k) xs)) (last_part (cut_every (suc k) xs) ++ y ∷ [])

  pub grows_last : length (last_part (cut_every (suc k) xs)) ≢ k → last_part (cut_every (suc k) (xs ++ y ∷ [])) ≡ last_part (cut_every (suc k) xs) ++ y ∷ []
  grows_last short = ap last_part (group_grows short) ∙ last_end (without_last (cut_every (suc k) xs)) (last_part (cut_every (suc k) xs) ++ y ∷ [])
