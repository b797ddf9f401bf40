-- Bytes that are cut by lengths are records, each behind its length, and a rest that no whole record begins.
use Rattle.std.proofs.Common.{◌≡◌, ℕ, zero, suc, ◌-◌, ◌≤◌, Bool, true, false, cond, ◌&&◌, List, [], ◌∷◌, ◌++◌, length, take, drop, refl, sym, ◌∙◌, ap, subst, arith}
use Rattle.std.specs.Prelude.{nat_le, nat_lt}
use Rattle.std.proofs.lemmas.Bool.{ne_eqb, and_parts, and_from, leb-true, le-leb}
use Rattle.std.proofs.lemmas.Bool.Decides.{nat_tests}
use Rattle.std.proofs.lemmas.List.{length-append, take-append-le, take-append-drop, length-take-le, drop-take}
use Rattle.pipe_model.specs.Shape.{Records}
use Rattle.pipe_model.specs.Parts.{without_last, last_part}
use Rattle.pipe_model.specs.BlockRows.{sf_length, sf_begins, cut_by_lengths, is_bad_length}
use Rattle.stream_laws.specs.AllBytes.{AreMeasured}

-- some parts are those of these bytes
abbrev Cuts : List ℕ → Records → Type 0
Cuts bytes parts = AreMeasured bytes (without_last parts) (last_part parts)

abbrev IsSome : Records → Type 0
IsSome [] = ⊥
IsSome (p ∷ parts) = Unit {0}

by_later : (skip b : ℕ) (bytes : List ℕ) → cut_by_lengths (suc skip) (b ∷ bytes) ≡ cut_by_lengths skip bytes
by_later skip b bytes =
    ap (λ is. cut_by_lengths (cond is (sf_length (b ∷ bytes) - 1) (suc skip - 1)) bytes) (ne_eqb (suc skip) 0 (λ same. omega (arith, same)))
    ∙ ap (λ n. cut_by_lengths n bytes) (omega arith)

by_first : (b : ℕ) (bytes : List ℕ) (whole : Bool) → sf_begins (b ∷ bytes) ≡ whole →
    cut_by_lengths 0 (b ∷ bytes) ≡ cond whole (drop 2 (take (sf_length (b ∷ bytes)) (b ∷ bytes)) ∷ cut_by_lengths (sf_length (b ∷ bytes) - 1) bytes) ((b ∷ bytes) ∷ [])
by_first b bytes whole is = ap (λ c. cond c (drop 2 (take (sf_length (b ∷ bytes)) (b ∷ bytes)) ∷ cut_by_lengths (sf_length (b ∷ bytes) - 1) bytes) ((b ∷ bytes) ∷ [])) is

-- a whole record at the front
whole_first : (b c : ℕ) (rest : List ℕ) (parts : Records) → sf_begins (b ∷ c ∷ rest) ≡ true → IsSome parts → Cuts (drop (sf_length (b ∷ c ∷ rest) - 1) (c ∷ rest)) parts →
    Cuts (b ∷ c ∷ rest) (drop 2 (take (sf_length (b ∷ c ∷ rest)) (b ∷ c ∷ rest)) ∷ parts)
whole_first b c rest [] is some x = absurd some
whole_first b c rest (p ∷ parts) is some x = (
  b,
  c,
  drop (n - 1) (c ∷ rest),
  ap (λ z. b ∷ c ∷ z) (sym (ap (λ z. z ++ drop (n - 1) (c ∷ rest)) its ∙ ap (λ z. take (n - 2) rest ++ z) behind ∙ take-append-drop (n - 2) rest)),
  (let e = ap length its ∙ length-take-le (n - 2) rest (omega (arith, few, within)) in omega (arith, e, few)),
  x,
)
  where
    n : ℕ
    n = sf_length (b ∷ c ∷ rest)

    each : (nat_le 2 n ≡ true) × (nat_le n (length (b ∷ c ∷ rest)) ≡ true)
    each = and_parts (nat_le 2 (sf_length (b ∷ c ∷ rest))) (nat_le (sf_length (b ∷ c ∷ rest)) (length (b ∷ c ∷ rest))) is

    few : 2 ≤ n
    few = leb-true 2 n each.0

    within : n ≤ length (b ∷ c ∷ rest)
    within = leb-true n (length (b ∷ c ∷ rest)) each.1

    its : drop 2 (take n (b ∷ c ∷ rest)) ≡ take (n - 2) rest
    its = ap (λ m. drop 2 (take m (b ∷ c ∷ rest))) (omega (arith, few)) ∙ drop-take 2 (n - 2) (b ∷ c ∷ rest)

    behind : drop (n - 1) (c ∷ rest) ≡ drop (n - 2) rest
    behind = ap (λ m. drop m (c ∷ rest)) (let e : n - 1 ≡ suc (n - 2) = omega (arith, few) in e)

cuts : (skip : ℕ) (bytes : List ℕ) → IsSome (cut_by_lengths skip bytes) × Cuts (drop skip bytes) (cut_by_lengths skip bytes)
cuts zero [] = (tt, (refl, refl))
cuts (suc skip) [] = (tt, (refl, refl))
cuts (suc skip) (b ∷ bytes) = subst (λ parts. IsSome parts × Cuts (drop skip bytes) parts) (sym (by_later skip b bytes)) (cuts skip bytes)
cuts zero (b ∷ []) = (tt, (refl, refl))
cuts zero (b ∷ c ∷ rest) = by_test (sf_begins (b ∷ c ∷ rest)) refl (cuts (sf_length (b ∷ c ∷ rest) - 1) (c ∷ rest))
  where
    by_test : (t : Bool) → sf_begins (b ∷ c ∷ rest) ≡ t →
        IsSome (cut_by_lengths (sf_length (b ∷ c ∷ rest) - 1) (c ∷ rest)) × Cuts (drop (sf_length (b ∷ c ∷ rest) - 1) (c ∷ rest)) (cut_by_lengths (sf_length (b ∷ c ∷ rest) - 1) (c ∷ rest)) →
        IsSome (cut_by_lengths 0 (b ∷ c ∷ rest)) × Cuts (b ∷ c ∷ rest) (cut_by_lengths 0 (b ∷ c ∷ rest))
    by_test true is x = subst (λ parts. IsSome parts × Cuts (b ∷ c ∷ rest) parts) (sym (by_first b (c ∷ rest) true is)) (tt, whole_first b c rest (cut_by_lengths (sf_length (b ∷ c ∷ rest) - 1) (c ∷ rest)) is x.0 x.1)
    by_test false is x = subst (λ parts. IsSome parts × Cuts (b ∷ c ∷ rest) parts) (sym (by_first b (c ∷ rest) false is)) (tt, (refl, is))

pub are_measured : (bytes : List ℕ) → AreMeasured bytes (without_last (cut_by_lengths 0 bytes)) (last_part (cut_by_lengths 0 bytes))
are_measured bytes = (cuts 0 bytes).1

-- Behind a bad length nothing is cut

some_parts : (skip : ℕ) (bytes : List ℕ) → IsSome (cut_by_lengths skip bytes)
some_parts skip bytes = (cuts skip bytes).0

last_behind : (p : List ℕ) (parts : Records) → IsSome parts → last_part (p ∷ parts) ≡ last_part parts
last_behind p [] some = absurd some
last_behind p (q ∷ parts) some = refl

but_last_behind : (p : List ℕ) (parts : Records) → IsSome parts → without_last (p ∷ parts) ≡ p ∷ without_last parts
but_last_behind p [] some = absurd some
but_last_behind p (q ∷ parts) some = refl

-- the rest is only made longer
abbrev pub IsClosed : Records → Records → List ℕ → Type 0
IsClosed old new more = (without_last new ≡ without_last old) × (last_part new ≡ last_part old ++ more)

pub no_more : (skip : ℕ) (bytes more : List ℕ) → is_bad_length (last_part (cut_by_lengths skip bytes)) ≡ true → IsClosed (cut_by_lengths skip bytes) (cut_by_lengths skip (bytes ++ more)) more
no_more skip [] more bad = cc
no_more (suc skip) (b ∷ bytes) more bad =
    subst (λ new. IsClosed (cut_by_lengths (suc skip) (b ∷ bytes)) new more) (sym (by_later skip b (bytes ++ more)))
    (subst (λ old. IsClosed old (cut_by_lengths skip (bytes ++ more)) more) (sym (by_later skip b bytes))
    (no_more skip bytes more (ap (λ parts. is_bad_length (last_part parts)) (sym (by_later skip b bytes)) ∙ bad)))
no_more zero (b ∷ []) more bad = cc
no_more zero (b ∷ c ∷ rest) more bad = by_test (sf_begins (b ∷ c ∷ rest)) refl (no_more (n - 1) (c ∷ rest) more)
  where
    n : ℕ
    n = sf_length (b ∷ c ∷ rest)

    by_test : (t : Bool) → sf_begins (b ∷ c ∷ rest) ≡ t →
        (is_bad_length (last_part (cut_by_lengths (n - 1) (c ∷ rest))) ≡ true → IsClosed (cut_by_lengths (n - 1) (c ∷ rest)) (cut_by_lengths (n - 1) (c ∷ rest ++ more)) more) →
        IsClosed (cut_by_lengths 0 (b ∷ c ∷ rest)) (cut_by_lengths 0 (b ∷ c ∷ rest ++ more)) more
    by_test true is behind =
        let each = and_parts (nat_le 2 n) (nat_le n (length (b ∷ c ∷ rest))) is in
        let within : n ≤ length (b ∷ c ∷ rest) = leb-true n (length (b ∷ c ∷ rest)) each.1 in
        let size = length-append (b ∷ c ∷ rest) more in
        let later : sf_begins (b ∷ c ∷ rest ++ more) ≡ true = and_from (nat_le 2 n) (nat_le n (length (b ∷ c ∷ rest ++ more))) each.0 (le-leb n (length (b ∷ c ∷ rest ++ more)) (omega (arith, within, size))) in
        let its : List ℕ = drop 2 (take n (b ∷ c ∷ rest)) in
        let old_parts : Records = cut_by_lengths (n - 1) (c ∷ rest) in
        let new_parts : Records = cut_by_lengths (n - 1) (c ∷ rest ++ more) in
        let old : cut_by_lengths 0 (b ∷ c ∷ rest) ≡ its ∷ old_parts = by_first b (c ∷ rest) true is in
        let new : cut_by_lengths 0 (b ∷ c ∷ rest ++ more) ≡ its ∷ new_parts = by_first b (c ∷ rest ++ more) true later ∙ ap (λ z. drop 2 z ∷ new_parts) (take-append-le n (b ∷ c ∷ rest) more within) in
        let some_old = some_parts (n - 1) (c ∷ rest) in
        let some_new = some_parts (n - 1) (c ∷ rest ++ more) in
        let closed = behind (ap is_bad_length (sym (last_behind its old_parts some_old)) ∙ ap (λ parts. is_bad_length (last_part parts)) (sym old) ∙ bad) in
        subst (λ z. IsClosed z (cut_by_lengths 0 (b ∷ c ∷ rest ++ more)) more) (sym old) (subst (λ z. IsClosed (its ∷ old_parts) z more) (sym new) (
          but_last_behind its new_parts some_new ∙ ap (λ z. its ∷ z) closed.0 ∙ sym (but_last_behind its old_parts some_old),
          last_behind its new_parts some_new ∙ closed.1 ∙ ap (λ z. z ++ more) (sym (last_behind its old_parts some_old)),
        ))
    by_test false is behind =
        let its : is_bad_length (b ∷ c ∷ rest) ≡ true = ap (λ parts. is_bad_length (last_part parts)) (sym (by_first b (c ∷ rest) false is)) ∙ bad in
        let low = (and_parts (nat_le 2 (length (b ∷ c ∷ rest))) (nat_lt n 2) its).1 in
        let later : sf_begins (b ∷ c ∷ rest ++ more) ≡ false = ap (λ z. z && nat_le n (length (b ∷ c ∷ rest ++ more))) (low_is n low) in
        subst (λ z. IsClosed z (cut_by_lengths 0 (b ∷ c ∷ rest ++ more)) more) (sym (by_first b (c ∷ rest) false is))
        (subst (λ z. IsClosed ((b ∷ c ∷ rest) ∷ []) z more) (sym (by_first b (c ∷ rest ++ more) false later)) (refl, refl))
      where
        low_is : (m : ℕ) → nat_lt m 2 ≡ true → nat_le 2 m ≡ false
        low_is m low = grind (arith, nat_tests)
