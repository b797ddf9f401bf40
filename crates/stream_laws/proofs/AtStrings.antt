-- Bytes that are cut at a string are parts that each end before its first occurrence, and a rest without it.
use Rattle.std.proofs.Common.{◌≡◌, ℕ, zero, suc, ◌-◌, ◌<◌, ◌==◌, Bool, true, false, cond, ◌&&◌, ◌||◌, List, [], ◌∷◌, ◌++◌, length, drop, map, refl, sym, ◌∙◌, ap, subst, arith, append_assoc}
use Rattle.std.specs.List.{concat, onto_first, slice_split}
use Rattle.std.proofs.lemmas.Bool.{ne_eqb, and_parts, and_from, eqb-true}
use Rattle.std.proofs.lemmas.Bool.Decides.{nat_tests}
use Rattle.std.proofs.lemmas.List.Elements.{All-nil, All-cons, All-tail}
use Rattle.pipe_model.specs.Shape.{Records}
use Rattle.pipe_model.specs.Search.{begins, holds}
use Rattle.pipe_model.specs.Proper.{is_filled}
use Rattle.pipe_model.specs.Parts.{without_last, last_part}
use Rattle.pipe_model.specs.BlockRows.{at_cut, cut_at}
use Rattle.stream_laws.specs.AllBytes.{IsFree, ArePartsAt}

-- Where a string begins some bytes

begins_more : (string bytes more : List ℕ) → begins string bytes ≡ true → begins string (bytes ++ more) ≡ true
begins_more [] bytes more is = refl
begins_more (s ∷ string) [] more is = cc
begins_more (s ∷ string) (b ∷ bytes) more is =
    let each = and_parts (s == b) (begins string bytes) is in
    and_from (s == b) (begins string (bytes ++ more)) each.0 (begins_more string bytes more each.1)

not_sooner : (string bytes more : List ℕ) → begins string (bytes ++ more) ≡ false → begins string bytes ≡ false
not_sooner string bytes more isnt = by_test (begins string bytes) refl
  where
    by_test : (c : Bool) → begins string bytes ≡ c → begins string bytes ≡ false
    by_test true is = (let z : true ≡ false = sym (begins_more string bytes more is) ∙ isnt in cc)
    by_test false is = is

begins_is : (string bytes : List ℕ) → begins string bytes ≡ true → string ++ drop (length string) bytes ≡ bytes
begins_is [] bytes is = refl
begins_is (s ∷ string) [] is = cc
begins_is (s ∷ string) (b ∷ bytes) is =
    let each = and_parts (s == b) (begins string bytes) is in
    ap (λ z. z ∷ (string ++ drop (length string) bytes)) (eqb-true s b each.0) ∙ ap (λ z. b ∷ z) (begins_is string bytes each.1)

-- One byte further

at_first : (string : List ℕ) (b : ℕ) (bytes : List ℕ) (found : Bool) → begins string (b ∷ bytes) ≡ found → cut_at string 0 (b ∷ bytes) ≡ cond found ([] ∷ cut_at string (length string - 1) bytes) (onto_first b (cut_at string 0 bytes))
at_first string b bytes true is = ap (λ c. at_cut 0 c b (cut_at string (cond c (length string - 1) 0) bytes)) is
at_first string b bytes false is = ap (λ c. at_cut 0 c b (cut_at string (cond c (length string - 1) 0) bytes)) is

at_later : (string : List ℕ) (skip b : ℕ) (bytes : List ℕ) → cut_at string (suc skip) (b ∷ bytes) ≡ cut_at string skip bytes
at_later string skip b bytes =
    ap (λ is. cut_at string (cond (is && begins string (b ∷ bytes)) (length string - 1) (suc skip - 1)) bytes) (ne_eqb (suc skip) 0 (λ same. omega (arith, same)))
    ∙ ap (λ n. cut_at string n bytes) (omega arith)

module _ (string : List ℕ) (filled : is_filled string ≡ true) where
  -- some parts are those of these bytes
  abbrev Cuts : List ℕ → Records → Type 0
  Cuts bytes parts = ArePartsAt string bytes (without_last parts) (last_part parts)

  -- they aren't none
  abbrev IsSome : Records → Type 0
  IsSome [] = ⊥
  IsSome (p ∷ parts) = Unit {0}

  -- the string at the front
  found_first : (bytes rest : List ℕ) (parts : Records) → string ++ rest ≡ bytes → IsSome parts → Cuts rest parts → Cuts bytes ([] ∷ parts)
  found_first bytes rest [] is some x = absurd some
  found_first bytes rest (p ∷ parts) is some x = record {
    each = All-cons (IsFree string) [] (without_last (p ∷ parts)) (λ k less. absurd (omega (arith, less))) x.each;
    none = x.none;
    whole = append_assoc string (concat (map (λ part. part ++ string) (without_last (p ∷ parts)))) (last_part (p ∷ parts)) ∙ ap (λ z. string ++ z) x.whole ∙ is;
  }

  -- a byte at which it doesn't stand
  not_found : (b : ℕ) (bytes : List ℕ) (parts : Records) → begins string (b ∷ bytes) ≡ false → IsSome parts → Cuts bytes parts → Cuts (b ∷ bytes) (onto_first b parts)
  not_found b bytes [] isnt some x = absurd some
  not_found b bytes (p ∷ []) isnt some x = record {
    each = All-nil (IsFree string);
    none = ap (λ z. begins string (b ∷ z) || holds string p) x.whole ∙ ap (λ z. z || holds string p) isnt ∙ x.none;
    whole = ap (λ z. b ∷ z) x.whole;
  }
  not_found b bytes (p ∷ q ∷ parts) isnt some x = record {
    each = All-cons (IsFree string) (b ∷ p) (without_last (q ∷ parts)) free (All-tail (IsFree string) p (without_last (q ∷ parts)) x.each);
    none = x.none;
    whole = ap (λ z. b ∷ z) x.whole;
  }
    where
      more : List ℕ
      more = concat (map (λ part. part ++ string) (without_last (q ∷ parts))) ++ last_part (q ∷ parts)

      first : (p ++ string) ++ more ≡ bytes
      first = sym (append_assoc (p ++ string) (concat (map (λ part. part ++ string) (without_last (q ∷ parts)))) (last_part (q ∷ parts))) ∙ x.whole

      free : (k : ℕ) → k < length (b ∷ p) → begins string (drop k (b ∷ p ++ string)) ≡ false
      free zero less = not_sooner string (b ∷ p ++ string) more (ap (λ z. begins string (b ∷ z)) first ∙ isnt)
      free (suc k) less = x.each 0 p (omega arith) k (omega (arith, less))

  some_first : (b : ℕ) (parts : Records) → IsSome (onto_first b parts)
  some_first b [] = tt
  some_first b (p ∷ parts) = tt

  none_in_nothing : (s : List ℕ) → is_filled s ≡ true → begins s [] ≡ false
  none_in_nothing [] is = cc
  none_in_nothing (x ∷ s) is = refl

  -- a string with a byte
  one_less : (s : List ℕ) → is_filled s ≡ true → (b : ℕ) (bytes : List ℕ) → drop (length s) (b ∷ bytes) ≡ drop (length s - 1) bytes
  one_less [] is b bytes = cc
  one_less (x ∷ s) is b bytes = ap (λ n. drop n bytes) (omega arith)

  cuts : (skip : ℕ) (bytes : List ℕ) → IsSome (cut_at string skip bytes) × Cuts (drop skip bytes) (cut_at string skip bytes)
  cuts skip [] = (tt, record { each = All-nil (IsFree string); none = none_in_nothing string filled; whole = sym (nothing skip) })
    where
      nothing : (skip : ℕ) → drop {A = ℕ} skip [] ≡ []
      nothing zero = refl
      nothing (suc skip) = refl
  cuts (suc skip) (b ∷ bytes) = subst (λ parts. IsSome parts × Cuts (drop skip bytes) parts) (sym (at_later string skip b bytes)) (cuts skip bytes)
  cuts zero (b ∷ bytes) = by_test (begins string (b ∷ bytes)) refl (cuts (length string - 1) bytes) (cuts 0 bytes)
    where
      by_test : (c : Bool) → begins string (b ∷ bytes) ≡ c → IsSome (cut_at string (length string - 1) bytes) × Cuts (drop (length string - 1) bytes) (cut_at string (length string - 1) bytes) → IsSome (cut_at string 0 bytes) × Cuts bytes (cut_at string 0 bytes) →
          IsSome (cut_at string 0 (b ∷ bytes)) × Cuts (b ∷ bytes) (cut_at string 0 (b ∷ bytes))
      by_test true is behind next = subst (λ parts. IsSome parts × Cuts (b ∷ bytes) parts) (sym (at_first string b bytes true is))
          (tt, found_first (b ∷ bytes) (drop (length string - 1) bytes) (cut_at string (length string - 1) bytes) (ap (λ z. string ++ z) (sym (one_less string filled b bytes)) ∙ begins_is string (b ∷ bytes) is) behind.0 behind.1)
      by_test false is behind next = subst (λ parts. IsSome parts × Cuts (b ∷ bytes) parts) (sym (at_first string b bytes false is)) (some_first b (cut_at string 0 bytes), not_found b bytes (cut_at string 0 bytes) is next.0 next.1)

  pub are_delimited : (bytes : List ℕ) → ArePartsAt string bytes (without_last (cut_at string 0 bytes)) (last_part (cut_at string 0 bytes))
  are_delimited bytes = (cuts 0 bytes).1

-- At line feeds they are lines
pub at_line_feeds : (bytes : List ℕ) → cut_at (10 ∷ []) 0 bytes ≡ slice_split (λ b. b == 10) bytes
at_line_feeds [] = refl
at_line_feeds (b ∷ bytes) = at_first (10 ∷ []) b bytes (b == 10) (turned b) ∙ ap (λ parts. cond (b == 10) ([] ∷ parts) (onto_first b parts)) (at_line_feeds bytes)
  where
    turned : (b : ℕ) → (10 == b && true) ≡ (b == 10)
    turned b = grind (arith, nat_tests)
