-- A text begins in one way.
use Rattle.std.proofs.Common.{◌≡◌, ◌≢◌, ℕ, zero, suc, ◌+◌, List, [], ◌∷◌, ◌++◌, length, get_or, replicate, refl, sym, ap, ◌∙◌, subst, arith, inl, inr, length-append}
use Rattle.std.specs.List.{Contains}
use Rattle.std.proofs.lemmas.List.Elements.{Contains-append_right}
use Rattle.pipe_model.specs.Words.{IsUnblanked}
use Rattle.spec_scanner.specs.declared.fault.SpecFaultKind.TheVariants.{OpenOptions}
use Rattle.spec_scanner.specs.Faults.{fault}
use Rattle.spec_scanner.proofs.Beginnings.{outset_of}
use Rattle.spec_scanner.specs.Options.{AreWords, BeginsAs, HasNone, HasSome, HasUnclosed, IsWordAt, Outset, Word, no_signs}

-- blanks before something else are determined
one_blanks : (n m : ℕ) (a b : List ℕ) → replicate n 32 ++ a ≡ replicate m 32 ++ b → get_or a 0 0 ≢ 32 → get_or b 0 0 ≢ 32 → (n ≡ m) × (a ≡ b)
one_blanks zero zero a b same other_a other_b = (refl, same)
one_blanks zero (suc m) a b same other_a other_b = absurd (other_a (ap (λ (bytes : List ℕ). get_or bytes 0 0) same))
one_blanks (suc n) zero a b same other_a other_b = absurd (other_b (ap (λ (bytes : List ℕ). get_or bytes 0 0) (sym same)))
one_blanks (suc n) (suc m) a b same other_a other_b =
    let tails : replicate n 32 ++ a ≡ replicate m 32 ++ b = cc in
    let later = one_blanks n m a b tails other_a other_b in
    (ap suc later.0, later.1)

-- bytes without this one before it are determined
one_before : (byte : ℕ) (front other rest more : List ℕ) → ¬ Contains front byte → ¬ Contains other byte → front ++ (byte ∷ rest) ≡ other ++ (byte ∷ more) → (front ≡ other) × (rest ≡ more)
one_before byte [] [] rest more whole whole_other same = (refl, cc)
one_before byte [] (b ∷ other) rest more whole whole_other same = let is : b ≡ byte = cc in absurd (whole_other (0, omega arith, is))
one_before byte (a ∷ front) [] rest more whole whole_other same = let is : a ≡ byte = cc in absurd (whole (0, omega arith, is))
one_before byte (a ∷ front) (b ∷ other) rest more whole whole_other same =
    let tails : front ++ (byte ∷ rest) ≡ other ++ (byte ∷ more) = cc in
    let heads : a ≡ b = cc in
    let later = one_before byte front other rest more (λ found. whole (Contains-append_right (a ∷ []) front byte found)) (λ found. whole_other (Contains-append_right (b ∷ []) other byte found)) tails in
    let fronts = later.0 in
    (cc, later.1)

-- a word without blanks before a blank or an end is determined
one_word : (word other rest more : List ℕ) → ¬ Contains word 32 → ¬ Contains other 32 → get_or rest 0 32 ≡ 32 → get_or more 0 32 ≡ 32 → word ++ rest ≡ other ++ more → (word ≡ other) × (rest ≡ more)
one_word [] [] rest more whole whole_other stops stops_other same = (refl, same)
one_word [] (b ∷ other) rest more whole whole_other stops stops_other same =
    let blank : b ≡ 32 = ap (λ (bytes : List ℕ). get_or bytes 0 32) (sym same) ∙ stops in
    absurd (whole_other (0, omega arith, blank))
one_word (a ∷ word) [] rest more whole whole_other stops stops_other same =
    let blank : a ≡ 32 = ap (λ (bytes : List ℕ). get_or bytes 0 32) same ∙ stops_other in
    absurd (whole (0, omega arith, blank))
one_word (a ∷ word) (b ∷ other) rest more whole whole_other stops stops_other same =
    let tails : word ++ rest ≡ other ++ more = cc in
    let heads : a ≡ b = cc in
    let later = one_word word other rest more (λ found. whole (Contains-append_right (a ∷ []) word 32 found)) (λ found. whole_other (Contains-append_right (b ∷ []) other 32 found)) stops stops_other tails in
    let words = later.0 in
    (cc, later.1)

module _ (text : List ℕ) where
  one_unblanked : (a b : List ℕ) (x : IsUnblanked text a) (y : IsUnblanked text b) → (x.blanks ≡ y.blanks) × (a ≡ b)
  one_unblanked a b x y = one_blanks x.blanks y.blanks a b (sym x.spells ∙ y.spells) x.other y.other

  -- a text of blanks has no word
  no_word : (at : ℕ) (word : Word) (rest : List ℕ) → IsUnblanked text [] → ¬ IsWordAt at text word rest
  no_word at word rest none is =
      let same = (one_unblanked [] is.front none is.unblanked).1 in
      omega (arith, is.some, ap length same, ap length is.first.spells, length-append word.bytes rest)

  one_word_at : (at : ℕ) (a b : Word) (rest more : List ℕ) → IsWordAt at text a rest → IsWordAt at text b more → (a ≡ b) × (rest ≡ more)
  one_word_at at a b rest more x y =
      let fronts = one_unblanked x.front y.front x.unblanked y.unblanked in
      let words = one_word a.bytes b.bytes rest more x.first.whole y.first.whole x.first.stops y.first.stops (sym x.first.spells ∙ fronts.1 ∙ y.first.spells) in
      let places : a.place ≡ b.place = x.place_is ∙ ap (λ (n : ℕ). at + n) fronts.0 ∙ sym y.place_is in
      (by_parts (λ bytes place. record { bytes = bytes; place = place }) a.bytes b.bytes a.place b.place words.0 places, words.1) where
        by_parts : (make : List ℕ → ℕ → Word) (c d : List ℕ) (e f : ℕ) → c ≡ d → e ≡ f → make c e ≡ make d f
        by_parts make c d e f first second = cc

-- the words of a text are determined
one_words : (at : ℕ) (text : List ℕ) (a b : List Word) → AreWords at text a → AreWords at text b → a ≡ b
one_words at text [] [] x y = refl
one_words at text [] (word ∷ b) x y = absurd (no_word text at word y.0 x y.1)
one_words at text (word ∷ a) [] x y = absurd (no_word text at word x.0 y x.1)
one_words at text (word ∷ a) (other ∷ b) x y =
    let same = one_word_at text at word other x.0 y.0 x.1 y.1 in
    let there = subst (λ (w : Word). AreWords (w.place + length w.bytes) y.0 b) (sym same.0) y.2 in
    let later = one_words (word.place + length word.bytes) x.0 a b x.2 (subst (λ (bytes : List ℕ). AreWords (word.place + length word.bytes) bytes b) (sym same.1) there) in
    let heads = same.0 in
    cc

module _ (text : List ℕ) where
  -- a text without options has no parenthesis after its blanks
  no_parenthesis : (outset : Outset) (blanks : ℕ) (after : List ℕ) → HasNone text outset → text ≢ replicate blanks 32 ++ (40 ∷ after)
  no_parenthesis outset blanks after none = λ spells.
      let both = one_blanks none.unblanked.blanks blanks none.body (40 ∷ after) (sym none.unblanked.spells ∙ spells) none.unblanked.other (λ is. omega arith) in
      none.other (ap (λ (bytes : List ℕ). get_or bytes 0 0) both.1)

  -- what stands after a parenthesis
  one_parenthesis : (n m : ℕ) (after other : List ℕ) → text ≡ replicate n 32 ++ (40 ∷ after) → text ≡ replicate m 32 ++ (40 ∷ other) → (n ≡ m) × (after ≡ other)
  one_parenthesis n m after other first second =
      let both = one_blanks n m (40 ∷ after) (40 ∷ other) (sym first ∙ second) (λ is. omega arith) (λ is. omega arith) in
      let heads = both.1 in
      (both.0, cc)

  -- options that are not closed are not closed
  no_closing : (a b : Outset) → HasUnclosed text a → ¬ HasSome text b
  no_closing a b unclosed some =
      let both = one_parenthesis unclosed.blanks some.blanks unclosed.unclosed.after (some.inside ++ (41 ∷ some.body)) unclosed.unclosed.spells some.options.spells in
      unclosed.unclosed.never (subst (λ (bytes : List ℕ). Contains bytes 41) (sym both.1) (Contains-append_right some.inside (41 ∷ some.body) 41 (0, omega arith, refl)))

  none_one : (a b : Outset) → HasNone text a → HasNone text b → a ≡ b
  none_one a b x y =
      let both = one_unblanked text x.body y.body x.unblanked y.unblanked in
      x.outset_is ∙ ap (λ (n : ℕ). record { signs = no_signs; start = n; faults = [] }) both.0 ∙ sym y.outset_is

  unclosed_one : (a b : Outset) → HasUnclosed text a → HasUnclosed text b → a ≡ b
  unclosed_one a b x y =
      let both = one_parenthesis x.blanks y.blanks x.unclosed.after y.unclosed.after x.unclosed.spells y.unclosed.spells in
      x.outset_is ∙ ap (λ (n : ℕ). record { signs = no_signs; start = length text; faults = fault OpenOptions n ∷ [] }) both.0 ∙ sym y.outset_is

  four : (make : ℕ → List ℕ → List ℕ → List Word → Outset) (n m : ℕ) (a b c d : List ℕ) (e f : List Word) → n ≡ m → a ≡ b → c ≡ d → e ≡ f → make n a c e ≡ make m b d f
  four make n m a b c d e f first second third fourth = cc

  some_one : (a b : Outset) → HasSome text a → HasSome text b → a ≡ b
  some_one a b x y =
      let both = one_parenthesis x.blanks y.blanks (x.inside ++ (41 ∷ x.body)) (y.inside ++ (41 ∷ y.body)) x.options.spells y.options.spells in
      let parts = one_before 41 x.inside y.inside x.body y.body x.options.whole y.options.whole both.1 in
      let there = subst (λ (n : ℕ). AreWords (suc n) y.inside y.words) (sym both.0) y.words_are in
      let words = one_words (suc x.blanks) x.inside x.words y.words x.words_are (subst (λ (bytes : List ℕ). AreWords (suc x.blanks) bytes y.words) (sym parts.0) there) in
      x.outset_is ∙ four (outset_of text) x.blanks y.blanks x.inside y.inside x.body y.body x.words y.words both.0 parts.0 parts.1 words ∙ sym y.outset_is

  -- a text begins in one way
  pub one_outset : (a b : Outset) → BeginsAs text a → BeginsAs text b → a ≡ b
  one_outset a b (inl x) (inl y) = none_one a b x y
  one_outset a b (inl x) (inr (inl y)) = absurd (no_parenthesis a y.blanks y.unclosed.after x y.unclosed.spells)
  one_outset a b (inl x) (inr (inr y)) = absurd (no_parenthesis a y.blanks (y.inside ++ (41 ∷ y.body)) x y.options.spells)
  one_outset a b (inr (inl x)) (inl y) = absurd (no_parenthesis b x.blanks x.unclosed.after y x.unclosed.spells)
  one_outset a b (inr (inl x)) (inr (inl y)) = unclosed_one a b x y
  one_outset a b (inr (inl x)) (inr (inr y)) = absurd (no_closing a b x y)
  one_outset a b (inr (inr x)) (inl y) = absurd (no_parenthesis b x.blanks (x.inside ++ (41 ∷ x.body)) y x.options.spells)
  one_outset a b (inr (inr x)) (inr (inl y)) = absurd (no_closing b a y x)
  one_outset a b (inr (inr x)) (inr (inr y)) = some_one a b x y
