-- A whole number and the name of a counter are read in one way, or have one fault.
use Rattle.std.proofs.Common.{◌≡◌, ◌≢◌, ℕ, ℤ, ◌+◌, ◌<◌, Bool, true, false, List, [], ◌∷◌, ◌++◌, length, get_or, refl, sym, ap, ◌∙◌, subst, arith, Some, None, append-nil, drop, if◌then◌else◌}
use Rattle.std.specs.Char.{is_ascii_digit}
use Rattle.std.specs.Str.{all_ascii_digits}
use Rattle.std.proofs.lemmas.List.{drop_at}
use Rattle.pipe_model.specs.Numbers.{within_i64}
use Rattle.pipe_model.proofs.FirstWords.{same_rest, same_word}
use Rattle.argument_parts.proofs.RangeFronts.{emptied}
use Rattle.argument_parts.proofs.Spellings.{first_passes, one_front}
use Rattle.argument_parts.specs.Numbers.{AreFirstDigits, decimal}
use Rattle.argument_parts.specs.WholeNumbers.{IsCounter, IsNoWhole, IsWhole, IsWholeIn, IsWholeMisfit, sign_of, signed}
use Rattle.pipe_model.specs.Words.{IsFirstWord}
use Rattle.argument_parts.specs.declared.part.TextFault.{TextFault}

-- digits don't begin with a minus sign
unsigned_front : (digits more : List ℕ) → all_ascii_digits digits ≡ true → 0 < length digits → digits ≢ 45 ∷ more
unsigned_front [] more are some same = omega (arith, some)
unsigned_front (digit ∷ digits) more are some same =
    let minus : digit ≡ 45 = ap (λ bytes. get_or bytes 0 0) same in
    let no : true ≡ false = sym (first_passes (is_ascii_digit digit) (all_ascii_digits digits) are) ∙ ap is_ascii_digit minus in
    cc

-- a sign and digits are one
one_sign : (a b : Bool) (digits other : List ℕ) → all_ascii_digits digits ≡ true → all_ascii_digits other ≡ true → 0 < length digits → 0 < length other → sign_of a ++ digits ≡ sign_of b ++ other → (a ≡ b) × (digits ≡ other)
one_sign false false digits other are others some more same = (refl, same)
one_sign false true digits other are others some more same = absurd (unsigned_front digits other are some same)
one_sign true false digits other are others some more same = absurd (unsigned_front other digits others more (sym same))
one_sign true true digits other are others some more same = let tails : digits ≡ other = cc in (refl, tails)

-- a word is one whole number
one_value : (word other : List ℕ) (a b : ℤ) → word ≡ other → IsWhole word a → IsWhole other b → a ≡ b
one_value word other a b same is too =
    let signs = one_sign is.minus too.minus is.digits too.digits is.digits_all too.digits_all is.some too.some (sym is.spells ∙ same ∙ too.spells) in
    is.worth ∙ ap (λ minus. signed minus (decimal is.digits)) signs.0 ∙ ap (λ digits. signed too.minus (decimal digits)) signs.1 ∙ sym too.worth

module _ (text : List ℕ) where
  pub one_whole : (a b : ℤ) (rest more : List ℕ) → IsWholeIn text a rest → IsWholeIn text b more → (a ≡ b) × (rest ≡ more)
  one_whole a b rest more is too =
      (one_value is.word too.word a b (same_word text is.word rest too.word more is.first too.first) is.counts too.counts, same_rest text is.word rest too.word more is.first too.first)

  -- a whole number of 64 bits has no more
  pub whole_faultless : (value : ℤ) (rest : List ℕ) (fault : TextFault) → IsWholeIn text value rest → ¬ IsWholeMisfit text fault
  whole_faultless value rest fault is misfit =
      let same = one_value is.word misfit.word value misfit.value (same_word text is.word rest misfit.word misfit.rest is.first misfit.first) is.counts misfit.counts in
      let no : Some value ≡ None = sym is.within ∙ ap within_i64 same ∙ misfit.outside in
      cc

  pub one_counter : (a b : ℕ) (rest more : List ℕ) → IsCounter text a rest → IsCounter text b more → (a ≡ b) × (rest ≡ more)
  one_counter a b rest more is too =
      let words = same_word text (35 ∷ ((48 + a) ∷ [])) rest (35 ∷ ((48 + b) ∷ [])) more is.first too.first in
      (omega (arith, ap (λ bytes. get_or bytes 1 0) words), same_rest text (35 ∷ ((48 + a) ∷ [])) rest (35 ∷ ((48 + b) ∷ [])) more is.first too.first)

-- What was read of a word

-- a number of 64 bits is itself
chosen : (test : Bool) (z value : ℤ) → (if test then Some z else None) ≡ Some value → z ≡ value
chosen true z value is = cc
chosen false z value is = cc

module _ (text word rest unsigned digits others : List ℕ) (minus : Bool) (first : IsFirstWord text word rest) (spells : word ≡ sign_of minus ++ unsigned) (minus_is : get_or word 0 0 ≡ 45 → minus ≡ true) (split : AreFirstDigits unsigned digits others) where
  -- a whole number has the sign that was read, and its digits come after it
  same_sign : (value : ℤ) (is : IsWhole word value) → is.digits ≡ unsigned
  same_sign value is = by minus is.minus spells is.spells minus_is where
    by : (a b : Bool) → word ≡ sign_of a ++ unsigned → word ≡ sign_of b ++ is.digits → (get_or word 0 0 ≡ 45 → a ≡ true) → is.digits ≡ unsigned
    by false false spelled spelled_digits must = sym spelled_digits ∙ spelled
    by false true spelled spelled_digits must = let no : false ≡ true = must (ap (λ bytes. get_or bytes 0 0) spelled_digits) in cc
    by true false spelled spelled_digits must = absurd (unsigned_front is.digits unsigned is.digits_all is.some (sym spelled_digits ∙ spelled))
    by true true spelled spelled_digits must = let both = sym spelled_digits ∙ spelled in let tails : is.digits ≡ unsigned = cc in tails

  -- they are all that comes after it
  all_digits : (value : ℤ) (is : IsWhole word value) → (digits ≡ is.digits) × (others ≡ [])
  all_digits value is =
      one_front digits is.digits others [] split.digits_all is.digits_all split.stops refl (sym split.spells ∙ sym (same_sign value is) ∙ sym (append-nil is.digits))

  -- a word without digits is no whole number
  pub no_digits : length digits ≡ 0 → IsNoWhole text
  no_digits none other after value also is =
      let here = subst (λ word. IsWhole word value) (same_word text other after word rest also first) is in
      omega (arith, none, here.some, ap length (all_digits value here).0)

  -- nor is one that goes on after them
  pub other_digits : 0 < length others → IsNoWhole text
  other_digits some other after value also is =
      let here = subst (λ word. IsWhole word value) (same_word text other after word rest also first) is in
      omega (arith, some, ap length (all_digits value here).1)

  -- digits alone are a whole number
  pub whole_read : 0 < length digits → length others ≡ 0 → IsWhole word (signed minus (decimal digits))
  whole_read some none = record {
    minus = minus;
    digits = digits;
    spells = spells ∙ ap (λ bytes. sign_of minus ++ bytes) (split.spells ∙ ap (λ bytes. digits ++ bytes) (emptied others none) ∙ append-nil digits);
    some = some;
    digits_all = split.digits_all;
    worth = refl;
  }

  pub whole_in : (value : ℤ) → 0 < length digits → length others ≡ 0 → within_i64 (signed minus (decimal digits)) ≡ Some value → IsWholeIn text value (drop (length word) text)
  whole_in value some none within =
      let z = signed minus (decimal digits) in
      let same : z ≡ value = chosen _ z value within in
      let left : drop (length word) text ≡ rest = ap (drop (length word)) first.spells ∙ drop_at word rest (length word) refl in
      rw left (record {
        word = word;
        first = first;
        counts = subst (IsWhole word) same (whole_read some none);
        within = subst (λ n. within_i64 n ≡ Some value) same within;
      })
