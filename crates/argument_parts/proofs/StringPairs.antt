-- Two strings are read in one way, or have one fault.
use Rattle.std.proofs.Common.{◌≡◌, ℕ, List, [], ◌∷◌, ◌++◌, ◌<◌, ◌⊎◌, get_or, length, refl, sym, ap, ◌∙◌, subst, arith, inl, inr}
use Rattle.std.specs.List.{Contains}
use Rattle.pipe_model.proofs.Blanks.{one_front}
use Rattle.argument_parts.proofs.OneStrings.{not_hexadecimal, one_delimited, one_hexadecimal, one_until}
use Rattle.argument_parts.proofs.Outcomes.{hexadecimal_front, no_front}
use Rattle.argument_parts.proofs.StringParts.{any_string_faultless, no_any_misfit_of_word, no_any_string_of_word, one_any_misfit, one_any_string}
use Rattle.argument_parts.specs.PairsOfStrings.{AreDelimited, AreMisfits, AreStrings, AreUnclosed, IsAnyString, IsAnyStringMisfit, IsHexadecimalBefore, IsSecondMisfit}
use Rattle.argument_parts.specs.Strings.{IsBadHex, IsDelimited, IsOtherWord}
use Rattle.pipe_model.specs.Words.{IsUnblanked}
use Rattle.argument_parts.specs.declared.fault.FaultKind.TheVariants.{Missing, UnknownWord}
use Rattle.argument_parts.specs.declared.part.TextFault.{TextFault}

-- what comes after a hexadecimal string isn't a string, for this reason
abbrev IsNoSecond : List ℕ → TextFault → Type 0
IsNoSecond front fault =
    ((front ≡ []) × (fault ≡ record { left = 0; kind = Missing }))
    ⊎ ((0 < length front) × (IsAnyStringMisfit front fault ⊎ (IsOtherWord front × (fault ≡ record { left = length front; kind = UnknownWord }))))

-- nothing is no string
pub no_string_of_nothing : (string rest : List ℕ) → ¬ IsAnyString [] string rest
no_string_of_nothing string rest (inl is) = let spells = is.spells in cc
no_string_of_nothing string rest (inr is) = let front = hexadecimal_front [] string rest is in omega arith

module _ (text : List ℕ) where
  -- the first of two strings that share a delimiter
  abbrev pub first_delimited : (first second rest : List ℕ) (are : AreDelimited text first second rest) → IsDelimited text first (second ++ (are.delimiter ∷ rest))
  first_delimited first second rest are = record { delimiter = are.delimiter; chosen = are.chosen; whole = are.first_whole; spells = are.spells }

  one_delimited_pair : (first second rest other next after : List ℕ) → AreDelimited text first second rest → AreDelimited text other next after → (first ≡ other) × (second ≡ next) × (rest ≡ after)
  one_delimited_pair first second rest other next after is too =
      let both = sym is.spells ∙ too.spells in
      let byte : is.delimiter ≡ too.delimiter = cc in
      let fronts = one_delimited text first other _ _ (first_delimited first second rest is) (first_delimited other next after too) in
      let tails = fronts.1 ∙ ap (λ b. next ++ (b ∷ after)) (sym byte) in
      let seconds = one_until is.delimiter second next rest after is.second_whole (subst (λ b. ¬ Contains next b) (sym byte) too.second_whole) tails in
      (fronts.0, seconds.0, seconds.1)

  -- what shares a delimiter is no hexadecimal string
  not_pair_and_hexadecimal : (first second rest other front : List ℕ) → AreDelimited text first second rest → ¬ IsHexadecimalBefore text other front
  not_pair_and_hexadecimal first second rest other front is before = not_hexadecimal text first other _ before.after (first_delimited first second rest is) before.hexadecimal

  -- a hexadecimal string and what comes after it and its blanks are one
  one_before : (first front other next : List ℕ) → IsHexadecimalBefore text first front → IsHexadecimalBefore text other next → (first ≡ other) × (front ≡ next)
  one_before first front other next is too =
      let firsts = one_hexadecimal text first other is.after too.after is.hexadecimal too.hexadecimal in
      (firsts.0, one_front is.after front next is.unblanked (subst (λ after. IsUnblanked after next) (sym firsts.1) too.unblanked))

  pub one_pair : (first second rest other next after : List ℕ) → AreStrings text first second rest → AreStrings text other next after → (first ≡ other) × (second ≡ next) × (rest ≡ after)
  one_pair first second rest other next after (inl is) (inl too) = one_delimited_pair first second rest other next after is too
  one_pair first second rest other next after (inl is) (inr too) = absurd (not_pair_and_hexadecimal first second rest other too.front is too.before)
  one_pair first second rest other next after (inr is) (inl too) = absurd (not_pair_and_hexadecimal other next after first is.front too is.before)
  one_pair first second rest other next after (inr is) (inr too) =
      let fronts = one_before first is.front other too.front is.before too.before in
      let strings = one_any_string is.front second next rest after is.string (subst (λ front. IsAnyString front next after) (sym fronts.1) too.string) in
      (fronts.0, strings.0, strings.1)

  -- a hexadecimal string in front isn't unclosed, and isn't a bad one
  not_before_and_unclosed : (first front : List ℕ) → IsHexadecimalBefore text first front → ¬ AreUnclosed text
  not_before_and_unclosed first front before unclosed =
      no_front text unclosed.delimiter 120 (ap (λ bytes. get_or bytes 0 0) unclosed.spells) unclosed.chosen (hexadecimal_front text first before.after before.hexadecimal) refl

  not_before_and_bad : (first front : List ℕ) → IsHexadecimalBefore text first front → ¬ IsBadHex text
  not_before_and_bad first front before bad = bad.none first before.after before.hexadecimal

  not_unclosed_and_bad : AreUnclosed text → ¬ IsBadHex text
  not_unclosed_and_bad unclosed bad = no_front text unclosed.delimiter 120 (ap (λ bytes. get_or bytes 0 0) unclosed.spells) unclosed.chosen bad.begins refl

  -- a second string isn't a misfit
  second_faultless : (front second rest : List ℕ) (fault : TextFault) → IsAnyString front second rest → (is : IsSecondMisfit text fault) → ¬ (is.front ≡ front)
  second_faultless front second rest fault string is same = by is.misfit where
    moved : IsAnyString is.front second rest
    moved = subst (λ front. IsAnyString front second rest) (sym same) string

    by : ¬ IsNoSecond is.front fault
    by (inl none) = no_string_of_nothing second rest (subst (λ front. IsAnyString front second rest) none.0 moved)
    by (inr (some, inl misfit)) = any_string_faultless is.front second rest fault moved misfit
    by (inr (some, inr other)) = no_any_string_of_word is.front other.0 second rest moved

  pub pair_faultless : (first second rest : List ℕ) (fault : TextFault) → AreStrings text first second rest → ¬ AreMisfits text fault
  pair_faultless first second rest fault (inl is) (inl unclosed) = unclosed.0.none first second rest is
  pair_faultless first second rest fault (inl is) (inr (inl bad)) = no_front text is.delimiter 120 (ap (λ bytes. get_or bytes 0 0) is.spells) is.chosen bad.0.begins refl
  pair_faultless first second rest fault (inl is) (inr (inr misfit)) = not_pair_and_hexadecimal first second rest misfit.first misfit.front is misfit.before
  pair_faultless first second rest fault (inr is) (inl unclosed) = not_before_and_unclosed first is.front is.before unclosed.0
  pair_faultless first second rest fault (inr is) (inr (inl bad)) = not_before_and_bad first is.front is.before bad.0
  pair_faultless first second rest fault (inr is) (inr (inr misfit)) =
      second_faultless is.front second rest fault is.string misfit (one_before misfit.first misfit.front first is.front misfit.before is.before).1

  -- a second string has one fault
  one_second : (front : List ℕ) (a b : TextFault)
      → IsNoSecond front a
      → IsNoSecond front b
      → a ≡ b
  one_second front a b (inl is) (inl too) = is.1 ∙ sym too.1
  one_second front a b (inl is) (inr too) = absurd (omega (arith, too.0, ap length is.0))
  one_second front a b (inr is) (inl too) = absurd (omega (arith, is.0, ap length too.0))
  one_second front a b (inr (some, inl is)) (inr (many, inl too)) = one_any_misfit front a b is too
  one_second front a b (inr (some, inl is)) (inr (many, inr too)) = absurd (no_any_misfit_of_word front too.0 a is)
  one_second front a b (inr (some, inr is)) (inr (many, inl too)) = absurd (no_any_misfit_of_word front is.0 b too)
  one_second front a b (inr (some, inr is)) (inr (many, inr too)) = is.1 ∙ sym too.1

  pub one_pair_misfit : (a b : TextFault) → AreMisfits text a → AreMisfits text b → a ≡ b
  one_pair_misfit a b (inl is) (inl too) = is.1 ∙ sym too.1
  one_pair_misfit a b (inl is) (inr (inl too)) = absurd (not_unclosed_and_bad is.0 too.0)
  one_pair_misfit a b (inl is) (inr (inr too)) = absurd (not_before_and_unclosed too.first too.front too.before is.0)
  one_pair_misfit a b (inr (inl is)) (inl too) = absurd (not_unclosed_and_bad too.0 is.0)
  one_pair_misfit a b (inr (inl is)) (inr (inl too)) = is.1 ∙ sym too.1
  one_pair_misfit a b (inr (inl is)) (inr (inr too)) = absurd (not_before_and_bad too.first too.front too.before is.0)
  one_pair_misfit a b (inr (inr is)) (inl too) = absurd (not_before_and_unclosed is.first is.front is.before too.0)
  one_pair_misfit a b (inr (inr is)) (inr (inl too)) = absurd (not_before_and_bad is.first is.front is.before too.0)
  one_pair_misfit a b (inr (inr is)) (inr (inr too)) =
      let fronts = one_before is.first is.front too.first too.front is.before too.before in
      one_second is.front a b is.misfit (subst (λ front. IsNoSecond front b) (sym fronts.1) too.misfit)
