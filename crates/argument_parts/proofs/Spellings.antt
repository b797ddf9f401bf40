-- A word spells a range in one way: the first digits are its first number.
use Rattle.std.proofs.Common.{◌≡◌, ℕ, ◌+◌, ◌<◌, ◌&&◌, Bool, true, false, List, [], ◌∷◌, ◌++◌, length, take, get_or, refl, sym, ap, ◌∙◌, subst}
use Rattle.std.specs.Char.{is_ascii_digit}
use Rattle.std.specs.Str.{all_ascii_digits}
use Rattle.std.proofs.lemmas.List.{take_more}
use Rattle.std.proofs.lemmas.Str.Parse.{tells_all_ascii_digits}
use Rattle.argument_parts.specs.Numbers.{AreFirstDigits, IsNumber}
use Rattle.argument_parts.specs.Bounds.{IsMisfit}
use Rattle.argument_parts.specs.PlainRanges.{IsRangeFault, fault_of}
use Rattle.argument_parts.specs.Ranges.{Ends, IsSpelling}
use Rattle.argument_parts.specs.declared.bounds.Misfit.{Misfit}
use Rattle.argument_parts.specs.declared.spelled.WordFault.{WordFault}
use Rattle.argument_parts.specs.declared.ranges.Ending.{Ending}
use Rattle.argument_parts.specs.declared.ranges.Ending.TheVariants.{Alone, To, Open, Long}
use Rattle.argument_parts.specs.declared.ranges.Spelling.{Spelling}

-- of two tests that pass the first passes
pub first_passes : (a b : Bool) → (a && b) ≡ true → a ≡ true
first_passes true b both = refl
first_passes false b both = cc

-- digits and one more are digits
digits_and_one : (digits : List ℕ) (digit : ℕ) → all_ascii_digits digits ≡ true → is_ascii_digit digit ≡ true → all_ascii_digits (digits ++ digit ∷ []) ≡ true
digits_and_one [] digit are is = rw is refl
digits_and_one (d ∷ digits) digit are is =
    let parts = tells_all_ascii_digits.parts d digits are in
    tells_all_ascii_digits.more d (digits ++ digit ∷ []) parts.0 (digits_and_one digits digit parts.1 is)

-- one digit more stands at the front of the word
pub front_digits_more : (word : List ℕ) (at : ℕ) → at < length word → all_ascii_digits (take at word) ≡ true → is_ascii_digit (get_or word at 0) ≡ true → all_ascii_digits (take (at + 1) word) ≡ true
front_digits_more word at below are is = rw (take_more word at 0 below) (digits_and_one (take at word) (get_or word at 0) are is)

-- digits before something else are determined
pub one_front : (digits other rest after : List ℕ) → all_ascii_digits digits ≡ true → all_ascii_digits other ≡ true → is_ascii_digit (get_or rest 0 0) ≡ false → is_ascii_digit (get_or after 0 0) ≡ false
    → digits ++ rest ≡ other ++ after → (digits ≡ other) × (rest ≡ after)
one_front [] [] rest after are others stops stops_other same = (refl, same)
one_front [] (b ∷ other) rest after are others stops stops_other same =
    let no : false ≡ true = sym stops ∙ ap (λ bytes. is_ascii_digit (get_or bytes 0 0)) same ∙ first_passes (is_ascii_digit b) (all_ascii_digits other) others in
    cc
one_front (a ∷ digits) [] rest after are others stops stops_other same =
    let no : false ≡ true = sym stops_other ∙ ap (λ bytes. is_ascii_digit (get_or bytes 0 0)) (sym same) ∙ first_passes (is_ascii_digit a) (all_ascii_digits digits) are in
    cc
one_front (a ∷ digits) (b ∷ other) rest after are others stops stops_other same =
    let tails : digits ++ rest ≡ other ++ after = cc in
    let heads : a ≡ b = cc in
    let more = one_front digits other rest after (tells_all_ascii_digits.parts a digits are).1 (tells_all_ascii_digits.parts b other others).1 stops stops_other tails in
    let fronts = more.0 in
    (cc, more.1)

-- what is spelled after the first number doesn't begin with a digit
pub ends_stop : (after : List ℕ) (ending : Ending) → Ends after ending → is_ascii_digit (get_or after 0 0) ≡ false
ends_stop after Alone ends = ap (λ bytes. is_ascii_digit (get_or bytes 0 0)) ends
ends_stop after (To last) ends = ap (λ bytes. is_ascii_digit (get_or bytes 0 0)) ends.1
ends_stop after Open ends = ap (λ bytes. is_ascii_digit (get_or bytes 0 0)) ends
ends_stop after (Long len) ends = ap (λ bytes. is_ascii_digit (get_or bytes 0 0)) ends.1

module _ (word digits rest : List ℕ) (first : AreFirstDigits word digits rest) where
  -- the first digits are the number that is spelled, and the rest is what is spelled after it
  pub same_parts : (spelling : Spelling) (spelled : IsSpelling word spelling) → (digits ≡ spelled.number) × (rest ≡ spelled.after)
  same_parts spelling spelled =
      one_front digits spelled.number rest spelled.after first.digits_all spelled.counts.digits first.stops (ends_stop spelled.after spelling.ending spelled.ends) (sym first.spells ∙ spelled.spells)

  -- where they are no number, no range is spelled
  pub no_number : ((value : ℕ) → ¬ IsNumber digits value) → (spelling : Spelling) → ¬ IsSpelling word spelling
  no_number none spelling spelled = none spelling.first (subst (λ number. IsNumber number spelling.first) (sym (same_parts spelling spelled).0) spelled.counts)

  -- where the rest is no end, no range is spelled
  pub no_ending : ((ending : Ending) → ¬ Ends rest ending) → (spelling : Spelling) → ¬ IsSpelling word spelling
  no_ending none spelling spelled = none spelling.ending (subst (λ after. Ends after spelling.ending) (sym (same_parts spelling spelled).1) spelled.ends)

  -- the first digits are as many as the number has
  pub as_many : (spelling : Spelling) (spelled : IsSpelling word spelling) → length digits ≡ length spelled.number
  as_many spelling spelled = ap length (same_parts spelling spelled).0

  -- a misfit of the spelling is a fault of the word, the second number standing one byte after the first digits
  pub range_fault : (spelling : Spelling) (misfit : Misfit) (fault : WordFault) → IsSpelling word spelling → IsMisfit spelling misfit → fault ≡ fault_of (length digits + 1) misfit → IsRangeFault word fault
  range_fault spelling misfit fault spelled misfits is = record {
    spelling = spelling;
    spelled = spelled;
    misfit = misfit;
    misfits = misfits;
    fault_is = is ∙ ap (λ n. fault_of (n + 1) misfit) (as_many spelling spelled);
  }
