-- A text that a string may begin: which of its faults it has, and when it is left to other parts.
use Rattle.std.proofs.Common.{◌≡◌, ℕ, List, [], get_or, refl, sym, ap, ◌∙◌, subst, inl, inr}
use Rattle.argument_parts.proofs.OneStrings.{not_unclosed_and_hex, one_delimited, one_hexadecimal, not_hexadecimal, one_string_fault}
use Rattle.argument_parts.proofs.Outcomes.{delimited_front, hexadecimal_front, no_fault, no_front, not_unclosed}
use Rattle.argument_parts.specs.PairsOfStrings.{IsAnyString, IsAnyStringMisfit}
use Rattle.argument_parts.specs.Parts.{IsOfStrings, IsStringMisfit}
use Rattle.argument_parts.specs.Strings.{IsBadHex, IsDelimited, IsHexadecimalWord, IsNoString, IsOtherWord, IsString, IsUnclosed}
use Rattle.argument_parts.specs.declared.fault.FaultKind.{FaultKind}
use Rattle.argument_parts.specs.declared.fault.FaultKind.TheVariants.{UnknownWord}
use Rattle.argument_parts.specs.declared.part.TextFault.{TextFault}

module _ (text : List ℕ) where
  -- what is delimited doesn't begin with x, nor what is unclosed, and a hexadecimal word isn't unclosed
  not_delimited_and_bad : (string rest : List ℕ) → IsDelimited text string rest → ¬ IsBadHex text
  not_delimited_and_bad string rest is bad = no_front text is.delimiter 120 (delimited_front text string rest is) is.chosen bad.begins refl

  not_hexadecimal_and_unclosed : (string rest : List ℕ) → IsHexadecimalWord text string rest → ¬ IsUnclosed text
  not_hexadecimal_and_unclosed string rest is unclosed =
      no_front text unclosed.delimiter 120 (ap (λ bytes. get_or bytes 0 0) unclosed.spells) unclosed.chosen (hexadecimal_front text string rest is) refl

  -- another word is no string
  pub no_string_of_word : IsOtherWord text → (string rest : List ℕ) → ¬ IsString text string rest
  no_string_of_word other string rest is = no_fault text string rest UnknownWord is other

  -- another word isn't unclosed
  not_other_and_unclosed : IsOtherWord text → ¬ IsUnclosed text
  not_other_and_unclosed other unclosed =
      no_front text unclosed.delimiter (get_or text 0 0) (ap (λ bytes. get_or bytes 0 0) unclosed.spells) unclosed.chosen refl other.begins

  -- another word has no fault that a string has whatever else may come
  no_fault_of_word : IsOtherWord text → (kind : FaultKind) → IsOfStrings kind → ¬ IsNoString text kind
  no_fault_of_word other kind (inl is) fault = not_other_and_unclosed other (subst (IsNoString text) is fault)
  no_fault_of_word other kind (inr (inl is)) fault =
      let empty = subst (IsNoString text) is fault in
      no_front text empty.1.delimiter (get_or text 0 0) (delimited_front text [] empty.0 empty.1) empty.1.chosen refl other.begins
  no_fault_of_word other kind (inr (inr is)) fault = other.other (subst (IsNoString text) is fault).begins

  pub no_misfit_of_word : IsOtherWord text → (fault : TextFault) → ¬ IsStringMisfit text fault
  no_misfit_of_word other fault misfit = no_fault_of_word other fault.kind misfit.1 misfit.2

  -- a text has one fault that strings have whatever else may come
  pub one_string_misfit : (a b : TextFault) → IsStringMisfit text a → IsStringMisfit text b → a ≡ b
  one_string_misfit a b is too =
      ap (λ left. record { left = left; kind = a.kind }) (is.0 ∙ sym too.0) ∙ ap (λ kind. record { left = b.left; kind = kind }) (one_string_fault text a.kind b.kind is.1 too.1 is.2 too.2)

  -- a string that may be empty is one
  pub one_any_string : (string other rest after : List ℕ) → IsAnyString text string rest → IsAnyString text other after → (string ≡ other) × (rest ≡ after)
  one_any_string string other rest after (inl is) (inl too) = one_delimited text string other rest after is too
  one_any_string string other rest after (inl is) (inr too) = absurd (not_hexadecimal text string other rest after is too)
  one_any_string string other rest after (inr is) (inl too) = absurd (not_hexadecimal text other string after rest too is)
  one_any_string string other rest after (inr is) (inr too) = one_hexadecimal text string other rest after is too

  -- and has no fault
  pub any_string_faultless : (string rest : List ℕ) (fault : TextFault) → IsAnyString text string rest → ¬ IsAnyStringMisfit text fault
  any_string_faultless string rest fault (inl is) (inl misfit) = not_unclosed text string rest is misfit.0
  any_string_faultless string rest fault (inl is) (inr misfit) = not_delimited_and_bad string rest is misfit.0
  any_string_faultless string rest fault (inr is) (inl misfit) = not_hexadecimal_and_unclosed string rest is misfit.0
  any_string_faultless string rest fault (inr is) (inr misfit) = misfit.0.none string rest is

  pub one_any_misfit : (a b : TextFault) → IsAnyStringMisfit text a → IsAnyStringMisfit text b → a ≡ b
  one_any_misfit a b (inl is) (inl too) = is.1 ∙ sym too.1
  one_any_misfit a b (inl is) (inr too) = absurd (not_unclosed_and_hex text is.0 too.0)
  one_any_misfit a b (inr is) (inl too) = absurd (not_unclosed_and_hex text too.0 is.0)
  one_any_misfit a b (inr is) (inr too) = is.1 ∙ sym too.1

  -- another word is left to other parts
  pub no_any_string_of_word : IsOtherWord text → (string rest : List ℕ) → ¬ IsAnyString text string rest
  no_any_string_of_word other string rest (inl is) = no_front text is.delimiter (get_or text 0 0) (delimited_front text string rest is) is.chosen refl other.begins
  no_any_string_of_word other string rest (inr is) = other.other (hexadecimal_front text string rest is)

  pub no_any_misfit_of_word : IsOtherWord text → (fault : TextFault) → ¬ IsAnyStringMisfit text fault
  no_any_misfit_of_word other fault (inl misfit) = not_other_and_unclosed other misfit.0
  no_any_misfit_of_word other fault (inr misfit) = other.other misfit.0.begins
