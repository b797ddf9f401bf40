-- A byte as a part: it is read in one way, or has one fault.
use Rattle.std.proofs.Common.{◌≡◌, ◌⊎◌, ℕ, List, [], ◌∷◌, length, sym, ap, ◌∙◌, inl, inr}
use Rattle.argument_parts.proofs.OneStrings.{one_string}
use Rattle.argument_parts.proofs.Outcomes.{no_fault}
use Rattle.argument_parts.proofs.StringParts.{no_misfit_of_word, no_string_of_word, one_string_misfit}
use Rattle.argument_parts.specs.Bytes.{IsByte, IsLengthFault}
use Rattle.argument_parts.specs.Parts.{IsStringMisfit}
use Rattle.argument_parts.specs.Strings.{IsOtherWord}
use Rattle.argument_parts.specs.declared.part.TextFault.{TextFault}

module _ (text : List ℕ) where
  -- a word that is no string is left to other parts
  pub no_byte_misfit_of_word : IsOtherWord text → (fault : TextFault) → ¬ (IsStringMisfit text fault ⊎ IsLengthFault text fault)
  no_byte_misfit_of_word other fault (inl misfit) = no_misfit_of_word text other fault misfit
  no_byte_misfit_of_word other fault (inr long) = no_string_of_word text other long.string long.rest long.read

  pub one_byte : (a b : ℕ) (rest more : List ℕ) → IsByte text a rest → IsByte text b more → (a ≡ b) × (rest ≡ more)
  one_byte a b rest more is too =
      let same = one_string text (a ∷ []) (b ∷ []) rest more is too in
      let strings = same.0 in
      (cc, same.1)

  -- a byte has no fault of a string, and isn't of another length
  pub byte_faultless : (byte : ℕ) (rest : List ℕ) (fault : TextFault) → IsByte text byte rest → ¬ (IsStringMisfit text fault ⊎ IsLengthFault text fault)
  byte_faultless byte rest fault read (inl misfit) = no_fault text (byte ∷ []) rest fault.kind read misfit.2
  byte_faultless byte rest fault read (inr long) = long.other (ap length (sym (one_string text (byte ∷ []) long.string rest long.rest read long.read).0))

  string_or_long : (a b : TextFault) → IsStringMisfit text a → ¬ IsLengthFault text b
  string_or_long a b misfit long = no_fault text long.string long.rest a.kind long.read misfit.2

  pub one_byte_misfit : (a b : TextFault) → IsStringMisfit text a ⊎ IsLengthFault text a → IsStringMisfit text b ⊎ IsLengthFault text b → a ≡ b
  one_byte_misfit a b (inl is) (inl too) = one_string_misfit text a b is too
  one_byte_misfit a b (inl is) (inr too) = absurd (string_or_long a b is too)
  one_byte_misfit a b (inr is) (inl too) = absurd (string_or_long b a too is)
  one_byte_misfit a b (inr is) (inr too) = is.fault_is ∙ sym too.fault_is
