-- What comes next in a text is one part and the rest, or one fault.
use Rattle.std.proofs.Common.{◌≡◌, ℕ, ◌<◌, List, [], ◌∷◌, length, sym, ap, ◌∙◌, arith, subst, inl, inr}
use Rattle.argument_parts.proofs.ByteParts.{byte_faultless, one_byte, one_byte_misfit}
use Rattle.argument_parts.proofs.NumberParts.{name_faultless, number_faultless, one_keyword, one_name, one_number, one_times, times_faultless}
use Rattle.pipe_model.proofs.Blanks.{one_front}
use Rattle.argument_parts.proofs.OneRanges.{no_range_misfit, one_range, one_range_misfit}
use Rattle.argument_parts.proofs.OneStrings.{one_string}
use Rattle.argument_parts.proofs.Outcomes.{no_fault}
use Rattle.argument_parts.proofs.SpotParts.{one_spot, one_spot_misfit, spot_faultless}
use Rattle.argument_parts.proofs.StringPairs.{one_pair, one_pair_misfit, pair_faultless}
use Rattle.argument_parts.proofs.StringParts.{any_string_faultless, one_any_misfit, one_any_string, one_string_misfit}
use Rattle.argument_parts.proofs.WholeParts.{one_counter, one_whole, whole_faultless}
use Rattle.argument_parts.specs.Parts.{BeginsNone, IsAtEnd, IsFirstMisfit, IsFirstPart, IsMisfitOf, IsNext, IsNoNext, IsNone, IsNot, IsPart, IsPartMisfit}
use Rattle.pipe_model.specs.Words.{IsUnblanked}
use Rattle.argument_parts.specs.declared.part.Part.{Part}
use Rattle.argument_parts.specs.declared.part.Part.TheVariants as Asked
use Rattle.argument_parts.specs.declared.part.TextFault.{TextFault}
use Rattle.argument_parts.specs.declared.part.Value.{Value}
use Rattle.argument_parts.specs.declared.part.Value.TheVariants as Read

module _ (text : List ℕ) where
  -- a text is a part in one way
  pub same_part : (part : Part) (value other : Value) (rest more : List ℕ) → IsPart part text value rest → IsPart part text other more → (value ≡ other) × (rest ≡ more)
  same_part Asked.Range value other rest more is too = let same = one_range text is.0 too.0 rest more is.2 too.2 in (is.1 ∙ ap Read.Range same.0 ∙ sym too.1, same.1)
  same_part Asked.Columns value other rest more is too = let same = one_range text is.0 too.0 rest more (inl is.2) (inl too.2) in (is.1 ∙ ap Read.Range same.0 ∙ sym too.1, same.1)
  same_part Asked.String value other rest more is too = let same = one_string text is.0 too.0 rest more is.2 too.2 in (is.1 ∙ ap Read.String same.0 ∙ sym too.1, same.1)
  same_part Asked.AnyString value other rest more is too = let same = one_any_string text is.0 too.0 rest more is.2 too.2 in (is.1 ∙ ap Read.String same.0 ∙ sym too.1, same.1)
  same_part Asked.Strings value other rest more is too =
      let same = one_pair text is.0 is.1 rest too.0 too.1 more is.3 too.3 in
      (is.2 ∙ ap (λ first. Read.Strings first is.1) same.0 ∙ ap (λ second. Read.Strings too.0 second) same.1 ∙ sym too.2, same.2)
  same_part Asked.Byte value other rest more is too = let same = one_byte text is.0 too.0 rest more is.2 too.2 in (is.1 ∙ ap Read.Byte same.0 ∙ sym too.1, same.1)
  same_part (Asked.Number least most) value other rest more is too = let same = one_number text least most is.0 too.0 rest more is.2 too.2 in (is.1 ∙ ap Read.Number same.0 ∙ sym too.1, same.1)
  same_part Asked.Times value other rest more is too = let same = one_times text is.0 too.0 rest more is.2 too.2 in (is.1 ∙ ap Read.Times same.0 ∙ sym too.1, same.1)
  same_part (Asked.Word key) value other rest more is too = (is.0 ∙ sym too.0, one_keyword text key rest more is.1 too.1)
  same_part Asked.Name value other rest more is too = let same = one_name text is.0 too.0 rest more is.2 too.2 in (is.1 ∙ ap Read.String same.0 ∙ sym too.1, same.1)
  same_part Asked.Counter value other rest more is too = let same = one_counter text is.0 too.0 rest more is.2 too.2 in (is.1 ∙ ap Read.Counter same.0 ∙ sym too.1, same.1)
  same_part Asked.Whole value other rest more is too = let same = one_whole text is.0 too.0 rest more is.2 too.2 in (is.1 ∙ ap Read.Whole same.0 ∙ sym too.1, same.1)
  same_part Asked.Spot value other rest more is too = let same = one_spot text is.0 too.0 rest more is.2 too.2 in (is.1 ∙ ap Read.Spot same.0 ∙ sym too.1, same.1)

  -- and then has no fault of it
  pub not_both : (part : Part) (value : Value) (rest : List ℕ) (fault : TextFault) → IsPart part text value rest → ¬ IsPartMisfit part text fault
  not_both Asked.Range value rest fault is misfit = no_range_misfit text is.0 rest fault is.2 misfit
  not_both Asked.Columns value rest fault is misfit = no_range_misfit text is.0 rest fault (inl is.2) (inl misfit)
  not_both Asked.String value rest fault is misfit = no_fault text is.0 rest fault.kind is.2 misfit.2
  not_both Asked.AnyString value rest fault is misfit = any_string_faultless text is.0 rest fault is.2 misfit
  not_both Asked.Strings value rest fault is misfit = pair_faultless text is.0 is.1 rest fault is.3 misfit
  not_both Asked.Byte value rest fault is misfit = byte_faultless text is.0 rest fault is.2 misfit
  not_both (Asked.Number least most) value rest fault is misfit = number_faultless text least most is.0 rest fault is.2 misfit
  not_both Asked.Times value rest fault is misfit = times_faultless text is.0 rest fault is.2 misfit
  not_both (Asked.Word key) value rest fault is misfit = misfit
  not_both Asked.Name value rest fault is misfit = name_faultless text is.0 rest fault is.2 misfit
  not_both Asked.Counter value rest fault is misfit = misfit
  not_both Asked.Whole value rest fault is misfit = whole_faultless text is.0 rest fault is.2 misfit
  not_both Asked.Spot value rest fault is misfit = spot_faultless text is.0 rest fault is.2 misfit

  -- or has one fault of it
  pub same_misfit : (part : Part) (a b : TextFault) → IsPartMisfit part text a → IsPartMisfit part text b → a ≡ b
  same_misfit Asked.Range a b is too = one_range_misfit text a b is too
  same_misfit Asked.Columns a b is too = one_range_misfit text a b (inl is) (inl too)
  same_misfit Asked.String a b is too = one_string_misfit text a b is too
  same_misfit Asked.AnyString a b is too = one_any_misfit text a b is too
  same_misfit Asked.Strings a b is too = one_pair_misfit text a b is too
  same_misfit Asked.Byte a b is too = one_byte_misfit text a b is too
  same_misfit (Asked.Number least most) a b is too = is.fault_is ∙ sym too.fault_is
  same_misfit Asked.Times a b is too = is.fault_is ∙ sym too.fault_is
  same_misfit (Asked.Word key) a b is too = absurd is
  same_misfit Asked.Name a b is too = is.fault_is ∙ sym too.fault_is
  same_misfit Asked.Counter a b is too = absurd is
  same_misfit Asked.Whole a b is too = is.fault_is ∙ sym too.fault_is
  same_misfit Asked.Spot a b is too = one_spot_misfit text a b is too

  -- what begins as a part and isn't one isn't one
  pub misfit_is_not : (part : Part) (fault : TextFault) → IsPartMisfit part text fault → IsNot part text
  misfit_is_not part fault misfit value rest is = not_both part value rest fault is misfit

  -- the first part that a text is, is one
  one_first : (parts : List Part) (value other : Value) (rest more : List ℕ) → IsFirstPart parts text value rest → IsFirstPart parts text other more → (value ≡ other) × (rest ≡ more)
  one_first [] value other rest more is too = absurd is
  one_first (part ∷ parts) value other rest more (inl is) (inl too) = same_part part value other rest more is too
  one_first (part ∷ parts) value other rest more (inl is) (inr too) = absurd (too.0 value rest is)
  one_first (part ∷ parts) value other rest more (inr is) (inl too) = absurd (is.0 other more too)
  one_first (part ∷ parts) value other rest more (inr is) (inr too) = one_first parts value other rest more is.1 too.1

  first_or_none : (parts : List Part) (value : Value) (rest : List ℕ) → IsFirstPart parts text value rest → ¬ IsNone parts text
  first_or_none [] value rest is none = is
  first_or_none (part ∷ parts) value rest (inl is) none = none.0 value rest is
  first_or_none (part ∷ parts) value rest (inr is) none = first_or_none parts value rest is.1 none.1

  -- the fault of the first part that a text begins as is one
  one_first_misfit : (parts : List Part) (a b : TextFault) → IsFirstMisfit parts text a → IsFirstMisfit parts text b → a ≡ b
  one_first_misfit [] a b is too = absurd is
  one_first_misfit (part ∷ parts) a b (inl is) (inl too) = same_misfit part a b is too
  one_first_misfit (part ∷ parts) a b (inl is) (inr too) = absurd (too.0 a is)
  one_first_misfit (part ∷ parts) a b (inr is) (inl too) = absurd (is.0 b too)
  one_first_misfit (part ∷ parts) a b (inr is) (inr too) = one_first_misfit parts a b is.1 too.1

  begins_or_none : (parts : List Part) (fault : TextFault) → IsFirstMisfit parts text fault → ¬ BeginsNone parts text
  begins_or_none [] fault is none = is
  begins_or_none (part ∷ parts) fault (inl is) none = none.0 fault is
  begins_or_none (part ∷ parts) fault (inr is) none = begins_or_none parts fault is.1 none.1

  one_misfit : (parts : List Part) (a b : TextFault) → IsMisfitOf parts text a → IsMisfitOf parts text b → a ≡ b
  one_misfit parts a b (none, inl is) (also, inl too) = one_first_misfit parts a b is too
  one_misfit parts a b (none, inl is) (also, inr too) = absurd (begins_or_none parts a is too.0)
  one_misfit parts a b (none, inr is) (also, inl too) = absurd (begins_or_none parts b too is.0)
  one_misfit parts a b (none, inr is) (also, inr too) = is.1 ∙ sym too.1

-- nothing comes after the end
pub not_at_end : (text front : List ℕ) → IsAtEnd text → IsUnblanked text front → ¬ (0 < length front)
not_at_end text front ended unblanked some = omega (arith, some, ap length (one_front text front [] unblanked ended))

module _ (parts : List Part) (text : List ℕ) where
  pub one_next : (value other : Value) (rest more : List ℕ) (is : IsNext parts text value rest) (too : IsNext parts text other more) → (value ≡ other) × (rest ≡ more) × (is.front ≡ too.front)
  one_next value other rest more is too =
      let same = one_front text is.front too.front is.unblanked too.unblanked in
      let first = one_first is.front parts value other rest more is.part (subst (λ front. IsFirstPart parts front other more) (sym same) too.part) in
      (first.0, first.1, same)

  pub next_or_none : (value : Value) (rest : List ℕ) (fault : TextFault) → IsNext parts text value rest → ¬ IsNoNext parts text fault
  next_or_none value rest fault is none =
      let same = one_front text is.front none.front is.unblanked none.unblanked in
      first_or_none none.front parts value rest (subst (λ front. IsFirstPart parts front value rest) same is.part) none.misfit.0

  pub one_no_next : (a b : TextFault) → IsNoNext parts text a → IsNoNext parts text b → a ≡ b
  one_no_next a b is too =
      let same = one_front text is.front too.front is.unblanked too.unblanked in
      one_misfit is.front parts a b is.misfit (subst (λ front. IsMisfitOf parts front b) (sym same) too.misfit)
