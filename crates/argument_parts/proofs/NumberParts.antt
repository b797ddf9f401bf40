-- Numbers within limits, counts, names and keywords are read in one way, or have one fault.
use Rattle.std.proofs.Common.{◌≡◌, ℕ, ◌≤◌, List, [], ◌∷◌, length, refl, ap, subst, arith}
use Rattle.pipe_model.specs.declared.kind.Times.{Times}
use Rattle.pipe_model.specs.declared.kind.Times.TheVariants.{Only, All}
use Rattle.pipe_model.proofs.FirstWords.{same_rest, same_word}
use Rattle.argument_parts.proofs.OneSpellings.{one_value}
use Rattle.argument_parts.specs.Keywords.{IsKeyword}
use Rattle.argument_parts.specs.NamesOfFiles.{IsName, IsNameMisfit}
use Rattle.argument_parts.specs.NumberWords.{IsNumberIn, IsNumberMisfit}
use Rattle.argument_parts.specs.Numbers.{IsNumber}
use Rattle.argument_parts.specs.Parts.{AreTimes, most_times}
use Rattle.argument_parts.specs.declared.part.TextFault.{TextFault}
use Rattle.argument_parts.specs.declared.part.Word.{Word}

module _ (text : List ℕ) where
  module _ (least most : ℕ) where
    pub one_number : (a b : ℕ) (rest more : List ℕ) → IsNumberIn text least most a rest → IsNumberIn text least most b more → (a ≡ b) × (rest ≡ more)
    one_number a b rest more is too =
        let words = same_word text is.word rest too.word more is.first too.first in
        (one_value is.word too.word a b words is.counts too.counts, same_rest text is.word rest too.word more is.first too.first)

    -- a number within the limits isn't outside them
    pub number_faultless : (value : ℕ) (rest : List ℕ) (fault : TextFault) → IsNumberIn text least most value rest → ¬ IsNumberMisfit text least most fault
    number_faultless value rest fault is misfit =
        let words = same_word text is.word rest misfit.word misfit.rest is.first misfit.first in
        let numbers = one_value is.word misfit.word value misfit.value words is.counts misfit.counts in
        misfit.outside (subst (λ number. (least ≤ number) × (number ≤ most)) numbers (is.enough, is.few))

  -- `*` is no number
  star_is_none : (value : ℕ) → ¬ IsNumber (42 ∷ []) value
  star_is_none value counts = let digits = counts.digits in cc

  star_or_number : (value : ℕ) (rest more : List ℕ) → AreTimes text (Only value) rest → ¬ AreTimes text All more
  star_or_number value rest more is all = star_is_none value (subst (λ word. IsNumber word value) (same_word text is.word rest (42 ∷ []) more is.first all) is.counts)

  pub one_times : (a b : Times) (rest more : List ℕ) → AreTimes text a rest → AreTimes text b more → (a ≡ b) × (rest ≡ more)
  one_times (Only a) (Only b) rest more is too = let same = one_number 0 most_times a b rest more is too in (ap Only same.0, same.1)
  one_times (Only a) All rest more is too = absurd (star_or_number a rest more is too)
  one_times All (Only b) rest more is too = absurd (star_or_number b more rest too is)
  one_times All All rest more is too = (refl, same_rest text (42 ∷ []) rest (42 ∷ []) more is too)

  pub times_faultless : (times : Times) (rest : List ℕ) (fault : TextFault) → AreTimes text times rest → ¬ IsNumberMisfit text 0 most_times fault
  times_faultless (Only value) rest fault is misfit = number_faultless 0 most_times value rest fault is misfit
  times_faultless All rest fault is misfit = star_is_none misfit.value (subst (λ word. IsNumber word misfit.value) (same_word text misfit.word misfit.rest (42 ∷ []) rest misfit.first is) misfit.counts)

  pub one_name : (a b rest more : List ℕ) → IsName text a rest → IsName text b more → (a ≡ b) × (rest ≡ more)
  one_name a b rest more is too = (same_word text a rest b more is.first too.first, same_rest text a rest b more is.first too.first)

  pub name_faultless : (name rest : List ℕ) (fault : TextFault) → IsName text name rest → ¬ IsNameMisfit text fault
  name_faultless name rest fault is misfit =
      let few = is.few in
      let many = misfit.many in
      omega (arith, ap length (same_word text name rest misfit.name misfit.rest is.first misfit.first))

  pub one_keyword : (key : Word) (rest more : List ℕ) → IsKeyword text key rest → IsKeyword text key more → rest ≡ more
  one_keyword key rest more is too = same_rest text is.word rest too.word more is.first too.first
