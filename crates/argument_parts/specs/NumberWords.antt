-- A number within stated limits, as the first word of a text.
use Rattle.std.specs.Prelude.{◌≡◌, ℕ, ◌≤◌, List, length}
use Rattle.argument_parts.specs.declared.fault.FaultKind.TheVariants.{OutOfRange}
use Rattle.argument_parts.specs.declared.part.TextFault.{TextFault}
use Rattle.argument_parts.specs.Numbers.{IsNumber}
use Rattle.pipe_model.specs.Words.{IsFirstWord}

-- the first word of the text is a number of this value, which isn't outside the limits, and the rest
pub record IsNumberIn (text : List ℕ) (least most value : ℕ) (rest : List ℕ) : Type 0 where
  pub word : List ℕ
  pub first : IsFirstWord text word rest
  pub counts : IsNumber word value
  pub enough : least ≤ value
  pub few : value ≤ most

-- the first word of the text is a number outside the limits, which is a fault at its front
pub record IsNumberMisfit (text : List ℕ) (least most : ℕ) (fault : TextFault) : Type 0 where
  pub word : List ℕ
  pub rest : List ℕ
  pub value : ℕ
  pub first : IsFirstWord text word rest
  pub counts : IsNumber word value
  pub outside : ¬ ((least ≤ value) × (value ≤ most))
  pub fault_is : fault ≡ record { left = length text; kind = OutOfRange }

-- the first word of the text is no number
abbrev pub IsNoNumber : List ℕ → Type 0
IsNoNumber text = (word rest : List ℕ) (value : ℕ) → IsFirstWord text word rest → ¬ IsNumber word value
