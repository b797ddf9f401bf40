-- Bytes: strings of length 1.
use Rattle.std.specs.Prelude.{◌≡◌, ◌≢◌, ℕ, List, [], ◌∷◌, length, ◌⊎◌}
use Rattle.argument_parts.specs.declared.fault.FaultKind.TheVariants.{OutOfRange}
use Rattle.argument_parts.specs.declared.part.TextFault.{TextFault}
use Rattle.argument_parts.specs.Strings.{IsString, IsStringFault}

-- the text is a string of this one byte and the rest
abbrev pub IsByte : List ℕ → ℕ → List ℕ → Type 0
IsByte text byte rest = IsString text (byte ∷ []) rest

-- the text is a string of another length and a rest, which is a fault at its front
pub record IsLengthFault (text : List ℕ) (fault : TextFault) : Type 0 where
  pub string : List ℕ
  pub rest : List ℕ
  pub read : IsString text string rest
  pub other : length string ≢ 1
  pub fault_is : fault ≡ record { left = length text; kind = OutOfRange }

-- a text whose first byte is no blank isn't a byte and a rest, and this is the fault, at its front
abbrev pub IsByteFault : List ℕ → TextFault → Type 0
IsByteFault text fault = IsStringFault text fault ⊎ IsLengthFault text fault
