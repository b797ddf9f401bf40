-- Names of files: words of at most 255 bytes.
use Rattle.std.specs.Prelude.{◌≡◌, ℕ, ◌<◌, ◌≤◌, List, length}
use Rattle.argument_parts.specs.declared.fault.FaultKind.TheVariants.{OutOfRange}
use Rattle.argument_parts.specs.declared.part.TextFault.{TextFault}
use Rattle.pipe_model.specs.Words.{IsFirstWord}

-- the first word of the text is the name
pub record IsName (text name rest : List ℕ) : Type 0 where
  pub first : IsFirstWord text name rest
  pub few : length name ≤ 255

-- the first word of the text is too long, which is a fault at its front
pub record IsNameMisfit (text : List ℕ) (fault : TextFault) : Type 0 where
  pub name : List ℕ
  pub rest : List ℕ
  pub first : IsFirstWord text name rest
  pub many : 255 < length name
  pub fault_is : fault ≡ record { left = length text; kind = OutOfRange }
