-- What was written of a text; it serves the inside.
use Rattle.std.specs.Prelude.{◌≡◌, ℕ, List}
use Rattle.std.specs.Io.KnownBytes.{Appends}
use Rattle.outside.specs.Device.{Device}
use Rattle.call_meaning.specs.declared.status.Outcome.{Outcome}
use Rattle.call_meaning.specs.declared.status.Outcome.TheVariants.{WriteFault}
use Rattle.call_meaning.specs.Devices.{Failed, Steady}
use Rattle.call_meaning.specs.Answer.{IsCutShort}

-- the bytes were written
pub record IsWritten (bytes : List ℕ) (output output' : Device) : Type 0 where
  pub gained : Appends output.bytes output'.bytes bytes
  pub steady : Steady output output'

-- a fault ended the writing of the bytes
pub record IsPartWritten (bytes : List ℕ) (output output' : Device) (outcome : Outcome) : Type 0 where
  pub fault : outcome ≡ WriteFault
  pub wrote : List ℕ
  pub cut : IsCutShort wrote bytes
  pub gained : Appends output.bytes output'.bytes wrote
  pub failed : Failed output output'

-- a text was given to the output, and then this is told; or it couldn't be written whole
pub data HasGiven (text : List ℕ) (outcome : Outcome) (output output' : Device) (decided : Outcome) : Type 0 where
  gave : IsWritten text output output' → decided ≡ outcome → HasGiven text outcome output output' decided
  gave_part : IsPartWritten text output output' decided → HasGiven text outcome output output' decided
