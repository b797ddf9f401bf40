-- A call that reads and replaces nothing; it serves laws.
use Rattle.std.specs.Prelude.{◌≡◌, []}
use Rattle.std.specs.Io.KnownBytes.{Consumes}
use Rattle.call_meaning.specs.Devices.{Outside, Steady}
use Rattle.call_meaning.specs.Effects.{AreReplaced}

-- nothing was read and no file replaced, and no call of the input and of the shelf failed
pub record IsUntouched (old new : Outside) : Type 0 where
  pub input : Consumes old.input.bytes new.input.bytes []
  pub steady : Steady old.input new.input
  pub files : AreReplaced [] old.shelf.files new.shelf.files
  pub shelf : new.shelf.faults ≡ old.shelf.faults
