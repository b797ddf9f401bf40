-- What the objects of a call show, before it and after it.
use Rattle.std.specs.Prelude.{◌≡◌, ℕ, List}
use Rattle.std.specs.Io.KnownBytes.{Appends, IsAtEnd}
use Rattle.std.specs.declared.option.Option.{Option}
use Rattle.outside.specs.Faults.{Rose}
use Rattle.outside.specs.Files.{Files}
use Rattle.outside.specs.Device.{Device}
use Rattle.call_meaning.specs.Effects.{Effect, AreReplaced, ArePartReplaced, replaced_by}

-- no call failed
abbrev pub Steady : Device → Device → Type 0
Steady old new = new.faults ≡ old.faults

-- a call failed
abbrev pub Failed : Device → Device → Type 0
Failed old new = Rose old.faults new.faults

-- a source that tells its bytes has none left
abbrev pub IsRead : Device → Type 0
IsRead source = IsAtEnd source.bytes

-- a shelf: the files, where they are told, the count of its faults, and how many replacements wanted memory
pub record Store : Type 0 where
  pub files : Option Files
  pub faults : ℕ
  pub wants : ℕ

abbrev pub store : Option Files → ℕ → ℕ → Store
store files faults wants = record { files = files; faults = faults; wants = wants }

-- what a run reads and writes: all objects of a call but standard error
pub record Outside : Type 0 where
  pub input : Device
  pub output : Device
  pub shelf : Store

abbrev pub outside : Device → Device → Store → Outside
outside input output shelf = record { input = input; output = output; shelf = shelf }

-- no count of faults changed
pub record AllSteady (old new : Outside) : Type 0 where
  pub input : Steady old.input new.input
  pub output : Steady old.output new.output
  pub shelf : new.shelf.faults ≡ old.shelf.faults

-- no call failed
pub record NoneFailed (old new : Outside) : Type 0 where
  pub input : ¬ Failed old.input new.input
  pub output : ¬ Failed old.output new.output
  pub shelf : ¬ Rose old.shelf.faults new.shelf.faults

-- the output of the effect was written, and of its files those before the one of this name were replaced, and nothing else was written
pub record IsPartDone (name : List ℕ) (effect : Effect) (old new : Outside) : Type 0 where
  pub output : Appends old.output.bytes new.output.bytes effect.output
  pub files : ArePartReplaced name (replaced_by effect) old.shelf.files new.shelf.files

-- the effect was carried out, and nothing else was written
pub record IsDone (effect : Effect) (old new : Outside) : Type 0 where
  pub output : Appends old.output.bytes new.output.bytes effect.output
  pub files : AreReplaced (replaced_by effect) old.shelf.files new.shelf.files
