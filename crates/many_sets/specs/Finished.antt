-- How a core ended that the caller's thread ran. It serves the inside.
use Rattle.std.specs.Prelude.{◌≡◌, false}
use Rattle.core_machine.specs.Machine.{Machine, IsLawful}
use Rattle.core_machine.specs.Answered.{HasRun, Ends}
use Rattle.core_machine.specs.declared.job.RunEnd.{RunEnd}

-- it wasn't broken, and went on by the least steps to its end
pub record IsFinished (m n : Machine) (end : RunEnd) : Type 0 where
  pub whole : m.is_broken ≡ false
  pub run : HasRun m n
  pub ends : Ends end n
  pub lawful : IsLawful n
