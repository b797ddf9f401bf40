-- What a core is after workers ran it, however many.
use Rattle.std.specs.Prelude.{◌≡◌, true, false, [], ◌⊎◌}
use Rattle.core_machine.specs.Machine.{Machine}
use Rattle.core_machine.specs.Answered.{IsLonger}

-- it has its net and its budget, its journal goes on from the old one, no strand is out, and it isn't broken
pub record HasAdvanced (m n : Machine) : Type 0 where
  pub net : n.net ≡ m.net
  pub budget : n.budget ≡ m.budget
  pub longer : IsLonger m.journal n.journal
  pub home : n.out ≡ []
  pub whole : n.is_broken ≡ false

-- it wanted memory on the way: it has its net and its budget, its journal goes on from the old one, and it is broken
pub record HasFallenShort (m n : Machine) : Type 0 where
  pub net : n.net ≡ m.net
  pub budget : n.budget ≡ m.budget
  pub longer : IsLonger m.journal n.journal
  pub broken : n.is_broken ≡ true

-- Inside

-- what many workers leave: the same, but that the core may have broken, and strands may be out then
pub record LeftByWorkers (m n : Machine) : Type 0 where
  pub net : n.net ≡ m.net
  pub budget : n.budget ≡ m.budget
  pub longer : IsLonger m.journal n.journal
  pub home : (n.out ≡ []) ⊎ (n.is_broken ≡ true)
