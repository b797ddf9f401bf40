-- The members so far have asked for nothing.
use Rattle.std.proofs.Common.{◌≡◌}
use Rattle.commit_levels.specs.UnitState.{new_unit}
use Rattle.commit_levels.proofs.unit.Unit.new.Given as goal

abbrev pub invariant-loop : goal.invariant-loop
invariant-loop l = l.list.items ≡ new_unit l.counter
