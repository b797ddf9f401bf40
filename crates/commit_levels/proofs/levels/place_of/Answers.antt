-- A level's place is among the levels.
use Rattle.std.proofs.Common.{arith}
use Rattle.std.proofs.lemmas.Grind.{common_steps}
use Rattle.commit_levels.specs.UnitState.{level_count}
use Rattle.commit_levels.proofs.levels.place_of.Goals as goal

pub returns-clause-within : goal.returns-clause-within
unfolding level_count
returns-clause-within c = grind (arith, common_steps)
