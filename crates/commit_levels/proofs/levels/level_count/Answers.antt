-- The count of levels.
use Rattle.std.proofs.Common.{refl}
use Rattle.commit_levels.specs.UnitState.{level_count}
use Rattle.commit_levels.proofs.levels.level_count.Goals as goal

pub returns : goal.returns
unfolding level_count
returns c = refl
