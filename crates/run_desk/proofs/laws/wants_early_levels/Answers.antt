use Rattle.run_desk.proofs.Early.{wants_early}
use Rattle.run_desk.proofs.laws.wants_early_levels.Goals as goal

pub returns : goal.returns
returns c = λ net st left own s level. wants_early net st left own s level
