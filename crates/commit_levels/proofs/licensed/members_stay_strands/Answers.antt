-- The laws are their lemmas.
use Rattle.commit_levels.proofs.Agreement.{asks_as, reaches_as, ends_as}
use Rattle.commit_levels.proofs.licensed.members_stay_strands.Goals as goal

pub returns-clause-asks : goal.returns-clause-asks
returns-clause-asks c = asks_as

pub returns-clause-reaches : goal.returns-clause-reaches
returns-clause-reaches c = reaches_as

pub returns-clause-ends : goal.returns-clause-ends
returns-clause-ends c = ends_as
