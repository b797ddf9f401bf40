-- The law is its lemma.
use Rattle.commit_levels.proofs.Agreement.{answers_as}
use Rattle.commit_levels.proofs.licensed.answers_as_licensed.Goals as goal

pub returns : goal.returns
returns c = answers_as
