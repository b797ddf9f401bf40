use Rattle.journal_file.proofs.OneFronts.{journals_same}
use Rattle.journal_file.proofs.laws.one_journal.Goals as goal

pub returns : goal.returns
returns c = journals_same
