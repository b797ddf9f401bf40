use Rattle.journal_file.proofs.OneFronts.{journal_faultless}
use Rattle.journal_file.proofs.laws.no_fault_of_a_journal.Goals as goal

pub returns : goal.returns
returns c = journal_faultless
