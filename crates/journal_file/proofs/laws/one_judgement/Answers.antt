use Rattle.journal_file.proofs.OneJudgement.{one_judgement}
use Rattle.journal_file.proofs.laws.one_judgement.Goals as goal

pub returns : goal.returns
returns c = one_judgement
