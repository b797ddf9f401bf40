use Rattle.call_meaning.proofs.Answering.{steady}
use Rattle.call_meaning.proofs.laws.no_fault_without_its_status.Goals as goal

pub returns : goal.returns
returns c = λ words old new diag diag' status answers. steady words old new diag diag' status answers
