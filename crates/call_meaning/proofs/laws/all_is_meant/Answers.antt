use Rattle.call_meaning.proofs.Answering.{all_meant, some_memory, told_whole}
use Rattle.call_meaning.proofs.laws.all_is_meant.Goals as goal

pub returns : goal.returns
returns c = λ words old new diag diag' status answers free.
    all_meant words old new answers.decided answers.decides free.none
    (some_memory words old new diag diag' status answers.decided (told_whole words old new diag diag' status answers.decided free.told answers.reports) free.memory)
