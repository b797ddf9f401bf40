use Rattle.call_meaning.proofs.Meanings.{one_of_each}
use Rattle.call_meaning.proofs.meaning.one_meaning.Goals as goal

pub returns : goal.returns
returns c = λ words before settled a b x y. one_of_each words before a b x y settled
