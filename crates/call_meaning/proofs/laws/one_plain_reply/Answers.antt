use Rattle.confluence_laws.proofs.Plains.{one_reading}
use Rattle.call_meaning.proofs.SameReplies.{same_reply}
use Rattle.call_meaning.proofs.laws.one_plain_reply.Goals as goal

pub returns : goal.returns
returns c = λ net formed plain a b first second. same_reply net a b (one_reading net formed plain a b first second)
