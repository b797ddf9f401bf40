use Rattle.std.proofs.Common.{◌≡◌, true, sym, subst}
use Rattle.stage_steps.specs.Lists.{IsSpent}
use Rattle.gate_elastic.specs.GateLists.{GateListsStand}
use Rattle.gate_elastic.proofs.gate_lists.GateListsLists.is_spent.Goals as goal

pub returns-in-Buffer : goal.returns-in-Buffer
returns-in-Buffer c = subst (λ x. c.is_spent.result ≡ true → IsSpent GateListsStand x) (sym c.in-Buffer.is) c.is_spent.ensures
