use Rattle.std.proofs.Common.{sym, subst, IfOk}
use Rattle.stage_steps.specs.Lists.{HandsOver}
use Rattle.gate_elastic.specs.declared.gate_lists.GateLists.TheVariants.{Buffer}
use Rattle.gate_elastic.specs.GateLists.{GateListsStand, gate_given}
use Rattle.gate_elastic.proofs.gate_lists.GateListsLists.hand_over.Goals as goal

pub returns-in-Buffer-clause-hands : goal.returns-in-Buffer-clause-hands
returns-in-Buffer-clause-hands c = subst (λ x. IfOk c.hand_over-in-Buffer.result (λ rec. HandsOver GateListsStand gate_given x rec (Buffer c.hand_over-in-Buffer.new.self))) (sym c.in-Buffer.is) c.hand_over-in-Buffer.ensures.hands
