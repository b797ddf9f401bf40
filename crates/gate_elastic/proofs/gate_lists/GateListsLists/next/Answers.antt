use Rattle.std.proofs.Common.{sym, subst, IfOk}
use Rattle.stage_steps.specs.Lists.{GivesNext}
use Rattle.gate_elastic.specs.declared.gate_lists.GateLists.TheVariants.{Copy, Buffer}
use Rattle.gate_elastic.specs.GateLists.{GateListsStand, gate_given}
use Rattle.gate_elastic.proofs.gate_lists.GateListsLists.next.Goals as goal

pub returns-in-Copy-clause-gives : goal.returns-in-Copy-clause-gives
returns-in-Copy-clause-gives c = subst (λ x. IfOk c.next.result (λ given. GivesNext GateListsStand gate_given x (Copy c.next.new.self) given)) (sym c.in-Copy.is) c.next.ensures.gives

pub returns-in-Buffer-clause-gives : goal.returns-in-Buffer-clause-gives
returns-in-Buffer-clause-gives c = subst (λ x. IfOk c.next-in-Buffer.result (λ given. GivesNext GateListsStand gate_given x (Buffer c.next-in-Buffer.new.self) given)) (sym c.in-Buffer.is) c.next-in-Buffer.ensures.gives
