use Rattle.std.proofs.Common.{sym, subst, IfOk}
use Rattle.stage_steps.specs.Lists.{Finishes}
use Rattle.gate_elastic.specs.declared.gate_lists.GateLists.TheVariants.{Copy, Buffer}
use Rattle.gate_elastic.specs.GateLists.{GateListsStand}
use Rattle.gate_elastic.proofs.gate_lists.GateListsLists.end.Goals as goal

pub returns-in-Copy-clause-finishes : goal.returns-in-Copy-clause-finishes
returns-in-Copy-clause-finishes c = subst (λ x. IfOk c.end.result (λ _. Finishes GateListsStand x (Copy c.end.new.self))) (sym c.in-Copy.is) c.end.ensures.finishes

pub returns-in-Buffer-clause-finishes : goal.returns-in-Buffer-clause-finishes
returns-in-Buffer-clause-finishes c = subst (λ x. IfOk c.end-in-Buffer.result (λ _. Finishes GateListsStand x (Buffer c.end-in-Buffer.new.self))) (sym c.in-Buffer.is) c.end-in-Buffer.ensures.finishes
