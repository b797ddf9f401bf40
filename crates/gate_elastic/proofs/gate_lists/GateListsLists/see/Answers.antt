use Rattle.std.proofs.Common.{sym, subst, IfOk}
use Rattle.stage_steps.specs.Lists.{Sees}
use Rattle.gate_elastic.specs.declared.gate_lists.GateLists.TheVariants.{Copy, Buffer}
use Rattle.gate_elastic.specs.GateLists.{GateListsStand, gate_lists_look}
use Rattle.gate_elastic.proofs.gate_lists.GateListsLists.see.Goals as goal

pub returns-in-Copy-clause-sees : goal.returns-in-Copy-clause-sees
returns-in-Copy-clause-sees c = subst (λ x. IfOk c.see.result (λ _. Sees GateListsStand (gate_lists_look x) x (Copy c.see.new.self) c.args.bytes.now)) (sym c.in-Copy.is) c.see.ensures.sees

pub returns-in-Buffer-clause-sees : goal.returns-in-Buffer-clause-sees
returns-in-Buffer-clause-sees c = subst (λ x. IfOk c.see-in-Buffer.result (λ _. Sees GateListsStand (gate_lists_look x) x (Buffer c.see-in-Buffer.new.self) c.args.bytes.now)) (sym c.in-Buffer.is) c.see-in-Buffer.ensures.sees
