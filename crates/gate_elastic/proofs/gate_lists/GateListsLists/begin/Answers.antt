use Rattle.std.proofs.Common.{sym, subst}
use Rattle.stage_steps.specs.Lists.{Begins}
use Rattle.gate_elastic.specs.declared.gate_lists.GateLists.TheVariants.{Copy, Buffer}
use Rattle.gate_elastic.specs.GateLists.{GateListsStand}
use Rattle.gate_elastic.proofs.gate_lists.GateListsLists.begin.Goals as goal

pub returns-in-Copy-clause-begins : goal.returns-in-Copy-clause-begins
returns-in-Copy-clause-begins c = subst (λ x. Begins GateListsStand x (Copy c.begin.new.self)) (sym c.in-Copy.is) c.begin.ensures.begins

pub returns-in-Buffer-clause-begins : goal.returns-in-Buffer-clause-begins
returns-in-Buffer-clause-begins c = subst (λ x. Begins GateListsStand x (Buffer c.begin-in-Buffer.new.self)) (sym c.in-Buffer.is) c.begin-in-Buffer.ensures.begins
