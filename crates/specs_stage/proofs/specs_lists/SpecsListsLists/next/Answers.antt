use Rattle.std.proofs.Common.{arith}
use Rattle.specs_stage.proofs.Giving.{gives_one}
use Rattle.specs_stage.proofs.specs_lists.SpecsListsLists.next.Goals as goal

pub returns-then-self-len-clause-gives : goal.returns-then-self-len-clause-gives
returns-then-self-len-clause-gives c = gives_one c.args.self.now (omega (arith, c.if-self-len.true, c.len.ensures))
