use Rattle.std.proofs.Common.{refl, arith}
use Rattle.unique_sort.proofs.CountSteps.{sees_counted}
use Rattle.unique_sort.proofs.count.CountsLists.see.Goals as goal

pub returns-clause-sees : goal.returns-clause-sees
returns-clause-sees c =
    let x = c.args.self.now in
    sees_counted x (record x { tallies = c.add.new.tallies }) c.args.bytes.now (omega arith) c.add.ensures refl refl
