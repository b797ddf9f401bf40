use Rattle.std.proofs.Common.{ap, Some}
use Rattle.unique_sort.proofs.UniqueSteps.{sees_first}
use Rattle.unique_sort.proofs.unique.FirstsEachRecord.see.Goals as goal

pub returns-clause-sees : goal.returns-clause-sees
returns-clause-sees c =
    let x = c.args.self.now in
    let y = record x { run = c.add.new.self; waiting = Some c.first_output.result } in
    let goes_on = c.in_ok-goes_on in
    sees_first x y c.args.bytes.now goes_on.goes_on (record { range = goes_on.ensures.range; added = goes_on.ensures.added }) (ap Some c.first_output.ensures)
