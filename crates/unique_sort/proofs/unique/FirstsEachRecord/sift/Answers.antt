use Rattle.std.proofs.Common.{refl, None}
use Rattle.unique_sort.proofs.UniqueSteps.{sifts_first}
use Rattle.unique_sort.proofs.unique.FirstsEachRecord.sift.Goals as goal

pub returns-clause-sifts : goal.returns-clause-sifts
returns-clause-sifts c =
    let x = c.args.self.now in
    let y = record x { run = c.add.new.self; waiting = None } in
    let goes_on = c.in_ok-goes_on in
    sifts_first x y c.args.bytes.now goes_on.goes_on c.first_output.result (record { range = goes_on.ensures.range; added = goes_on.ensures.added }) c.first_output.ensures refl
