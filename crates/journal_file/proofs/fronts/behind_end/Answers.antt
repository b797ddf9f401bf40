use Rattle.std.proofs.Common.{arith}
use Rattle.journal_file.proofs.Lines.{other_end}
use Rattle.journal_file.proofs.fronts.behind_end.Goals as goal

pub returns-else-told-count : goal.returns-else-told-count
returns-else-told-count c =
    other_end c.args.text.now c.in_ok-number.number.now c.in_ok-told.rest.now c.in_ok-told.told c.args.count c.in_ok-number.ensures c.in_ok-told.ensures.found.1 (omega (arith, c.in_ok-told.ensures.found.0)) (omega arith) c.if-told-count.false
