use Rattle.std.proofs.Common.{None, subst}
use Rattle.spec_scanner.specs.Additions.{AddsRead}
use Rattle.spec_scanner.specs.Labels.{read_pipelines}
use Rattle.spec_scanner.specs.Stretches.{cut, is_end}
use Rattle.spec_scanner.proofs.Scans.{body_least}
use Rattle.spec_scanner.proofs.scanner.read_items.Goals as goal

pub returns-clause-fault : goal.returns-clause-fault
returns-clause-fault c = λ tail short.
    let labels = c.new.result in
    let after = c.read_pipelines.new.pipelines.items in
    let added = subst (λ before. AddsRead (record { labels = labels; fault = None }) c.read_pipelines.new.findings before after (read_pipelines labels (cut is_end c.args.items.now c.args.size)))
    c.new-pipelines.ensures.items c.in_ok-read_pipelines.ensures in
    body_least c.args.items.now tail c.args.size labels c.read_pipelines.new.findings after c.deref.result.now c.with_escaped-fault.result c.with_no_piece-fault.result
    c.new.ensures added c.deref.ensures.value (λ faults. c.with_escaped-fault.ensures tail faults short) c.with_no_piece-fault.ensures
