use Rattle.std.proofs.Common.{ap}
use Rattle.pipe_model.specs.Table.{line_of}
use Rattle.pipe_model.specs.Shape.{row_of}
use Rattle.stream_laws.proofs.Collates.{collate_puts, collate_parts}
use Rattle.stream_laws.proofs.by_kind.collate.Goals as goal

pub returns-clause-each_list : goal.returns-clause-each_list
returns-clause-each_list c = λ masters details kind g unlimited masters_sorted masters_distinct details_sorted h done.
    collate_parts c.args.strand.now g unlimited h done masters details
    (ap (λ kind. (row_of c.args.strand.now (line_of kind).shape).plan) kind)
    (ap (λ kind. (row_of c.args.strand.now (line_of kind).shape).early) kind) masters_sorted masters_distinct details_sorted

pub returns-clause-in_order : goal.returns-clause-in_order
returns-clause-in_order c = λ masters details kind g unlimited details_sorted h done.
    collate_puts c.args.strand.now g unlimited h done masters details
    (ap (λ kind. (row_of c.args.strand.now (line_of kind).shape).plan) kind)
    (ap (λ kind. (row_of c.args.strand.now (line_of kind).shape).early) kind) details_sorted
