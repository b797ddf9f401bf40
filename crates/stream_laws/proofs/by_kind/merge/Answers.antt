use Rattle.std.proofs.Common.{ap, length}
use Rattle.pipe_model.specs.Table.{line_of}
use Rattle.pipe_model.specs.Shape.{row_of}
use Rattle.pipe_model.specs.Listed.{merge_pairs}
use Rattle.stream_laws.proofs.Streams.{on_each_output}
use Rattle.stream_laws.proofs.Merges.{merge_puts}
use Rattle.stream_laws.proofs.by_kind.merge.Goals as goal

pub returns-clause-each_list : goal.returns-clause-each_list
returns-clause-each_list c = λ range kind g unlimited ordered h done.
    on_each_output c.args.strand.now h (merge_pairs range g.inputs (length c.args.strand.now.ports.has_input)) (merge_puts c.args.strand.now g unlimited h done (length c.args.strand.now.ports.has_input) range
    (ap (λ kind. (row_of c.args.strand.now (line_of kind).shape).plan) kind)
    (ap (λ kind. (row_of c.args.strand.now (line_of kind).shape).early) kind) ordered)

pub returns-clause-in_order : goal.returns-clause-in_order
returns-clause-in_order c = λ range kind g unlimited ordered h done.
    merge_puts c.args.strand.now g unlimited h done (length c.args.strand.now.ports.has_input) range
    (ap (λ kind. (row_of c.args.strand.now (line_of kind).shape).plan) kind)
    (ap (λ kind. (row_of c.args.strand.now (line_of kind).shape).early) kind) ordered
