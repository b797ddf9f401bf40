use Rattle.std.proofs.Common.{ap, length}
use Rattle.pipe_model.specs.Table.{line_of}
use Rattle.pipe_model.specs.Shape.{row_of}
use Rattle.pipe_model.specs.Listed.{fan_in_pairs}
use Rattle.stream_laws.proofs.Streams.{on_each_output}
use Rattle.stream_laws.proofs.FanIns.{fan_in_puts}
use Rattle.stream_laws.proofs.by_kind.fan_in.Goals as goal

pub returns-clause-each_list : goal.returns-clause-each_list
returns-clause-each_list c = λ kind g unlimited h done.
    on_each_output c.args.strand.now h (fan_in_pairs g.inputs (length c.args.strand.now.ports.has_input)) (fan_in_puts c.args.strand.now g unlimited h done (length c.args.strand.now.ports.has_input)
    (ap (λ kind. (row_of c.args.strand.now (line_of kind).shape).plan) kind)
    (ap (λ kind. (row_of c.args.strand.now (line_of kind).shape).early) kind))

pub returns-clause-in_order : goal.returns-clause-in_order
returns-clause-in_order c = λ kind g unlimited h done.
    fan_in_puts c.args.strand.now g unlimited h done (length c.args.strand.now.ports.has_input)
    (ap (λ kind. (row_of c.args.strand.now (line_of kind).shape).plan) kind)
    (ap (λ kind. (row_of c.args.strand.now (line_of kind).shape).early) kind)
