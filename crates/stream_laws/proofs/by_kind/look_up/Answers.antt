use Rattle.std.proofs.Common.{ap}
use Rattle.pipe_model.specs.Table.{line_of}
use Rattle.pipe_model.specs.Shape.{row_of}
use Rattle.pipe_model.specs.Listed.{lookup_pairs}
use Rattle.stream_laws.proofs.Streams.{on_each_output}
use Rattle.stream_laws.proofs.Lookups.{lookup_puts}
use Rattle.stream_laws.proofs.by_kind.look_up.Goals as goal

pub returns-clause-each_list : goal.returns-clause-each_list
returns-clause-each_list c = λ details masters kind g unlimited h done.
    on_each_output c.args.strand.now h (lookup_pairs details masters (g.inputs 0) (g.inputs 1)) (lookup_puts c.args.strand.now g unlimited h done details masters
    (ap (λ kind. (row_of c.args.strand.now (line_of kind).shape).plan) kind)
    (ap (λ kind. (row_of c.args.strand.now (line_of kind).shape).early) kind))

pub returns-clause-in_order : goal.returns-clause-in_order
returns-clause-in_order c = λ details masters kind g unlimited h done.
    lookup_puts c.args.strand.now g unlimited h done details masters
    (ap (λ kind. (row_of c.args.strand.now (line_of kind).shape).plan) kind)
    (ap (λ kind. (row_of c.args.strand.now (line_of kind).shape).early) kind)
