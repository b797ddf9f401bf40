use Rattle.std.proofs.Common.{refl}
use Rattle.pipe_model.specs.Table.{line_of}
use Rattle.stream_laws.proofs.ByShape.{listed_by, in_order_by}
use Rattle.stream_laws.proofs.by_shape.lists.Goals as goal

pub returns-clause-each_list : goal.returns-clause-each_list
returns-clause-each_list c = λ g unlimited h done. listed_by c.args.strand.now g unlimited h done (line_of c.args.strand.now.kind).shape refl

pub returns-clause-in_order : goal.returns-clause-in_order
returns-clause-in_order c = λ g unlimited h done. in_order_by c.args.strand.now g unlimited h done (line_of c.args.strand.now.kind).shape refl
