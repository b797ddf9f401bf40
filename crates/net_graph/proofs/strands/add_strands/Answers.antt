use Rattle.std.proofs.Common.{◌≡◌, ◌++◌, List, OnOk, subst, length}
use Rattle.pipe_model.specs.declared.net.Strand.{Strand}
use Rattle.net_graph.proofs.Stages.{several_parts}
use Rattle.net_graph.proofs.strands.add_strands.Goals as goal

pub returns-in_default : goal.returns-in_default
returns-in_default c =
    subst (λ (parts : List Strand). OnOk c.add_parts.result (c.add_parts.new.strands.items ≡ c.args.strands.now.items ++ parts))
    (several_parts c.args.inputs.now c.args.outputs.now c.args.stage (length c.args.strands.now.items) c.args.kind c.args.later c.of.result c.of.ensures c.in_default.not-Whole c.strands-count.result c.strands-count.ensures)
    c.add_parts.ensures
