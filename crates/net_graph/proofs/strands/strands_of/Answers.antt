use Rattle.std.proofs.Common.{◌∙◌, length, ap, arith}
use Rattle.pipe_model.specs.declared.kind.Kind.{Kind}
use Rattle.net_graph.proofs.Stages.{one_longer, one_stage, width_left}
use Rattle.net_graph.proofs.strands.strands_of.Goals as goal

pub loop-kind-preserved : goal.loop-kind-preserved
loop-kind-preserved c =
    let left = ap (length {A = Kind}) c.in-Some.ensures.steps.0 in
    let width = width_left c.args.inputs.now c.args.outputs.now c.args.later.now c.loop-kind.stage (omega arith) c.in-Some.kind c.next.new.self.rest.items c.loop-kind.kind-iterator.rest.items c.in-Some.ensures.steps.0 in
    let longer = one_longer c.args.inputs.now c.args.outputs.now c.args.later.now c.loop-kind.stage (omega arith) c.in-Some.kind c.next.new.self.rest.items c.loop-kind.kind-iterator.rest.items c.in-Some.ensures.steps.0
    c.loop-kind.strands.items c.add_strands.new.strands.items c.in_ok-add_strands.ensures in
    record {
      next = tt;
      finite = tt;
      size = omega (arith, left, c.in-Some.ensures.steps.1);
      stages = omega (arith, left);
      strands = omega (arith, width, longer, c.loop-kind.invariant.strands);
      same = one_stage c.args.inputs.now c.args.outputs.now c.args.later.now c.loop-kind.stage (omega arith) c.in-Some.kind c.next.new.self.rest.items c.loop-kind.kind-iterator.rest.items c.in-Some.ensures.steps.0
          c.loop-kind.strands.items c.add_strands.new.strands.items c.in_ok-add_strands.ensures ∙ c.loop-kind.invariant.same;
    }
