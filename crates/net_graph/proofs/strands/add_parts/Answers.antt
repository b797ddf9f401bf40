use Rattle.std.proofs.Common.{◌≡◌, ◌∙◌, length, arith, refl}
use Rattle.net_graph.proofs.Stages.{one_part, parts_size}
use Rattle.net_graph.proofs.strands.add_parts.Goals as goal

pub row-has_input-requires-clause-few : goal.row-has_input-requires-clause-few
row-has_input-requires-clause-few c =
    let size = parts_size c.args.inputs.now c.args.outputs.now c.args.stage c.args.kind.now c.args.strands.now.items c.loop-part.strands.items c.loop-part.part c.loop-part.invariant in
    omega arith

pub row-has_input-requires-clause-within : goal.row-has_input-requires-clause-within
row-has_input-requires-clause-within c =
    let size = parts_size c.args.inputs.now c.args.outputs.now c.args.stage c.args.kind.now c.args.strands.now.items c.loop-part.strands.items c.loop-part.part c.loop-part.invariant in
    omega arith

pub row-has_output-requires-clause-few : goal.row-has_output-requires-clause-few
row-has_output-requires-clause-few c =
    let size = parts_size c.args.inputs.now c.args.outputs.now c.args.stage c.args.kind.now c.args.strands.now.items c.loop-part.strands.items c.loop-part.part c.loop-part.invariant in
    omega arith

pub row-has_output-requires-clause-within : goal.row-has_output-requires-clause-within
row-has_output-requires-clause-within c =
    let size = parts_size c.args.inputs.now c.args.outputs.now c.args.stage c.args.kind.now c.args.strands.now.items c.loop-part.strands.items c.loop-part.part c.loop-part.invariant in
    omega arith

pub loop-part-preserved : goal.loop-part-preserved
loop-part-preserved c =
    let number : c.len-number.result ≡ length c.loop-part.strands.items = omega arith in
    one_part c.args.inputs.now c.args.outputs.now c.args.stage c.args.kind.now c.args.strands.now.items c.loop-part.strands.items c.loop-part.part c.loop-part.invariant
    c.push.new.self.items c.in_ok-of_part.field-0 c.len-number.result number c.in_ok-push.ensures.items
    (c.in_ok-of_part.ensures ∙ rw (c.same_kind.ensures, c.row-has_input.ensures, c.row-has_output.ensures) refl)
