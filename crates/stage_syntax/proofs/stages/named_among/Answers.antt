use Rattle.std.proofs.Common.{◌∙◌, arith}
use Rattle.stage_syntax.proofs.StageNames.{found_here, not_named_here}
use Rattle.stage_syntax.proofs.stages.named_among.Goals as goal

pub returns-then-is_same : goal.returns-then-is_same
returns-then-is_same c = λ first.
    c.loop-spelled.invariant first ∙ found_here first c.args.name.now _ c.args.stages.now c.loop-spelled.spelled-index (omega arith) (c.is_same.ensures.0 c.if-is_same.true)

pub loop-spelled-preserved : goal.loop-spelled-preserved
loop-spelled-preserved c = λ first.
    c.loop-spelled.invariant first
    ∙ not_named_here first c.args.name.now _ c.args.stages.now c.loop-spelled.spelled-index (omega arith) (λ same.
    let is = c.is_same.ensures.1 same in
    let no = c.if-is_same.false in
    cc)
