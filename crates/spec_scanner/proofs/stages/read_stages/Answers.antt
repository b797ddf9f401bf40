use Rattle.std.proofs.Common.{length, subst, ◌≤◌, ◌+◌, ◌*◌}
use Rattle.std.proofs.lemmas.Result.{IfOk-weaker}
use Rattle.spec_scanner.specs.Additions.{AddsFound, load}
use Rattle.spec_scanner.specs.Labels.{read_stage, read_stages}
use Rattle.spec_scanner.specs.Stretches.{cut, is_separator}
use Rattle.spec_scanner.proofs.SoFar.{last_stage, one_stage_more}
use Rattle.spec_scanner.proofs.stages.read_stages.Goals as goal

pub loop-inside-preserved : goal.loop-inside-preserved
loop-inside-preserved c =
    let now = c.loop-inside.findings in
    let next = c.read_stage.new.findings in
    let added = subst (λ text. AddsFound now next c.loop-inside.pieces.items c.read_stage.new.pieces.items (read_stage now.labels c.in-Some.place text)) c.trimmed.ensures c.in_ok-read_stage.ensures.read in
    let few = subst (λ text. 2 * load next.labels ≤ 2 * load now.labels + length text) c.trimmed.ensures c.in_ok-read_stage.ensures.few in
    one_stage_more c.args.closed c.args.findings.now now next c.args.pieces.now.items c.loop-inside.pieces.items c.read_stage.new.pieces.items c.args.items.now c.loop-inside.rest.now
    c.loop-inside.invariant c.in-Some.inside.now c.in-Some.place c.in-Some.after.now c.in-Some.ensures added few

pub returns-clause-read : goal.returns-clause-read
returns-clause-read c =
    let now = c.loop-inside.findings in
    let next = c.read_stage-2.new.findings in
    let last = c.read_stage-2.new.pieces.items in
    IfOk-weaker c.read_stage-2.result
    (λ _. AddsFound now next c.loop-inside.pieces.items last (read_stage now.labels c.args.closed c.trimmed-2.result.now))
    (λ _. AddsFound c.args.findings.now next c.args.pieces.now.items last (read_stages c.args.findings.now.labels (cut is_separator c.args.items.now c.args.closed)))
    (λ _ added. last_stage c.args.closed c.args.findings.now now next c.args.pieces.now.items c.loop-inside.pieces.items last c.args.items.now c.loop-inside.rest.now c.loop-inside.invariant
    c.in_default.ensures (subst (λ text. AddsFound now next c.loop-inside.pieces.items last (read_stage now.labels c.args.closed text)) c.trimmed-2.ensures added))
    c.read_stage-2.ensures.read
