use Rattle.std.proofs.Common.{◌∷◌, []}
use Rattle.std.proofs.lemmas.Result.{IfOk-weaker}
use Rattle.spec_scanner.specs.Additions.{AddsRead}
use Rattle.spec_scanner.specs.Labels.{read_pipelines}
use Rattle.spec_scanner.specs.Stretches.{cut, is_end}
use Rattle.spec_scanner.proofs.SoFar.{last_pipeline, one_pipeline_more}
use Rattle.spec_scanner.proofs.stages.read_pipelines.Goals as goal

pub loop-inside-preserved : goal.loop-inside-preserved
loop-inside-preserved c =
    one_pipeline_more c.args.closed c.args.findings.now c.loop-inside.findings c.read_pipeline.new.findings c.args.pipelines.now.items c.loop-inside.pipelines.items c.read_pipeline.new.pipelines.items
    c.args.items.now c.loop-inside.rest.now c.loop-inside.invariant c.in-Some.inside.now c.in-Some.place c.in-Some.after.now c.in-Some.ensures c.in_ok-read_pipeline.ensures.read c.in_ok-read_pipeline.ensures.few

pub returns : goal.returns
returns c =
    let now = c.loop-inside.findings in
    let next = c.read_pipeline-2.new.findings in
    let last = c.read_pipeline-2.new.pipelines.items in
    IfOk-weaker c.read_pipeline-2.result
    (λ _. AddsRead now next c.loop-inside.pipelines.items last (read_pipelines now.labels (record { inside = c.loop-inside.rest.now; closed = c.args.closed } ∷ [])))
    (λ _. AddsRead c.args.findings.now next c.args.pipelines.now.items last (read_pipelines c.args.findings.now.labels (cut is_end c.args.items.now c.args.closed)))
    (λ _ added. last_pipeline c.args.closed c.args.findings.now now next c.args.pipelines.now.items c.loop-inside.pipelines.items last c.args.items.now c.loop-inside.rest.now c.loop-inside.invariant
    c.in_default.ensures added)
    c.read_pipeline-2.ensures.read
