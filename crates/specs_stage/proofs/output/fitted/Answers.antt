use Rattle.std.proofs.Common.{◌∙◌, ◌-◌, ◌++◌, length, take, drop, replicate, sym, ap}
use Rattle.specs_stage.specs.Output.{share_of}
use Rattle.pipe_model.specs.Fields.{fitted}
use Rattle.specs_stage.proofs.Fitting.{fitted_parts}
use Rattle.specs_stage.proofs.output.fitted.Goals as goal

pub returns-in-Some-clause-bytes : goal.returns-in-Some-clause-bytes
returns-in-Some-clause-bytes c = λ pad.
    let len = c.in-Some.len in
    let field = c.args.field.now in
    let before_is = c.share_of-before.ensures ∙ ap (share_of c.args.align) c.saturating_sub.ensures in
    let skipped_is = c.share_of-skipped.ensures ∙ ap (share_of c.args.align) c.saturating_sub-in-Some.ensures in
    let bytes_is = c.front-bytes.ensures ∙ ap (take (len - c.share_of-before.result)) c.behind.ensures in
    ap (λ bs. replicate c.share_of-before.result pad ++ bs ++ replicate (len - c.share_of-before.result - length bs) pad) bytes_is
    ∙ ap (λ b. replicate b pad ++ take (len - b) (drop c.share_of-skipped.result field) ++ replicate (len - b - length (take (len - b) (drop c.share_of-skipped.result field))) pad) before_is
    ∙ ap (λ s. let b = share_of c.args.align (len - length field) in replicate b pad ++ take (len - b) (drop s field) ++ replicate (len - b - length (take (len - b) (drop s field))) pad) skipped_is
    ∙ fitted_parts c.args.align pad len field ∙ ap (λ l. fitted c.args.align pad l field) (sym c.in-Some.is)
