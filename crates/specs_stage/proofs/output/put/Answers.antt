use Rattle.std.proofs.Common.{◌≡◌, ◌∙◌, ap, arith, length}
use Rattle.std.proofs.lemmas.Result.{on_ok_weaker}
use Rattle.pipe_model.specs.Fields.{fitted, start_of, overwritten}
use Rattle.specs_stage.specs.Output.{start_behind, bytes_of}
use Rattle.specs_stage.proofs.Fitting.{over_filled, some_bytes, starts}
use Rattle.specs_stage.proofs.output.put.Goals as goal

pub returns : goal.returns
returns c =
    let output = c.args.output.now.items in
    let pad = c.args.pad in
    let len_is : c.len.result ≡ length output = omega (arith, c.len.ensures) in
    let start_is = c.start_of-start.ensures ∙ ap (start_behind c.args.spot) len_is ∙ starts c.args.spot output in
    let bytes_is = c.fitted-field.ensures.bytes pad ∙ ap (λ len. fitted c.args.align pad len c.args.field.now) c.length_of.ensures in
    on_ok_weaker c.put_padded.result (λ is. is
    ∙ over_filled pad c.start_of-start.result (bytes_of pad c.fitted-field.result) output c.grow.new.output.items (some_bytes (length (bytes_of pad c.fitted-field.result)) c.is_empty.result c.if-is_empty.false (c.is_empty.ensures pad)) c.in_ok-grow.ensures
    ∙ ap (λ start. overwritten pad start (bytes_of pad c.fitted-field.result) output) start_is
    ∙ ap (λ bytes. overwritten pad (start_of c.args.spot output) bytes output) bytes_is) c.put_padded.ensures
