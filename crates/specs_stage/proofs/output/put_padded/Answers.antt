use Rattle.std.proofs.Common.{◌∙◌}
use Rattle.std.proofs.lemmas.Result.{on_ok_weaker}
use Rattle.specs_stage.proofs.Fitting.{over_parts}
use Rattle.specs_stage.proofs.output.put_padded.Goals as goal

pub returns : goal.returns
returns c = on_ok_weaker c.put_copies-2.result (λ is. is ∙ over_parts c.args.at c.args.pad c.args.field.before c.args.field.behind c.args.field.bytes.now c.args.output.now.items
    c.put_copies.new.output.items c.put_bytes.new.output.items c.requires.at c.in_ok-put_copies.ensures c.in_ok-put_bytes.ensures) c.put_copies-2.ensures
