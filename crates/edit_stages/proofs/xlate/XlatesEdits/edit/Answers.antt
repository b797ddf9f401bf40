use Rattle.std.proofs.Common.{◌<◌, length, get_or, ◌∙◌, ap, arith}
use Rattle.std.specs.Prelude.{set}
use Rattle.std.proofs.lemmas.List.{get_or_default}
use Rattle.std.proofs.lemmas.List.Edits.{map_over_more}
use Rattle.pipe_model.specs.EditingRows.{translated}
use Rattle.edit_stages.proofs.xlate.XlatesEdits.edit.Goals as goal

pub loop-byte-preserved : goal.loop-byte-preserved
loop-byte-preserved c =
    let items = c.loop-byte.byte-items in
    let k = c.loop-byte.byte-index in
    let byte = get_or items k 0 in
    let low : k < length c.args.rec.now = omega (arith, c.loop-byte-test.true, c.deref_mut-byte-items.ensures.len, c.in_ok-bytes.ensures.len) in
    let within : k < length items = omega (arith, c.loop-byte-test.true, c.loop-byte.auto.byte-items) in
    ap (set items k) c.of_byte.ensures ∙ map_over_more (translated c.args.self.now) c.args.rec.now items k byte low c.loop-byte.invariant (get_or_default items k 0 byte within)
