-- The strand is one of a DAM, or one more isn't.
use Rattle.std.proofs.Common.{arith, ◌≡◌, sym, ◌∙◌, Some, slice_get, slice_index_or}
use Rattle.std.proofs.lemmas.Option.{slice_get-get_or}
use Rattle.pipe_model.specs.Table.{form}
use Rattle.stall_lint.proofs.Telling.{none_at_all, none_more, streamed}
use Rattle.stall_lint.proofs.answer.first_dam.Goals as goal

pub returns-then-is_dam : goal.returns-then-is_dam
returns-then-is_dam c =
    let strands = c.args.strands.now in
    let s = c.loop-strand.strand in
    let p = slice_index_or strands s c.index-strands-strand.result in
    let at : slice_get strands s ≡ Some p = slice_get-get_or strands s c.index-strands-strand.result c.loop-strand-test.true in
    (p, at, streamed (form p).parting (sym c.is_dam.ensures ∙ c.if-is_dam.true), c.loop-strand.invariant)

pub loop-strand-preserved : goal.loop-strand-preserved
loop-strand-preserved c =
    let strands = c.args.strands.now in
    let s = c.loop-strand.strand in
    let p = slice_index_or strands s c.index-strands-strand.result in
    let at : slice_get strands s ≡ Some p = slice_get-get_or strands s c.index-strands-strand.result c.loop-strand-test.true in
    none_more strands s p c.loop-strand.invariant at (sym c.is_dam.ensures ∙ c.if-is_dam.false)

pub returns : goal.returns
returns c = none_at_all c.args.strands.now c.loop-strand.strand (omega (arith, c.loop-strand-test.false)) c.loop-strand.invariant
