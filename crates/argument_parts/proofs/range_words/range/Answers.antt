use Rattle.std.proofs.Common.{arith}
use Rattle.std.proofs.lemmas.Result.{err_from_is_err_and}
use Rattle.argument_parts.proofs.RangeFronts.{named_by, named_read, no_range_joined, no_range_unnamed}
use Rattle.argument_parts.proofs.range_words.range.Goals as goal

pub returns-in_default-span_named-clause-read : goal.returns-in_default-span_named-clause-read
returns-in_default-span_named-clause-read c =
    no_range_unnamed c.args.text.now _ _ _ _ c.first_word.ensures c.first_others.ensures (rw c.in_default.is at c.in_ok-range.ensures.read) c.in_default-span_named.ensures

pub returns-in_err-after-clause-refused : goal.returns-in_err-after-clause-refused
returns-in_err-after-clause-refused c =
    let named = named_by c.args.text.now _ _ _ _ _ c.first_word.ensures c.first_others.ensures (grind (arith, c.is_empty.ensures, c.if-is_empty.true)) c.in-Some-span_named.ensures in
    let p = err_from_is_err_and c.from_residual-in_err-after.result c.from_residual-in_err-after.ensures.1 in
    rw (p.1, p.2) (c.in_err-after.ensures.refused c.args.text.now named)

pub returns-then-is_empty-clause-read : goal.returns-then-is_empty-clause-read
returns-then-is_empty-clause-read c =
    let named = named_by c.args.text.now _ _ _ _ _ c.first_word.ensures c.first_others.ensures (grind (arith, c.is_empty.ensures, c.if-is_empty.true)) c.in-Some-span_named.ensures in
    named_read c.args.text.now _ _ _ _ c.first_word.ensures (c.in_ok-after.ensures.read c.args.text.now named)

pub returns-in-None-clause-read : goal.returns-in-None-clause-read
returns-in-None-clause-read c =
    no_range_joined c.args.text.now _ _ _ _ c.first_word.ensures c.first_others.ensures (rw c.in_default.is at c.in_ok-range.ensures.read) (grind (arith, c.is_empty.ensures, c.if-is_empty.false)) (rw c.in-None.is at c.in_ok-range-2.ensures.read)
