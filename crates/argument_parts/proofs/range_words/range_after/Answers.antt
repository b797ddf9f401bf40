use Rattle.std.proofs.Common.{arith}
use Rattle.argument_parts.proofs.RangeFronts.{apart_read, rangeless}
use Rattle.argument_parts.proofs.range_words.range_after.Goals as goal

pub returns-then-is_empty-clause-refused : goal.returns-then-is_empty-clause-refused
returns-then-is_empty-clause-refused c =
    λ text named. rangeless text c.args.after.now c.without_blanks-front.result.now c.args.span c.without_blanks-front.ensures (grind (arith, c.is_empty.ensures, c.if-is_empty.true)) named

pub returns-in-Some-clause-read : goal.returns-in-Some-clause-read
returns-in-Some-clause-read c =
    λ text named. apart_read text c.args.after.now c.without_blanks-front.result.now _ _ c.args.span c.in-Some.range c.without_blanks-front.ensures c.first_word.ensures (rw c.in-Some.is at c.in_ok-range.ensures.read) named
