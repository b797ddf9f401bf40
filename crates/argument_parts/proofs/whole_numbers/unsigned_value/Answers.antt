use Rattle.std.proofs.Common.{arith}
use Rattle.argument_parts.proofs.WholeDigits.{digit_next, digit_read, few, filled}
use Rattle.argument_parts.proofs.whole_numbers.unsigned_value.Goals as goal

pub returns-then-digits-gt-MOST_DIGITS : goal.returns-then-digits-gt-MOST_DIGITS
returns-then-digits-gt-MOST_DIGITS c = filled c.args.digits.now 19 c.if-digits-gt-MOST_DIGITS.true c.requires.digits c.requires.front

pub overflow_mul-value : goal.overflow_mul-value
overflow_mul-value c = let small = few c.loop-digit.value c.loop-digit.digit-index c.loop-digit.invariant.small (omega arith) in omega (arith, small)

pub overflow_add-value : goal.overflow_add-value
overflow_add-value c =
    let small = few c.loop-digit.value c.loop-digit.digit-index c.loop-digit.invariant.small (omega arith) in
    let digit = (digit_next c.args.digits.now c.loop-digit.digit-index c.loop-digit.value c.loop-digit-test.true c.loop-digit.invariant).1 in
    omega (arith, small, digit, c.from.ensures)

pub loop-digit-preserved : goal.loop-digit-preserved
loop-digit-preserved c = rw c.from.ensures (digit_read c.args.digits.now c.loop-digit.digit-index c.loop-digit.value c.loop-digit-test.true c.loop-digit.invariant)
