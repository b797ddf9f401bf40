use Rattle.std.proofs.Common.{◌≡◌, true, false, refl, arith}
use Rattle.journal_file.proofs.Digits.{not_among_digits}
use Rattle.journal_file.proofs.Numbers.{first_digit, first_left, no_byte, none_left, not_plain_left, other_byte, plain_left, too_large}
use Rattle.journal_file.proofs.fronts.number_before.Goals as goal

pub returns-then-is_plain-clause-found : goal.returns-then-is_plain-clause-found
returns-then-is_plain-clause-found c =
    (c.loop-left.invariant.1, plain_left c.args.text.now c.loop-left.left.now c.loop-left.value c.args.end c.loop-left.invariant.0 c.in-len1-up.len_at_least c.if-byte-end.true (omega arith) (c.if-is_plain.ensures.0 refl))

pub returns-else-is_plain-clause-none : goal.returns-else-is_plain-clause-none
returns-else-is_plain-clause-none c =
    not_plain_left c.args.text.now c.loop-left.left.now c.loop-left.value c.args.end c.args.most c.loop-left.invariant.0 c.in-len1-up.len_at_least c.if-byte-end.true c.requires.short c.requires.no_digit
    (λ written. let is : false ≡ true = c.if-is_plain.ensures.1 written in cc)

pub returns-then-not-is_ascii_digit-clause-none : goal.returns-then-not-is_ascii_digit-clause-none
returns-then-not-is_ascii_digit-clause-none c =
    let read = first_left c.args.text.now c.loop-left.left.now c.loop-left.value _ c.loop-left.invariant.0 c.in-len1-up.len_at_least refl in
    other_byte c.args.text.now _ c.loop-left.value _ c.args.end c.args.most read c.requires.short c.requires.no_digit (not_among_digits _ c.if-not-is_ascii_digit.ensures.cases) c.if-byte-end.false

pub returns-then-value-most-clause-none : goal.returns-then-value-most-clause-none
returns-then-value-most-clause-none c =
    let read = first_digit c.args.text.now c.loop-left.left.now c.loop-left.value c.from.result c.loop-left.invariant.0 c.in-len1-up.len_at_least c.if-not-is_ascii_digit.ensures.bound c.from.ensures in
    too_large c.args.text.now _ _ c.args.end c.args.most read c.requires.short c.requires.no_digit c.if-value-most.true

pub loop-left-preserved : goal.loop-left-preserved
loop-left-preserved c =
    (first_digit c.args.text.now c.loop-left.left.now c.loop-left.value c.from.result c.loop-left.invariant.0 c.in-len1-up.len_at_least c.if-not-is_ascii_digit.ensures.bound c.from.ensures, c.if-value-most.false)

pub returns-clause-none : goal.returns-clause-none
returns-clause-none c =
    no_byte c.args.text.now c.loop-left.value c.args.end c.args.most (none_left c.args.text.now c.loop-left.left.now c.loop-left.value c.loop-left.invariant.0 c.in_default.len_below) c.requires.short c.requires.no_digit
