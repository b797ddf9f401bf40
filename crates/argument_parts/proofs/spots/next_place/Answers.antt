use Rattle.std.proofs.Common.{arith, subst, sym}
use Rattle.std.proofs.lemmas.List.{take_rest}
use Rattle.argument_parts.proofs.SpotFronts.{next_alone, next_fault, next_long, next_unnamed, next_unnumbered}
use Rattle.argument_parts.specs.Spots.{IsSpot}
use Rattle.argument_parts.proofs.spots.next_place.Goals as goal

pub returns-in_default-clause-read : goal.returns-in_default-clause-read
returns-in_default-clause-read c = next_unnamed c.args.word.now _ _ c.before_dot.ensures.spells c.before_dot.ensures.whole c.before_dot.ensures.stops c.in_default.ensures

pub returns-then-is_empty-clause-read : goal.returns-then-is_empty-clause-read
returns-then-is_empty-clause-read c = λ text rest first.
    let alone = next_alone c.args.word.now _ _ c.before_dot.ensures.spells c.before_dot.ensures.whole c.before_dot.ensures.stops c.in-Some.apart c.in-Some.ensures text rest first (grind (arith, c.is_empty.ensures, c.if-is_empty.true)) in
    subst (λ spot. IsSpot text spot rest) (sym c.next_spot.ensures) alone

pub returns-in_default-number-clause-read : goal.returns-in_default-number-clause-read
returns-in_default-number-clause-read c =
    next_unnumbered c.args.word.now _ _ c.before_dot.ensures.spells c.before_dot.ensures.whole c.before_dot.ensures.stops _ (take_rest c.before_dot.result.1.now 1) (grind (arith, c.is_empty.ensures, c.if-is_empty.false)) c.in_default-number.ensures

pub returns-in-Some-within-clause-read : goal.returns-in-Some-within-clause-read
returns-in-Some-within-clause-read c = λ text rest first.
    let long = next_long c.args.word.now _ _ c.before_dot.ensures.spells c.before_dot.ensures.whole c.before_dot.ensures.stops c.in-Some.apart c.in-Some.ensures text rest first _ c.in-Some-number.len (take_rest c.before_dot.result.1.now 1)
    (grind (arith, c.is_empty.ensures, c.if-is_empty.false)) c.in-Some-number.ensures c.in-Some-within.len c.in-Some-within.ensures.0 c.in-Some-within.ensures.1 in
    subst (λ spot. IsSpot text spot rest) (sym c.next_spot-in-Some-within.ensures) long

pub returns-in-None-clause-refused : goal.returns-in-None-clause-refused
returns-in-None-clause-refused c = λ text rest first same.
    next_fault c.args.word.now _ _ c.before_dot.ensures.spells c.before_dot.ensures.whole c.before_dot.ensures.stops c.in-Some.apart c.in-Some.ensures text rest first _ c.in-Some-number.len (take_rest c.before_dot.result.1.now 1)
    (grind (arith, c.is_empty.ensures, c.if-is_empty.false)) c.in-Some-number.ensures c.args.left c.in-None.ensures same
