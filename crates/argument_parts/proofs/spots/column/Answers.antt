use Rattle.std.proofs.Common.{◌≡◌, ◌≢◌, ap, arith, rules, ◌∙◌}
use Rattle.argument_parts.proofs.OneSpellings.{one_spelling}
use Rattle.argument_parts.proofs.SpotFronts.{column_fault, fault_within}
use Rattle.argument_parts.specs.declared.ranges.Ending.TheVariants.{Open}
use Rattle.argument_parts.specs.declared.ranges.Spelling.{Spelling}
use Rattle.argument_parts.proofs.spots.column.Goals as goal

pub returns-in_default-clause-read : goal.returns-in_default-clause-read
returns-in_default-clause-read c = λ spelling spelled. absurd (c.in_default.ensures spelling spelled)

pub returns-then-eq-clause-read : goal.returns-then-eq-clause-read
returns-then-eq-clause-read c = λ spelling spelled.
    let endless : c.in-Some.spelling.ending ≡ Open = search rules in
    ap (λ (s : Spelling). s.ending) (one_spelling c.args.word.now spelling c.in-Some.spelling spelled c.in-Some.ensures) ∙ endless

pub overflow_sub-result : goal.overflow_sub-result
overflow_sub-result c =
    let inside = fault_within c.args.word.now _ _ c.first_digits.ensures c.in-Some.spelling c.in-Some.ensures c.in-Err.misfit c.place_misfit-fault.result c.in-Err.ensures.refused c.place_misfit-fault.ensures in
    omega (arith, inside, c.requires.within)

pub returns-in-Err-clause-refused : goal.returns-in-Err-clause-refused
returns-in-Err-clause-refused c = λ text rest first same.
    let closed : c.in-Some.spelling.ending ≢ Open = search rules in
    column_fault c.args.word.now _ _ c.first_digits.ensures c.in-Some.spelling c.in-Some.ensures text rest c.args.left c.in-Err.misfit c.place_misfit-fault.result closed c.in-Err.ensures.refused c.place_misfit-fault.ensures first same
