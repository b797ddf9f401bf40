use Rattle.argument_parts.proofs.Spellings.{range_fault}
use Rattle.argument_parts.proofs.spelled.plain_range.Goals as goal

pub returns-in-Err-clause-refused : goal.returns-in-Err-clause-refused
returns-in-Err-clause-refused c =
    range_fault c.args.word.now _ _ c.first_digits.ensures c.in-Some.spelling c.in-Err.misfit c.place_misfit.result c.in-Some.ensures c.in-Err.ensures.refused c.place_misfit.ensures
