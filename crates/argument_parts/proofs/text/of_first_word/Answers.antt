use Rattle.std.proofs.Common.{inr}
use Rattle.std.proofs.lemmas.Result.{err_from_is_err_and}
use Rattle.argument_parts.proofs.Wanting.{wants_for}
use Rattle.argument_parts.proofs.text.of_first_word.Goals as goal

pub returns-in_err-spelled-clause-memory : goal.returns-in_err-spelled-clause-memory
returns-in_err-spelled-clause-memory c =
    let p = err_from_is_err_and c.from_residual.result c.from_residual.ensures.1 in
    rw (p.1, p.2) (wants_for _ _ (λ found. (found.0, found.1, inr found.2)) c.in_err-spelled.field-0.0 c.in_err-spelled.ensures.memory)
