use Rattle.std.proofs.Common.{refl}
use Rattle.std.proofs.lemmas.Result.{err_from_is_err_and}
use Rattle.argument_parts.proofs.Wanting.{wants_for}
use Rattle.argument_parts.specs.declared.part.Value.TheVariants as Read
use Rattle.argument_parts.proofs.taken.strings_at.Goals as goal

pub returns-in_err-spelled-clause-memory : goal.returns-in_err-spelled-clause-memory
returns-in_err-spelled-clause-memory c =
    let p = err_from_is_err_and c.from_residual.result c.from_residual.ensures.1 in
    rw (p.1, p.2) (wants_for _ _ (λ found. (Read.Strings found.0 found.1, found.2, (found.0, found.1, refl, found.3))) c.in_err-spelled.field-0.0 c.in_err-spelled.ensures.memory)
