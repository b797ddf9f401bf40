-- Where nothing closes a walk, none does.
use Rattle.std.proofs.Common.{subst, None}
use Rattle.pipe_model.specs.Settled.{IsSettled}
use Rattle.stall_lint.specs.Answer.{IsFirstDam}
use Rattle.stall_lint.specs.Never.{HasNoDam}
use Rattle.stall_lint.specs.Ranks.{IsSought}
use Rattle.stall_lint.specs.declared.told.Lint.TheVariants.{Never}
use Rattle.stall_lint.proofs.Telling.{never_told, tells_never}
use Rattle.stall_lint.proofs.answer.lint.Goals as goal

pub returns-in-None-clause-told : goal.returns-in-None-clause-told
returns-in-None-clause-told c =
    let net = c.args.net.now in
    let settled : IsSettled net = rw c.in_default.is at c.in_ok-strand.ensures in
    let undammed : HasNoDam net = subst (λ strands. IsFirstDam strands None) c.as_slice.ensures c.in_default-first_dam.ensures in
    let found : IsSought net None = rw c.in-None.is at c.in_ok-walk.ensures in
    tells_never net c.requires settled undammed found.0 found.1

pub returns-in-None-clause-never : goal.returns-in-None-clause-never
returns-in-None-clause-never c = never_told c.args.net.now c.requires Never (returns-in-None-clause-told c)
