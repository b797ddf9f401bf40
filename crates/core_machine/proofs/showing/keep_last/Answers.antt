-- Where none was taken nothing is done.
use Rattle.std.proofs.Common.{◌<◌, ◌≤◌, ℕ, List, length, arith, sym, ◌∙◌, ap, subst}
use Rattle.run_desk.specs.Relaying.{pool_refilled}
use Rattle.core_machine.proofs.showing.keep_last.Goals as goal

pub refill-requires-clause-short : goal.refill-requires-clause-short
refill-requires-clause-short g c =
    let some : 0 < c.args.taken = omega arith in
    subst (λ (l : List ℕ). length l ≤ 256) (sym (c.copied.ensures ∙ c.shown.ensures)) (c.requires.short some)

pub returns-clause-some : goal.returns-clause-some
returns-clause-some g c = λ some grip offers. c.refill.ensures.pool grip offers ∙ ap (λ z. pool_refilled c.args.floor.now.pool grip z) (c.copied.ensures ∙ c.shown.ensures)
