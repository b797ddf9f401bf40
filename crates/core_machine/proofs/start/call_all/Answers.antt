use Rattle.std.proofs.Common.{◌≡◌, length, subst, sym, ◌∙◌, ap, arith}
use Rattle.pipe_model.specs.declared.net.Net.{Net}
use Rattle.pipe_model.specs.WellFormed.{IsWellFormed}
use Rattle.core_machine.specs.Start.{IsCalled}
use Rattle.core_machine.proofs.start.call_all.Goals as goal

pub call-requires-clause-formed : goal.call-requires-clause-formed
call-requires-clause-formed g c = subst IsWellFormed (sym c.loop-strand.invariant.3) c.requires.formed

pub call-requires-clause-within : goal.call-requires-clause-within
call-requires-clause-within g c =
    let below = c.loop-strand-test.true in
    let count = c.loop-strand.invariant.2 in
    omega (arith, below, count)

pub returns-clause-called : goal.returns-clause-called
returns-clause-called g c =
    let i = c.loop-strand.invariant in
    let floor = c.loop-strand.floor in
    let end' = c.loop-strand-test.false in
    let at : c.loop-strand.strand ≡ length c.args.floor.now.net.strands = (let low = i.1 in let count = i.2 ∙ ap (λ (n : Net). length n.strands) i.3 in omega (arith, end', low, count)) in
    subst (λ n. IsCalled g.S.Stage.stands n (length c.args.floor.now.net.strands) c.loop-strand.actors.items floor.desk floor.pool) i.3
    (subst (λ s. IsCalled g.S.Stage.stands floor.net s c.loop-strand.actors.items floor.desk floor.pool) at i.0)
