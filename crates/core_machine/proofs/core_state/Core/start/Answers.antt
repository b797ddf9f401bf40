use Rattle.std.proofs.Common.{rules, ℕ, false, List, [], sym, ◌∙◌, ap, subst, length}
use Rattle.pipe_model.specs.declared.net.Net.{Net}
use Rattle.pipe_model.specs.declared.step.Entry.{Entry}
use Rattle.pipe_model.specs.WellFormed.{IsWellFormed}
use Rattle.core_machine.specs.Machine.{Machine}
use Rattle.core_machine.specs.Sound.{IsSound}
use Rattle.core_machine.specs.Start.{IsCalled}
use Rattle.core_machine.proofs.Starts.{none_called, all_called, if_err, if_fine}
use Rattle.core_machine.proofs.core_state.Core.start.Goals as goal

pub call_all-called-requires-clause-formed : goal.call_all-called-requires-clause-formed
call_all-called-requires-clause-formed g c = subst IsWellFormed (sym c.in_ok-floor.ensures.net) c.requires.formed

pub call_all-called-requires-clause-called : goal.call_all-called-requires-clause-called
call_all-called-requires-clause-called g c =
    let floor = c.in_ok-floor.floor in
    let actors = c.in_ok-actors.actors.items in
    subst (λ n. IsCalled g.S.Stage.stands n 0 actors floor.desk floor.pool) (sym c.in_ok-floor.ensures.net)
    (none_called g.S.Stage.stands c.args.net c.requires.formed c.args.stages.items actors floor.desk floor.pool c.requires.fresh c.in_ok-actors.ensures c.in_ok-floor.ensures.run)

pub close-requires : goal.close-requires
close-requires g c = if_err c.call_all-called.result (sym c.is_err.ensures.value ∙ c.if-is_err.true) c.call_all-called.ensures.pooled

pub invariant_of-result : goal.invariant_of-result
invariant_of-result g c =
    let called = if_fine c.call_all-called.result (sym c.is_err.ensures.value ∙ c.if-is_err.false) c.call_all-called.ensures.called in
    let net = c.in_ok-floor.ensures.net in
    let new = c.call_all-called.new in
    let called_here = subst (λ (n : Net). IsCalled g.S.Stage.stands n (length n.strands) new.actors.items new.floor.desk new.floor.pool) net called in
    let sound = all_called g.S.Stage.stands c.args.net c.requires.formed new.actors.items new.floor.desk new.floor.pool c.args.budget c.requires.bounded called_here in (
      subst (λ n. IsSound g.S.Stage.stands n c.args.budget c.in_ok-journal.journal.items c.in_ok-out.out.items new.actors.items new.floor.desk new.floor.pool) (sym (c.call_all-called.ensures.net ∙ net))
          (subst (λ j. IsSound g.S.Stage.stands c.args.net c.args.budget j c.in_ok-out.out.items new.actors.items new.floor.desk new.floor.pool) (sym c.in_ok-journal.ensures.empty)
          (subst (λ o. IsSound g.S.Stage.stands c.args.net c.args.budget [] o new.actors.items new.floor.desk new.floor.pool) (sym c.in_ok-out.ensures.items) sound)),
      search rules,
      search rules,
    )

pub returns : goal.returns
returns g c =
    let M : Net → List Entry → List ℕ → Machine = λ n j o. record { net = n; budget = c.args.budget; journal = j; out = o; is_broken = false } in
    ap (λ n. M n c.in_ok-journal.journal.items c.in_ok-out.out.items) (c.call_all-called.ensures.net ∙ c.in_ok-floor.ensures.net)
    ∙ ap (λ j. M c.args.net j c.in_ok-out.out.items) c.in_ok-journal.ensures.empty ∙ ap (M c.args.net []) c.in_ok-out.ensures.items
