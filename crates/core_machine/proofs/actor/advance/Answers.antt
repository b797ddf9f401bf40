use Rattle.std.proofs.Common.{sym, ◌∙◌, ap, subst}
use Rattle.pipe_model.specs.declared.step.Seen.{Seen}
use Rattle.pipe_model.specs.declared.step.Want.TheVariants as Ask
use Rattle.stage_steps.specs.Coroutine.{Resumes}
use Rattle.core_machine.specs.Actors.{is_end}
use Rattle.core_machine.proofs.Advanced.{gone_on_kept, resumes_put, resumes_took}
use Rattle.core_machine.proofs.actor.advance.Goals as goal

pub returns-in-Put : goal.returns-in-Put
returns-in-Put g c =
    let a = c.args.actor.now in
    let x = c.requires.can.0 in
    let was = c.requires.can.1 in
    let bytes = c.args.bytes.now in
    let passes = c.requires.passes x c.if-actor.true was in (
      x,
      x,
      Ask.Take 0,
      a.passes,
      was,
      c.ask.ensures ∙ gone_on_kept a x c.args.seen (Ask.Take 0) was (ap is_end c.in-Put.is),
      (subst (λ (seen : Seen). Resumes g.S.Stage.stands x x seen bytes (Ask.Take 0)) (sym c.in-Put.is) (resumes_put g.S.Stage.stands x bytes passes.0 c.in-Put.field-0), λ yes. passes),
    )

pub returns-in-Took : goal.returns-in-Took
returns-in-Took g c =
    let a = c.args.actor.now in
    let x = c.requires.can.0 in
    let was = c.requires.can.1 in
    let bytes = c.args.bytes.now in
    let passes = c.requires.passes x c.if-actor-2.true was in (
      x,
      x,
      Ask.Read 0,
      a.passes,
      was,
      c.ask-in-Took.ensures ∙ gone_on_kept a x c.args.seen (Ask.Read 0) was (ap is_end c.in-Took.is),
      (subst (λ (seen : Seen). Resumes g.S.Stage.stands x x seen bytes (Ask.Read 0)) (sym c.in-Took.is) (resumes_took g.S.Stage.stands x bytes passes.1 c.in-Took.field-0), λ yes. passes),
    )
