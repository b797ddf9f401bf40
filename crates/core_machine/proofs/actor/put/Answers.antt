use Rattle.std.proofs.Common.{◌≡◌, true, false, Some, [], refl, sym, ◌∙◌, ap}
use Rattle.std.proofs.Math.Bool.{or-false}
use Rattle.pipe_model.specs.declared.step.Seen.TheVariants.{Put}
use Rattle.pipe_model.specs.declared.step.Want.TheVariants.{Take}
use Rattle.core_machine.proofs.Advanced.{gone_on_kept, resumes_put}
use Rattle.core_machine.proofs.Jobs.{if_ok}
use Rattle.core_machine.proofs.actor.put.Goals as goal

pub returns-then-actor : goal.returns-then-actor
returns-then-actor g c =
    let a = c.args.actor.now in
    let x = c.requires.can.0 in
    let was = c.requires.can.1 in
    let passes = c.requires.passes x c.if-actor.true was in (
      x,
      x,
      Take 0,
      a.passes,
      was,
      c.ask.ensures ∙ gone_on_kept a x (Put c.args.o) (Take 0) was refl,
      (resumes_put g.S.Stage.stands x [] passes.0 c.args.o, λ yes. passes),
    )

pub returns : goal.returns
returns g c =
    let a = c.args.actor.now in (
      c.in-Some.stage,
      c.put.new.self,
      c.put.new.asked,
      a.passes,
      c.in-Some.is,
      ap (λ b. record { stage = Some c.put.new.self; asked = c.put.new.asked; looks = a.looks; saw_end = b; passes = a.passes }) (sym (or-false a.saw_end)),
      if_ok c.put.result (λ done resumed. (resumed, λ yes. (let no : true ≡ false = sym yes ∙ c.if-actor.false in cc))) c.put.ensures,
    )
