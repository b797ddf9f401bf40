use Rattle.std.proofs.Common.{◌∷◌, [], ◌++◌, ◌∙◌, refl, sym, ap, subst}
use Rattle.pipe_model.specs.Event.Event.{Saw}
use Rattle.pipe_model.specs.Next.{hears}
use Rattle.pipe_model.specs.Row.{Plan, Known}
use Rattle.stage_steps.specs.Plans.{last_from}
use Rattle.fan_stages.specs.declared.passing.Passing.TheVariants.{Writing, Taking}
use Rattle.fan_stages.specs.FanAny.{IsLeft}
use Rattle.fan_stages.proofs.AnyPlans.{keeps, joins}
use Rattle.fan_stages.proofs.Sights.{last_is, last_same}
use Rattle.fan_stages.proofs.fan_any.JuxtaposesPlans.see.Goals as goal

pub returns-in_ok-extend_from_slice-clause-plans : goal.returns-in_ok-extend_from_slice-clause-plans
returns-in_ok-extend_from_slice-clause-plans c = λ rec came plan k want is fits room.
    let x = c.args.self.now in
    let i = c.args.input in
    let here = c.if-input-eq0.true in
    record {
      plan_is = is.plan_is;
      left_is = subst (λ (f : Known → Plan). IsLeft (Taking i) x.all_ended (λ j. x.new) (f (hears k (Saw i rec)))) (sym is.plan_is) (keeps k want x.passing x.all_ended (λ j. x.new) is.left_is i rec x.new here);
      prefix_is = c.in_ok-extend_from_slice.ensures.items ∙ ap (λ l. l ++ c.args.bytes.now) c.clear.ensures.items ∙ came refl ∙ sym (last_is k.seen i rec) ∙ ap (last_from (k.seen ++ (i, rec) ∷ [])) here;
    }

pub returns-in_ok-self-clause-plans : goal.returns-in_ok-self-clause-plans
returns-in_ok-self-clause-plans c = λ rec came plan k want is fits room.
    let x = c.args.self.now in
    let i = c.args.input in
    let other = c.if-input-eq0.false in
    let new = c.in_ok-self.field-0 in
    let new_is = c.in_ok-self.ensures ∙ ap (λ l. l ++ c.args.bytes.now) (c.as_slice.ensures.value ∙ is.prefix_is) ∙ ap (λ r. last_from k.seen 0 ++ r) (came refl) in
    record {
      plan_is = is.plan_is;
      left_is = subst (λ (f : Known → Plan). IsLeft (Writing i) x.all_ended (λ j. new) (f (hears k (Saw i rec)))) (sym is.plan_is) (joins k want x.passing x.all_ended (λ j. x.new) is.left_is i rec new other new_is);
      prefix_is = is.prefix_is ∙ sym (last_same k.seen i rec 0 other);
    }
