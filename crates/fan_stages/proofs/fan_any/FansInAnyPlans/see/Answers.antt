use Rattle.std.proofs.Common.{sym, subst}
use Rattle.pipe_model.specs.Event.Event.{Saw}
use Rattle.pipe_model.specs.Next.{hears}
use Rattle.pipe_model.specs.Row.{Plan, Known}
use Rattle.stage_steps.specs.Plans.{last_from}
use Rattle.fan_stages.specs.declared.passing.Passing.TheVariants.{Writing}
use Rattle.fan_stages.specs.FanAny.{IsLeft}
use Rattle.fan_stages.proofs.AnyPlans.{passes}
use Rattle.fan_stages.proofs.Sights.{one_came}
use Rattle.fan_stages.proofs.fan_any.FansInAnyPlans.see.Goals as goal

pub returns-clause-plans : goal.returns-clause-plans
returns-clause-plans c = λ rec came plan k want is fits room.
    let x = c.args.self.now in
    let i = c.args.input in
    let now = hears k (Saw i rec) in
    record {
      plan_is = is.plan_is;
      left_is = subst (λ (f : Known → Plan). IsLeft (Writing i) x.all_ended (last_from now.seen) (f now)) (sym is.plan_is) (passes k want x.passing x.all_ended (last_from k.seen) is.left_is i rec);
      came = one_came k.seen i rec;
    }
