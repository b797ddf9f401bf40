-- What the plans of the stages that bring streams together stand for, by their form.
use Rattle.std.specs.Prelude.{ℕ, Bool, true, false}
use Rattle.pipe_model.specs.Row.{Plan, Known}
use Rattle.fan_stages.specs.declared.fan_plans.FanPlans.{FanPlans}
use Rattle.fan_stages.specs.declared.fan_plans.FanPlans.TheVariants as Forms
use Rattle.fan_stages.specs.FanAny.{FansInAnyStand, JuxtaposesStand}
use Rattle.fan_stages.specs.FanIn.{FanInStands}
use Rattle.fan_stages.specs.Gather.{GatherStands}
use Rattle.fan_stages.specs.Overlay.{OverlaysStand, overlay_count}
use Rattle.fan_stages.specs.Passing.{passing_count}
use Rattle.fan_stages.specs.Synchronise.{SynchronisesStand, acts_count}

abbrev pub FanPlansStand : FanPlans → (Known → Plan) → Known → Plan → Type 0
FanPlansStand (Forms.FanIn x) = FanInStands x
FanPlansStand (Forms.FanInAny x) = FansInAnyStand x
FanPlansStand (Forms.Gather x) = GatherStands x
FanPlansStand (Forms.Overlay x) = OverlaysStand x
FanPlansStand (Forms.Synchronise x) = SynchronisesStand x
FanPlansStand (Forms.Juxtapose x) = JuxtaposesStand x

-- OVERLAY and JUXTAPOSE look at records
abbrev pub fan_plans_look : FanPlans → Bool
fan_plans_look (Forms.Overlay x) = true
fan_plans_look (Forms.Juxtapose x) = true
fan_plans_look _ = false

-- how many acts are left at most
abbrev pub fan_plans_left : FanPlans → ℕ
fan_plans_left (Forms.FanIn x) = passing_count x.passing
fan_plans_left (Forms.FanInAny x) = passing_count x.passing
fan_plans_left (Forms.Gather x) = passing_count x.passing
fan_plans_left (Forms.Overlay x) = overlay_count x
fan_plans_left (Forms.Synchronise x) = acts_count x
fan_plans_left (Forms.Juxtapose x) = passing_count x.passing
