-- The kinds of the fans and weaves, and what their stages stand for.
use Rattle.std.specs.Prelude.{◌≡◌, Bool, true, false, List, []}
use Rattle.pipe_model.specs.declared.kind.Kind.{Kind}
use Rattle.pipe_model.specs.declared.kind.Kind.TheVariants as Kinds
use Rattle.pipe_model.specs.declared.net.Strand.{Strand}
use Rattle.pipe_model.specs.Event.{Event}
use Rattle.pipe_model.specs.Next.{nothing_known}
use Rattle.pipe_model.specs.Row.{Known, Plan}
use Rattle.pipe_model.specs.Shape.{Outs, Stream, each_record, row}
use Rattle.pipe_model.specs.Shape.Keeping.{Nothing}
use Rattle.pipe_model.specs.Shape.Order.{WritesFirst}
use Rattle.pipe_model.specs.Shape.Shape.{Lists}
use Rattle.pipe_model.specs.Table.{form, line_of}
use Rattle.stage_steps.specs.Drivers.{ListedStands}
use Rattle.stage_steps.specs.Each.{EachStand, each_look}
use Rattle.stage_steps.specs.Planned.{PlannedStands}
use Rattle.fan_stages.specs.declared.fan.FanStage.{FanStage}
use Rattle.fan_stages.specs.declared.fan.FanStage.TheVariants.{Parts, Joins}
use Rattle.fan_stages.specs.declared.fan_each.FanEach.{FanEach}
use Rattle.fan_stages.specs.declared.fan_plans.FanPlans.{FanPlans}
use Rattle.fan_stages.specs.FanEach.{FanEachStand, fan_each_look}
use Rattle.fan_stages.specs.FanPlans.{FanPlansStand, fan_plans_look}

-- the kind is one of the fans and weaves
abbrev pub is_fan : Kind → Bool
is_fan Kinds.FanOut = true
is_fan Kinds.FanIn = true
is_fan Kinds.FanInAny = true
is_fan Kinds.Deal = true
is_fan Kinds.Gather = true
is_fan (Kinds.Overlay pad) = true
is_fan Kinds.Synchronise = true
is_fan Kinds.Juxtapose = true
is_fan _ = false

-- the stage stands for this history of this strand
abbrev pub FanStands : FanStage → Strand → List Event → Type 0
FanStands (Parts x) s h = ListedStands (EachStand FanEachStand) (each_look fan_each_look) x s h
FanStands (Joins x) s h = PlannedStands FanPlansStand fan_plans_look x s h

-- the pairs are those that the stage table says of the strand, before its first record
pub record ArePairsOf (s : Strand) (x : FanEach) : Type 0 where
  pub streams : List Bool → Stream
  pub shape_is : (line_of s.kind).shape ≡ Lists WritesFirst streams
  pub outs : Outs
  pub pairs : streams s.ports.has_output ≡ record (each_record (λ recs. [])) { outs = outs }
  pub looks_are : fan_each_look x ≡ (form s).looks
  pub begins : FanEachStand x outs [] []

-- the plans are those that the stage table says of the strand, before its first event
pub record ArePlansOf (s : Strand) (x : FanPlans) : Type 0 where
  pub plan : Known → Plan
  pub row_is : (form s).row ≡ row plan
  pub keeps_nothing : (form s).keeping ≡ Nothing
  pub looks_are : fan_plans_look x ≡ (form s).looks
  pub begins : FanPlansStand x plan nothing_known (plan nothing_known)
