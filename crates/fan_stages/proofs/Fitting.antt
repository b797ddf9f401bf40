-- A fresh driver of a strand's pairs or plans is its stage.
use Rattle.std.proofs.Common.{◌≡◌, Bool, false, List, [], sym, ◌∙◌, ap, subst}
use Rattle.pipe_model.specs.declared.kind.Kind.{Kind}
use Rattle.pipe_model.specs.declared.net.Strand.{Strand}
use Rattle.pipe_model.specs.Shape.{Stream}
use Rattle.pipe_model.specs.Shape.Order.{WritesFirst}
use Rattle.pipe_model.specs.Shape.Shape.{Lists}
use Rattle.pipe_model.specs.Table.{line_of}
use Rattle.stage_steps.specs.declared.each.Each.{Each}
use Rattle.stage_steps.specs.declared.listed.Listed.{Listed}
use Rattle.stage_steps.specs.declared.order.Order.TheVariants as Orders
use Rattle.stage_steps.specs.declared.planned.Planned.{Planned}
use Rattle.stage_steps.specs.Drivers.{IsFresh, ListedStands}
use Rattle.stage_steps.specs.Each.{EachStand, each_look}
use Rattle.stage_steps.specs.Listed.{lists_of}
use Rattle.stage_steps.specs.Lists.{of_each}
use Rattle.stage_steps.specs.Planned.{IsFreshPlan, PlannedStands}
use Rattle.fan_stages.specs.declared.fan_each.FanEach.{FanEach}
use Rattle.fan_stages.specs.declared.fan_plans.FanPlans.{FanPlans}
use Rattle.fan_stages.specs.Fan.{ArePairsOf, ArePlansOf}
use Rattle.fan_stages.specs.FanEach.{FanEachStand, fan_each_look}
use Rattle.fan_stages.specs.FanPlans.{FanPlansStand, fan_plans_look}

pub stage_of_pairs : (pairs : FanEach) (outputs : List Bool) (x : Listed (Each FanEach)) → IsFresh (EachStand FanEachStand) (each_look fan_each_look) (record { each = pairs }) Orders.WritesFirst outputs false x →
    (s : Strand) → s.ports.has_output ≡ outputs → ArePairsOf s pairs → ListedStands (EachStand FanEachStand) (each_look fan_each_look) x s []
stage_of_pairs pairs outputs x fresh s outputs_are are = fresh s (are.streams s.ports.has_output) (record {
  lists_are = ap (lists_of s) are.shape_is;
  outputs_are = sym outputs_are;
  looks_are = are.looks_are;
  looking = λ keeps. cc;
  begins = (are.outs, are.pairs, are.begins);
})

pub stage_of_plans : (plans : FanPlans) (outputs : List Bool) (x : Planned FanPlans) → IsFreshPlan FanPlansStand fan_plans_look plans outputs x →
    (s : Strand) → s.ports.has_output ≡ outputs → ArePlansOf s plans → PlannedStands FanPlansStand fan_plans_look x s []
stage_of_plans plans outputs x fresh s outputs_are are = fresh s are.plan (record {
  row_is = are.row_is;
  keeps_nothing = are.keeps_nothing;
  outputs_are = sym outputs_are;
  looks_are = are.looks_are;
  begins = are.begins;
})

-- the pairs are the strand's, where they are those that the stage table says of its kind
pub pairs_of : (s : Strand) (kind : Kind) → s.kind ≡ kind → (streams : List Bool → Stream) → (line_of kind).shape ≡ Lists WritesFirst streams → ((outputs : List Bool) → streams outputs ≡ of_each (streams outputs).outs) →
    (x : FanEach) → fan_each_look x ≡ (line_of kind).looks → (outputs : List Bool) → outputs ≡ s.ports.has_output → FanEachStand x (streams outputs).outs [] [] → ArePairsOf s x
pairs_of s kind is streams shape_is each x looks outputs outputs_are begins = record {
  streams = streams;
  shape_is = ap (λ k. (line_of k).shape) is ∙ shape_is;
  outs = (streams s.ports.has_output).outs;
  pairs = each s.ports.has_output;
  looks_are = looks ∙ sym (ap (λ k. (line_of k).looks) is);
  begins = subst (λ o. FanEachStand x (streams o).outs [] []) outputs_are begins;
}
