use Rattle.std.proofs.Common.{◌≡◌, Bool, List, [], sym, ap, ◌∙◌}
use Rattle.pipe_model.specs.declared.kind.Kind.{Kind}
use Rattle.pipe_model.specs.declared.kind.Kind.TheVariants as Kinds
use Rattle.pipe_model.specs.declared.net.Strand.{Strand}
use Rattle.pipe_model.specs.declared.range.Range.{Range}
use Rattle.pipe_model.specs.Form.{keeping_by}
use Rattle.pipe_model.specs.Next.{nothing_known}
use Rattle.pipe_model.specs.Shape.{row_of}
use Rattle.pipe_model.specs.Table.{line_of}
use Rattle.stage_steps.specs.declared.planned.Planned.{Planned}
use Rattle.stage_steps.specs.Planned.{IsFreshPlan, PlannedStands}
use Rattle.lookup_stage.specs.declared.lookup.Lookup.{Lookup}
use Rattle.lookup_stage.specs.Lookup.{lookup_plan, lookup_looks, LookupIs}
use Rattle.lookup_stage.proofs.stage.LookupStage.of.Goals as goal

-- a fresh driver of LOOKUP's plans is the stage of each strand of the kind
of_plans : (kind : Kind) (of_detail of_master : Range) (plans : Lookup) (outputs : List Bool) (x : Planned Lookup) → kind ≡ Kinds.Lookup of_detail of_master →
    LookupIs plans (lookup_plan of_detail of_master) nothing_known (lookup_plan of_detail of_master nothing_known) → IsFreshPlan LookupIs lookup_looks plans outputs x →
    (s : Strand) → s.kind ≡ kind → s.ports.has_output ≡ outputs → PlannedStands LookupIs lookup_looks x s []
of_plans kind of_detail of_master plans outputs x is begins fresh s kind_is outputs_are = fresh s (lookup_plan of_detail of_master) (record {
  row_is = ap (λ k. row_of s (line_of k).shape) (kind_is ∙ is);
  keeps_nothing = ap (λ k. keeping_by (line_of k).shape) (kind_is ∙ is);
  outputs_are = sym outputs_are;
  looks_are = sym (ap (λ k. (line_of k).looks) (kind_is ∙ is));
  begins = begins;
})

pub returns : goal.returns
returns c = of_plans c.args.kind.now c.in-Lookup.details c.in-Lookup.masters c.new-plans.result c.args.outputs.now c.in_ok-new-in-Lookup.field-0 c.in-Lookup.is c.new-plans.ensures c.in_ok-new-in-Lookup.ensures
