-- A fresh driver of plans is the stage of each strand whose row has them.
use Rattle.std.proofs.Common.{◌≡◌, Bool, false, List, [], sym, ◌∙◌, ap}
use Rattle.pipe_model.specs.declared.kind.Kind.{Kind}
use Rattle.pipe_model.specs.declared.net.Strand.{Strand}
use Rattle.pipe_model.specs.Form.{keeping_by}
use Rattle.pipe_model.specs.Next.{nothing_known}
use Rattle.pipe_model.specs.Row.{Plan, Known}
use Rattle.pipe_model.specs.Shape.{row, row_of}
use Rattle.pipe_model.specs.Shape.Keeping.{Nothing}
use Rattle.pipe_model.specs.Table.{line_of}
use Rattle.stage_steps.specs.declared.planned.Planned.{Planned}
use Rattle.stage_steps.specs.Planned.{IsFreshPlan, PlannedStands}

-- where they don't look at records
pub of_plans : {P : Type 0} (stands : P → (Known → Plan) → Known → Plan → Type 0) (plan : Known → Plan) (kind : Kind) → keeping_by (line_of kind).shape ≡ Nothing → (line_of kind).looks ≡ false →
    (plans : P) (outputs : List Bool) (x : Planned P) → stands plans plan nothing_known (plan nothing_known) → IsFreshPlan stands (λ _. false) plans outputs x →
    (s : Strand) → s.kind ≡ kind → row_of s (line_of kind).shape ≡ row plan → s.ports.has_output ≡ outputs → PlannedStands stands (λ _. false) x s []
of_plans stands plan kind keeps_nothing looks plans outputs x begins fresh s kind_is row_is outputs_are = fresh s plan (record {
  row_is = ap (λ k. row_of s (line_of k).shape) kind_is ∙ row_is;
  keeps_nothing = ap (λ k. keeping_by (line_of k).shape) kind_is ∙ keeps_nothing;
  outputs_are = sym outputs_are;
  looks_are = sym (ap (λ k. (line_of k).looks) kind_is ∙ looks);
  begins = begins;
})
