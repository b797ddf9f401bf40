use Rattle.std.proofs.Common.{refl, sym, ◌∙◌, ap}
use Rattle.std.proofs.lemmas.Result.{IfOk-weaker}
use Rattle.pipe_model.specs.declared.kind.Kind.TheVariants as Kinds
use Rattle.pipe_model.specs.FanRows.{fanning, dealing, fanning_in}
use Rattle.pipe_model.specs.Form.{keeping_by}
use Rattle.pipe_model.specs.Row.{Known}
use Rattle.pipe_model.specs.Shape.{row, row_of, turn_plan}
use Rattle.pipe_model.specs.Table.{line_of}
use Rattle.fan_stages.specs.declared.fan_each.FanEach.TheVariants.{FanOut, Deal}
use Rattle.fan_stages.proofs.Fitting.{pairs_of}
use Rattle.fan_stages.proofs.fan.FanStage.new.Goals as goal

pub returns-in_ok-new-in-FanOut : goal.returns-in_ok-new-in-FanOut
returns-in_ok-new-in-FanOut c =
    let s = c.args.strand.now in
    let it = c.in_ok-new-in-FanOut in
    let outputs = c.as_slice-outputs in
    IfOk-weaker c.of_pairs.result _ _
    (λ stage of. of s (sym outputs.ensures) (pairs_of s Kinds.FanOut c.in-FanOut.is fanning refl (λ o. refl) (FanOut it.field-0) refl outputs.result.now outputs.ensures it.ensures)) c.of_pairs.ensures

pub returns-in_ok-new-in-Deal : goal.returns-in_ok-new-in-Deal
returns-in_ok-new-in-Deal c =
    let s = c.args.strand.now in
    let it = c.in_ok-new-in-Deal in
    let outputs = c.as_slice-outputs in
    IfOk-weaker c.of_pairs-in-Deal.result _ _
    (λ stage of. of s (sym outputs.ensures) (pairs_of s Kinds.Deal c.in-Deal.is dealing refl (λ o. refl) (Deal it.field-0) refl outputs.result.now outputs.ensures it.ensures)) c.of_pairs-in-Deal.ensures

pub returns-in-FanIn : goal.returns-in-FanIn
returns-in-FanIn c =
    let s = c.args.strand.now in
    let inputs = c.inputs_of-inputs in
    IfOk-weaker c.of_plans.result _ _
    (λ stage of. of s (sym c.as_slice-outputs.ensures) (record {
      plan = λ (k : Known). turn_plan inputs.result fanning_in k k.told;
      row_is = ap (λ kind. row_of s (line_of kind).shape) c.in-FanIn.is ∙ ap (λ n. row (λ (k : Known). turn_plan n fanning_in k k.told)) (sym inputs.ensures);
      keeps_nothing = ap (λ kind. keeping_by (line_of kind).shape) c.in-FanIn.is;
      looks_are = sym (ap (λ kind. (line_of kind).looks) c.in-FanIn.is);
      begins = c.new-in-FanIn.ensures;
    })) c.of_plans.ensures
