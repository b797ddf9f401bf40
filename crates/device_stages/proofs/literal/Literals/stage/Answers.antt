use Rattle.std.proofs.Common.{refl, sym, ap, false}
use Rattle.std.proofs.lemmas.Result.{IfOk-weaker}
use Rattle.pipe_model.specs.declared.kind.Kind.TheVariants.{Literal}
use Rattle.pipe_model.specs.DeviceRows.{literal}
use Rattle.stage_steps.proofs.Fitting.{stage_of}
use Rattle.device_stages.specs.DeviceLists.{LiteralsStand, literals_look}
use Rattle.device_stages.proofs.literal.Literals.stage.Goals as goal

pub returns : goal.returns
returns c =
    let text = c.args.text.now in
    IfOk-weaker c.new.result _ _ (λ x fresh. stage_of LiteralsStand literals_look (Literal text) (λ outputs. literal text) _ _ c.args.outputs.now false x fresh
    (λ s. refl) refl (λ keeps. keeps) (ap literal (sym c.in_ok-copy.ensures), refl, tt)) c.new.ensures
