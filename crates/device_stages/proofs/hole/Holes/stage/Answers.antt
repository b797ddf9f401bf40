use Rattle.std.proofs.Common.{refl, false}
use Rattle.std.proofs.lemmas.Result.{IfOk-weaker}
use Rattle.pipe_model.specs.declared.kind.Kind.TheVariants.{Hole}
use Rattle.pipe_model.specs.DeviceRows.{hole}
use Rattle.stage_steps.specs.Each.{EachStand, each_look}
use Rattle.stage_steps.proofs.Fitting.{stage_of}
use Rattle.device_stages.specs.DeviceLists.{HolesStand, holes_look}
use Rattle.device_stages.proofs.hole.Holes.stage.Goals as goal

pub returns : goal.returns
returns c = IfOk-weaker c.new.result _ _ (λ x fresh. stage_of (EachStand HolesStand) (each_look holes_look) Hole (λ outputs. hole) _ _ c.args.outputs.now false x fresh (λ s. refl) refl (λ keeps. keeps) (hole.outs, refl, (refl, refl))) c.new.ensures
