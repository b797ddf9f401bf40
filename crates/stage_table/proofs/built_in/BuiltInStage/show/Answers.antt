use Rattle.std.proofs.Common.{◌∙◌, refl, sym, ap}
use Rattle.std.specs.Box.{with_value}
use Rattle.stage_steps.proofs.HandingOn.{shows_held, cuts_held}
use Rattle.device_stages.specs.Device.{DeviceStands, device_showing, device_ahead}
use Rattle.stage_table.specs.declared.built_in.BuiltIn.TheVariants as Stages
use Rattle.stage_table.specs.BuiltIn.{BuiltInStands, built_in_showing, built_in_ahead}
use Rattle.stage_table.proofs.built_in.BuiltInStage.show.Goals as goal

pub returns-in-Device-clause-shows : goal.returns-in-Device-clause-shows
returns-in-Device-clause-shows c =
    shows_held DeviceStands (λ x. Stages.Device (with_value c.in-Device.stage x)) BuiltInStands (λ x s h is. is) (λ x s h is. is) device_showing built_in_showing (λ x. refl) c.args.self.now c.deref_mut.result.now c.show.new.self c.args.o c.show.result
    (c.in-Device.is ∙ ap (λ x. Stages.Device (with_value c.in-Device.stage x)) (sym c.deref_mut.ensures.value)) c.show.ensures.shows

pub returns-in-Device-clause-cuts : goal.returns-in-Device-clause-cuts
returns-in-Device-clause-cuts c =
    cuts_held (λ x. Stages.Device (with_value c.in-Device.stage x)) device_ahead device_showing built_in_ahead built_in_showing (λ x. refl) (λ x. refl) c.args.self.now c.deref_mut.result.now c.show.new.self c.show.result
    (c.in-Device.is ∙ ap (λ x. Stages.Device (with_value c.in-Device.stage x)) (sym c.deref_mut.ensures.value)) c.show.ensures.cuts
