use Rattle.stage_steps.proofs.HandingOn.{handed_on}
use Rattle.stage_steps.specs.Drivers.{ListedStands}
use Rattle.stage_steps.specs.Each.{EachStand, each_look}
use Rattle.stage_steps.specs.SharedLists.{LinesStand, lines_look, CopiesStand, copies_look}
use Rattle.device_stages.specs.declared.device.DeviceStage.TheVariants as Stages
use Rattle.device_stages.specs.DeviceLists.{LiteralsStand, literals_look, HolesStand, holes_look}
use Rattle.device_stages.specs.Device.{DeviceStands}
use Rattle.device_stages.proofs.device.DeviceStageStage.see.Goals as goal

pub returns-in-Source : goal.returns-in-Source
returns-in-Source c =
    handed_on (ListedStands LinesStand lines_look) Stages.Source DeviceStands (λ x s h is. is) (λ x s h is. is) c.args.self.now c.in-Source.stage c.see.new.self c.args.bytes.now c.see.new.asked c.see.result c.in-Source.is c.see.ensures

pub returns-in-Sink : goal.returns-in-Sink
returns-in-Sink c =
    handed_on (ListedStands (EachStand CopiesStand) (each_look copies_look)) Stages.Sink DeviceStands (λ x s h is. is) (λ x s h is. is) c.args.self.now c.in-Sink.stage c.see-in-Sink.new.self c.args.bytes.now c.see-in-Sink.new.asked c.see-in-Sink.result c.in-Sink.is c.see-in-Sink.ensures

pub returns-in-Literal : goal.returns-in-Literal
returns-in-Literal c =
    handed_on (ListedStands LiteralsStand literals_look) Stages.Literal DeviceStands (λ x s h is. is) (λ x s h is. is) c.args.self.now c.in-Literal.stage c.see-in-Literal.new.self c.args.bytes.now c.see-in-Literal.new.asked c.see-in-Literal.result c.in-Literal.is c.see-in-Literal.ensures

pub returns-in-Hole : goal.returns-in-Hole
returns-in-Hole c =
    handed_on (ListedStands (EachStand HolesStand) (each_look holes_look)) Stages.Hole DeviceStands (λ x s h is. is) (λ x s h is. is) c.args.self.now c.in-Hole.stage c.see-in-Hole.new.self c.args.bytes.now c.see-in-Hole.new.asked c.see-in-Hole.result c.in-Hole.is c.see-in-Hole.ensures
