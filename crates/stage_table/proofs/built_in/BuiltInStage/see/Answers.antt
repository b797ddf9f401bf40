use Rattle.std.proofs.Common.{◌∙◌, sym, ap}
use Rattle.std.specs.Box.{with_value}
use Rattle.stage_steps.proofs.HandingOn.{handed_on}
use Rattle.device_stages.specs.Device.{DeviceStands}
use Rattle.select_stages.specs.Select.{SelectStands}
use Rattle.edit_stages.specs.Edit.{EditStands}
use Rattle.unique_sort.specs.OrderStage.{UniqueStands}
use Rattle.block_stages.specs.Block.{BlockStands}
use Rattle.specs_stage.specs.SpecsStage.{SpecsStageStands}
use Rattle.gate_elastic.specs.Gate.{GateStands}
use Rattle.fan_stages.specs.Fan.{FanStands}
use Rattle.lookup_stage.specs.LookupStage.{LookupStands}
use Rattle.collate_stage.specs.Stage.{CollateStands}
use Rattle.stage_table.specs.declared.built_in.BuiltIn.TheVariants as Stages
use Rattle.stage_table.specs.BuiltIn.{BuiltInStands}
use Rattle.stage_table.proofs.built_in.BuiltInStage.see.Goals as goal

pub returns-in-Device : goal.returns-in-Device
returns-in-Device c =
    handed_on DeviceStands (λ x. Stages.Device (with_value c.in-Device.stage x)) BuiltInStands (λ x s h is. is) (λ x s h is. is) c.args.self.now c.deref_mut.result.now c.see.new.self c.args.bytes.now c.see.new.asked c.see.result
    (c.in-Device.is ∙ ap (λ x. Stages.Device (with_value c.in-Device.stage x)) (sym c.deref_mut.ensures.value)) c.see.ensures

pub returns-in-Select : goal.returns-in-Select
returns-in-Select c =
    handed_on SelectStands (λ x. Stages.Select (with_value c.in-Select.stage x)) BuiltInStands (λ x s h is. is) (λ x s h is. is) c.args.self.now c.deref_mut-in-Select.result.now c.see-in-Select.new.self c.args.bytes.now c.see-in-Select.new.asked c.see-in-Select.result
    (c.in-Select.is ∙ ap (λ x. Stages.Select (with_value c.in-Select.stage x)) (sym c.deref_mut-in-Select.ensures.value)) c.see-in-Select.ensures

pub returns-in-Edit : goal.returns-in-Edit
returns-in-Edit c =
    handed_on EditStands (λ x. Stages.Edit (with_value c.in-Edit.stage x)) BuiltInStands (λ x s h is. is) (λ x s h is. is) c.args.self.now c.deref_mut-in-Edit.result.now c.see-in-Edit.new.self c.args.bytes.now c.see-in-Edit.new.asked c.see-in-Edit.result
    (c.in-Edit.is ∙ ap (λ x. Stages.Edit (with_value c.in-Edit.stage x)) (sym c.deref_mut-in-Edit.ensures.value)) c.see-in-Edit.ensures

pub returns-in-Order : goal.returns-in-Order
returns-in-Order c =
    handed_on UniqueStands (λ x. Stages.Order (with_value c.in-Order.stage x)) BuiltInStands (λ x s h is. is) (λ x s h is. is) c.args.self.now c.deref_mut-in-Order.result.now c.see-in-Order.new.self c.args.bytes.now c.see-in-Order.new.asked c.see-in-Order.result
    (c.in-Order.is ∙ ap (λ x. Stages.Order (with_value c.in-Order.stage x)) (sym c.deref_mut-in-Order.ensures.value)) c.see-in-Order.ensures

pub returns-in-Block : goal.returns-in-Block
returns-in-Block c =
    handed_on BlockStands (λ x. Stages.Block (with_value c.in-Block.stage x)) BuiltInStands (λ x s h is. is) (λ x s h is. is) c.args.self.now c.deref_mut-in-Block.result.now c.see-in-Block.new.self c.args.bytes.now c.see-in-Block.new.asked c.see-in-Block.result
    (c.in-Block.is ∙ ap (λ x. Stages.Block (with_value c.in-Block.stage x)) (sym c.deref_mut-in-Block.ensures.value)) c.see-in-Block.ensures

pub returns-in-Specs : goal.returns-in-Specs
returns-in-Specs c =
    handed_on SpecsStageStands (λ x. Stages.Specs (with_value c.in-Specs.stage x)) BuiltInStands (λ x s h is. is) (λ x s h is. is) c.args.self.now c.deref_mut-in-Specs.result.now c.see-in-Specs.new.self c.args.bytes.now c.see-in-Specs.new.asked c.see-in-Specs.result
    (c.in-Specs.is ∙ ap (λ x. Stages.Specs (with_value c.in-Specs.stage x)) (sym c.deref_mut-in-Specs.ensures.value)) c.see-in-Specs.ensures

pub returns-in-Gate : goal.returns-in-Gate
returns-in-Gate c =
    handed_on GateStands (λ x. Stages.Gate (with_value c.in-Gate.stage x)) BuiltInStands (λ x s h is. is) (λ x s h is. is) c.args.self.now c.deref_mut-in-Gate.result.now c.see-in-Gate.new.self c.args.bytes.now c.see-in-Gate.new.asked c.see-in-Gate.result
    (c.in-Gate.is ∙ ap (λ x. Stages.Gate (with_value c.in-Gate.stage x)) (sym c.deref_mut-in-Gate.ensures.value)) c.see-in-Gate.ensures

pub returns-in-Fan : goal.returns-in-Fan
returns-in-Fan c =
    handed_on FanStands (λ x. Stages.Fan (with_value c.in-Fan.stage x)) BuiltInStands (λ x s h is. is) (λ x s h is. is) c.args.self.now c.deref_mut-in-Fan.result.now c.see-in-Fan.new.self c.args.bytes.now c.see-in-Fan.new.asked c.see-in-Fan.result
    (c.in-Fan.is ∙ ap (λ x. Stages.Fan (with_value c.in-Fan.stage x)) (sym c.deref_mut-in-Fan.ensures.value)) c.see-in-Fan.ensures

pub returns-in-Lookup : goal.returns-in-Lookup
returns-in-Lookup c =
    handed_on LookupStands (λ x. Stages.Lookup (with_value c.in-Lookup.stage x)) BuiltInStands (λ x s h is. is) (λ x s h is. is) c.args.self.now c.deref_mut-in-Lookup.result.now c.see-in-Lookup.new.self c.args.bytes.now c.see-in-Lookup.new.asked c.see-in-Lookup.result
    (c.in-Lookup.is ∙ ap (λ x. Stages.Lookup (with_value c.in-Lookup.stage x)) (sym c.deref_mut-in-Lookup.ensures.value)) c.see-in-Lookup.ensures

pub returns-in-Collate : goal.returns-in-Collate
returns-in-Collate c =
    handed_on CollateStands (λ x. Stages.Collate (with_value c.in-Collate.stage x)) BuiltInStands (λ x s h is. is) (λ x s h is. is) c.args.self.now c.deref_mut-in-Collate.result.now c.see-in-Collate.new.self c.args.bytes.now c.see-in-Collate.new.asked c.see-in-Collate.result
    (c.in-Collate.is ∙ ap (λ x. Stages.Collate (with_value c.in-Collate.stage x)) (sym c.deref_mut-in-Collate.ensures.value)) c.see-in-Collate.ensures
