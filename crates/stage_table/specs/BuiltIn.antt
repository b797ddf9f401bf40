-- What the built-in stages stand for.
use Rattle.std.specs.Prelude.{◌≤◌, ℕ, List, [], length}
use Rattle.pipe_model.specs.declared.net.Strand.{Strand}
use Rattle.pipe_model.specs.Event.{Event}
use Rattle.device_stages.specs.Device.{DeviceStands, device_showing, device_ahead}
use Rattle.select_stages.specs.Select.{SelectStands}
use Rattle.edit_stages.specs.Edit.{EditStands}
use Rattle.unique_sort.specs.OrderStage.{UniqueStands}
use Rattle.block_stages.specs.Block.{BlockStands}
use Rattle.specs_stage.specs.SpecsStage.{SpecsStageStands}
use Rattle.gate_elastic.specs.Gate.{GateStands}
use Rattle.fan_stages.specs.Fan.{FanStands}
use Rattle.lookup_stage.specs.LookupStage.{LookupStands}
use Rattle.collate_stage.specs.Stage.{CollateStands}
use Rattle.stage_table.specs.declared.built_in.BuiltIn.{BuiltIn}
use Rattle.stage_table.specs.declared.built_in.BuiltIn.TheVariants.{Device, Select, Edit, Order, Block, Specs, Gate, Fan, Lookup, Collate}

-- so many inputs and outputs at most as a stage of a net may have
pub record HasFewPlaces (s : Strand) : Type 0 where
  pub inputs : length s.ports.has_input ≤ 64
  pub outputs : length s.ports.has_output ≤ 64

-- the stage stands for this history of this strand
abbrev pub BuiltInStands : BuiltIn → Strand → List Event → Type 0
BuiltInStands (Device x) s h = DeviceStands x.value s h
BuiltInStands (Select x) s h = SelectStands x.value s h
BuiltInStands (Edit x) s h = EditStands x.value s h
BuiltInStands (Order x) s h = UniqueStands x.value s h
BuiltInStands (Block x) s h = BlockStands x.value s h
BuiltInStands (Specs x) s h = SpecsStageStands x.value s h
BuiltInStands (Gate x) s h = GateStands x.value s h
BuiltInStands (Fan x) s h = FanStands x.value s h
BuiltInStands (Lookup x) s h = LookupStands x.value s h
BuiltInStands (Collate x) s h = CollateStands x.value s h

-- the bytes of the record that it showed last
abbrev pub built_in_showing : BuiltIn → List ℕ
built_in_showing (Device x) = device_showing x.value
built_in_showing _ = []

-- the text that it shows line by line
abbrev pub built_in_ahead : BuiltIn → List ℕ
built_in_ahead (Device x) = device_ahead x.value
built_in_ahead _ = []
