-- The kinds of devices, and what their stages stand for.
use Rattle.std.specs.Prelude.{ℕ, Bool, true, false, List, []}
use Rattle.pipe_model.specs.declared.net.Strand.{Strand}
use Rattle.pipe_model.specs.declared.kind.Kind.{Kind}
use Rattle.pipe_model.specs.declared.kind.Kind.TheVariants.{ConsoleIn, ConsoleOut, FileIn, FileOut, Literal, Hole}
use Rattle.pipe_model.specs.Event.{Event}
use Rattle.stage_steps.specs.Drivers.{ListedStands}
use Rattle.stage_steps.specs.Each.{EachStand, each_look}
use Rattle.stage_steps.specs.SharedLists.{LinesStand, lines_look, line_given, lines_left, CopiesStand, copies_look}
use Rattle.device_stages.specs.declared.device.DeviceStage.{DeviceStage}
use Rattle.device_stages.specs.declared.device.DeviceStage.TheVariants as Stages
use Rattle.device_stages.specs.Absent.{AbsentStands}
use Rattle.device_stages.specs.DeviceLists.{LiteralsStand, literals_look, HolesStand, holes_look}

-- there is a device of the kind
abbrev pub is_device : Kind → Bool
is_device (ConsoleIn bytes) = true
is_device ConsoleOut = true
is_device (FileIn name bytes) = true
is_device (FileOut name) = true
is_device (Literal text) = true
is_device Hole = true
is_device _ = false

-- the stage stands for this history of this strand
abbrev pub DeviceStands : DeviceStage → Strand → List Event → Type 0
DeviceStands (Stages.Source x) s h = ListedStands LinesStand lines_look x s h
DeviceStands (Stages.Absent x) s h = AbsentStands x s h
DeviceStands (Stages.Sink x) s h = ListedStands (EachStand CopiesStand) (each_look copies_look) x s h
DeviceStands (Stages.Literal x) s h = ListedStands LiteralsStand literals_look x s h
DeviceStands (Stages.Hole x) s h = ListedStands (EachStand HolesStand) (each_look holes_look) x s h

-- the bytes of the record that it showed last: a source shows lines
abbrev pub device_showing : DeviceStage → List ℕ
device_showing (Stages.Source x) = line_given x.lists
device_showing _ = []

-- the text that it shows line by line
abbrev pub device_ahead : DeviceStage → List ℕ
device_ahead (Stages.Source x) = lines_left x.lists
device_ahead _ = []
