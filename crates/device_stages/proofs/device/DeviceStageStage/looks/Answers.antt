use Rattle.std.proofs.Common.{subst}
use Rattle.device_stages.specs.Device.{DeviceStands}
use Rattle.device_stages.proofs.device.DeviceStageStage.looks.Goals as goal

pub returns-in-Absent : goal.returns-in-Absent
returns-in-Absent c s h stood = c.looks-in-Absent.ensures s h (subst (λ x. DeviceStands x s h) c.in-Absent.is stood)
