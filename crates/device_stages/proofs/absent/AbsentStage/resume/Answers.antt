use Rattle.device_stages.proofs.Absences.{ends}
use Rattle.device_stages.proofs.absent.AbsentStage.resume.Goals as goal

pub returns : goal.returns
returns c s h e told = (told.stood, ends s told.stood.0 told.stood.1 h e told.answer, tt)
