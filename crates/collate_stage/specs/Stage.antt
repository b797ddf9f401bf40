-- What the stage of COLLATE and MERGE stands for.
use Rattle.std.specs.Prelude.{List}
use Rattle.pipe_model.specs.declared.net.Strand.{Strand}
use Rattle.pipe_model.specs.Event.{Event}
use Rattle.stage_steps.specs.Planned.{PlannedStands}
use Rattle.collate_stage.specs.declared.stage.CollateStage.{CollateStage}
use Rattle.collate_stage.specs.Plans.{CollatingStands, collating_looks}

-- the stage stands for this history of this strand
abbrev pub CollateStands : CollateStage → Strand → List Event → Type 0
CollateStands x s h = PlannedStands CollatingStands collating_looks x.stage s h
