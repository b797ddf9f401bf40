-- What LOOKUP's stage stands for.
use Rattle.std.specs.Prelude.{Bool, true, false, List}
use Rattle.pipe_model.specs.declared.kind.Kind.{Kind}
use Rattle.pipe_model.specs.declared.kind.Kind.TheVariants as Kinds
use Rattle.pipe_model.specs.declared.net.Strand.{Strand}
use Rattle.pipe_model.specs.Event.{Event}
use Rattle.stage_steps.specs.Planned.{PlannedStands}
use Rattle.lookup_stage.specs.declared.stage.LookupStage.{LookupStage}
use Rattle.lookup_stage.specs.Lookup.{LookupIs, lookup_looks}

-- the kind is LOOKUP
abbrev pub is_lookup : Kind → Bool
is_lookup (Kinds.Lookup details masters) = true
is_lookup _ = false

-- the stage stands for this history of this strand
abbrev pub LookupStands : LookupStage → Strand → List Event → Type 0
LookupStands x s h = PlannedStands LookupIs lookup_looks x.stage s h
