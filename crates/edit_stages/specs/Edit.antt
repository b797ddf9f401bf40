-- What the stages of Editing stand for.
use Rattle.std.specs.Prelude.{Bool, true, false, List}
use Rattle.pipe_model.specs.declared.net.Strand.{Strand}
use Rattle.pipe_model.specs.declared.kind.Kind.{Kind}
use Rattle.pipe_model.specs.declared.kind.Kind.TheVariants as Kinds
use Rattle.pipe_model.specs.Event.{Event}
use Rattle.stage_steps.specs.Drivers.{ListedStands}
use Rattle.edit_stages.specs.declared.edit.EditStage.{EditStage}
use Rattle.edit_stages.specs.AnyLists.{AnyListsStand, any_look}

-- the kind is one of Editing
abbrev pub is_edit : Kind → Bool
is_edit (Kinds.Change range sought put times) = true
is_edit (Kinds.Strip leading trailing set) = true
is_edit (Kinds.Chop n) = true
is_edit (Kinds.Pad left width fill) = true
is_edit (Kinds.Split set) = true
is_edit (Kinds.Join more between) = true
is_edit (Kinds.Xlate mapping) = true
is_edit Kinds.Reverse = true
is_edit (Kinds.Duplicate copies) = true
is_edit _ = false

-- the stage stands for this history of this strand
abbrev pub EditStands : EditStage → Strand → List Event → Type 0
EditStands x s h = ListedStands AnyListsStand any_look x.stage s h
