-- What the stages of Selection stand for.
use Rattle.std.specs.Prelude.{Bool, true, false, List}
use Rattle.pipe_model.specs.declared.net.Strand.{Strand}
use Rattle.pipe_model.specs.declared.kind.Kind.{Kind}
use Rattle.pipe_model.specs.declared.kind.Kind.TheVariants as Kinds
use Rattle.pipe_model.specs.Event.{Event}
use Rattle.stage_steps.specs.Drivers.{ListedStands, IsStageOf}
use Rattle.select_stages.specs.declared.select.SelectStage.{SelectStage}
use Rattle.select_stages.specs.SelectLists.{SelectListsStand, select_lists_look}

-- the kind is one of Selection
abbrev pub is_select : Kind → Bool
is_select (Kinds.Locate range text) = true
is_select (Kinds.Nlocate range text) = true
is_select (Kinds.Find text) = true
is_select (Kinds.Nfind text) = true
is_select (Kinds.TakeFirst times) = true
is_select (Kinds.TakeLast times) = true
is_select (Kinds.DropFirst times) = true
is_select (Kinds.DropLast times) = true
is_select (Kinds.Between first second) = true
is_select (Kinds.Inside first second) = true
is_select (Kinds.ToLabel text) = true
is_select (Kinds.FrLabel text) = true
is_select _ = false

-- the stage stands for this history of this strand
abbrev pub SelectStands : SelectStage → Strand → List Event → Type 0
SelectStands x s h = ListedStands SelectListsStand select_lists_look x.stage s h

-- the stage stands for each strand of this kind with these connected outputs, before its first event
abbrev pub IsSelectOf : Kind → List Bool → SelectStage → Type 0
IsSelectOf kind outputs x = IsStageOf SelectListsStand select_lists_look kind outputs x.stage
