-- What UNIQUE, SORT and COUNT stand for.
use Rattle.std.specs.Prelude.{Bool, true, false, List}
use Rattle.pipe_model.specs.declared.net.Strand.{Strand}
use Rattle.pipe_model.specs.declared.kind.Kind.{Kind}
use Rattle.pipe_model.specs.declared.kind.Kind.TheVariants as Kinds
use Rattle.pipe_model.specs.Event.{Event}
use Rattle.stage_steps.specs.Drivers.{ListedStands}
use Rattle.unique_sort.specs.declared.order_stage.UniqueStage.{UniqueStage}
use Rattle.unique_sort.specs.OrderLists.{OrderListsStand, order_lists_look}

-- the kind is UNIQUE, SORT or COUNT
abbrev pub is_order : Kind → Bool
is_order (Kinds.Unique count range keep) = true
is_order (Kinds.Sort keys) = true
is_order (Kinds.Count totals) = true
is_order _ = false

-- the stage stands for this history of this strand
abbrev pub UniqueStands : UniqueStage → Strand → List Event → Type 0
UniqueStands x s h = ListedStands OrderListsStand order_lists_look x.stage s h
