use Rattle.std.proofs.Common.{take}
use Rattle.stage_syntax.specs.ItemForms.{draft_of}
use Rattle.stage_syntax.specs.ItemLists.{IsDraft}
use Rattle.stage_syntax.proofs.item_lists.of_specs.Given as goal

abbrev pub invariant-loop-value : goal.invariant-loop-value
invariant-loop-value l = IsDraft l.lists (draft_of (take l.value-index l.values))
