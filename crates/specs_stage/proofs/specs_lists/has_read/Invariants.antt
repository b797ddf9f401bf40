use Rattle.std.proofs.Common.{◌≡◌, drop}
use Rattle.pipe_model.specs.SpecsRows.{reads}
use Rattle.specs_stage.proofs.specs_lists.has_read.Given as goal

-- the items so far have none
abbrev pub invariant-loop-item : goal.invariant-loop-item
invariant-loop-item l = reads (drop l.item-index l.items) ≡ reads l.items
