-- The items so far have none.
use Rattle.std.proofs.Common.{◌≡◌, drop}
use Rattle.pipe_model.specs.SpecsRows.{reads}
use Rattle.braid_check.proofs.kinds.has_read.Given as goal

abbrev pub invariant-loop-item : goal.invariant-loop-item
invariant-loop-item l = reads (drop l.item-index l.items) ≡ reads l.items
