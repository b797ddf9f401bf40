use Rattle.std.proofs.Common.{◌≡◌, false, drop}
use Rattle.pipe_model.specs.SpecsRows.{has_unwritten}
use Rattle.specs_stage.proofs.desk.has_unwritten.Given as goal

abbrev pub invariant-loop-item : goal.invariant-loop-item
invariant-loop-item l = has_unwritten l.is_unwritten (drop l.item-index l.items) ≡ has_unwritten false l.items
