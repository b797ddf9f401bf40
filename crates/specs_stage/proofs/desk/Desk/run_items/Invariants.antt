use Rattle.std.proofs.Common.{◌≡◌, ◌≤◌, ◌+◌, length, drop}
use Rattle.pipe_model.specs.Shape.{Records}
use Rattle.pipe_model.specs.SpecsRows.{run}
use Rattle.specs_stage.specs.Desks.{desk_of, before_read}
use Rattle.specs_stage.proofs.desk.Desk.run_items.Given as goal

-- those done and those left are all
abbrev pub invariant-loop-item : goal.invariant-loop-item
invariant-loop-item l = record {
  stays : l.hand ≡ l.fn.hand;
  ran : (coming : Records) → run (before_read (drop l.item-index l.items)) (desk_of l.self l.fn.hand coming) ≡ run (before_read l.items) (desk_of l.fn.self l.fn.hand coming);
  few : l.count ≤ l.item-index;
  count : l.count + length (before_read (drop l.item-index l.items)) ≡ length (before_read l.items);
}
