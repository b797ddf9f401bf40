use Rattle.std.proofs.Common.{◌≡◌, [], drop}
use Rattle.pipe_model.specs.SpecsRows.{run}
use Rattle.specs_stage.specs.Desks.{desk_of}
use Rattle.specs_stage.proofs.desk.Desk.run_to_end.Given as goal

abbrev pub invariant-loop-item : goal.invariant-loop-item
invariant-loop-item l = record {
  stays : l.hand ≡ [];
  ran : run (drop l.item-index l.items) (desk_of l.self [] []) ≡ run l.items (desk_of l.fn.self [] []);
}
