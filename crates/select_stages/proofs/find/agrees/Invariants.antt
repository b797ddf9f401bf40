use Rattle.std.proofs.Common.{◌≡◌, drop}
use Rattle.pipe_model.specs.SelectionRows.{agrees}
use Rattle.select_stages.proofs.find.agrees.Given as goal

abbrev pub invariant-loop-k : goal.invariant-loop-k
invariant-loop-k l = agrees (drop l.k l.text) (drop l.k l.rec) ≡ agrees l.text l.rec
