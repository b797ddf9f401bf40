use Rattle.std.proofs.Common.{◌≡◌, ◌++◌, List, ℕ}
use Rattle.std.specs.List.{All, AllZip}
use Rattle.pipe_model.specs.Records.{lines}
use Rattle.call_meaning.specs.Calls.{IsSetOf, IsSoundSet}
use Rattle.call_meaning.proofs.nets.sets_of.Given as goal

abbrev pub invariant-loop-spec : goal.invariant-loop-spec
invariant-loop-spec l = record {
  sets : (done : List (List ℕ)) × (done ++ l.spec-iterator ≡ lines l.text) × AllZip IsSetOf done l.sets.items;
  whole : All IsSoundSet l.sets.items;
}
