use Rattle.std.proofs.Common.{◌≡◌, length}
use Rattle.std.specs.List.{All}
use Rattle.net_graph.specs.Fed.{with_input}
use Rattle.call_streams.specs.Feeding.{IsWholeSet, set_with}
use Rattle.call_streams.proofs.Feds.{front_with}
use Rattle.call_streams.proofs.sets.give_all_input.Given as goal

abbrev pub invariant-loop-set : goal.invariant-loop-set
invariant-loop-set l = record {
  end : l.set-index-end ≡ length l.fn.sets.items;
  fed : l.set-items ≡ front_with (set_with (with_input l.input)) l.set-index l.fn.sets.items;
  whole : All IsWholeSet l.set-items;
}
