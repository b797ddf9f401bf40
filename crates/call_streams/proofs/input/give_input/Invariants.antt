use Rattle.std.proofs.Common.{◌≡◌, ◌≤◌, length}
use Rattle.pipe_model.specs.WellFormed.{IsWellFormed}
use Rattle.net_graph.specs.Fed.{input_kind}
use Rattle.call_streams.proofs.Feds.{net_with}
use Rattle.call_streams.proofs.input.give_input.Given as goal

abbrev pub invariant-loop-strand : goal.invariant-loop-strand
invariant-loop-strand l = record {
  within : l.strand ≤ length l.fn.net.strands;
  end : l.strand-end ≡ length l.fn.net.strands;
  fed : l.net ≡ net_with (input_kind l.input) l.strand l.fn.net;
  whole : IsWellFormed l.net;
}
