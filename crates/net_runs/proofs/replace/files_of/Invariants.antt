use Rattle.std.proofs.Common.{◌≡◌, ◌≤◌, length, map}
use Rattle.std.specs.List.{All}
use Rattle.core_machine.specs.Machine.{state_of}
use Rattle.pipe_model.specs.Reply.{files_from}
use Rattle.call_meaning.specs.Effects.{in_order, in_order_after}
use Rattle.net_runs.specs.Puts.{IsPut, put_text}
use Rattle.net_runs.proofs.Puts.{files_left}
use Rattle.net_runs.proofs.replace.files_of.Given as goal

abbrev pub invariant-loop-strand : goal.invariant-loop-strand
invariant-loop-strand g l = record {
  within : l.strand ≤ length l.core.net.strands;
  end : l.strand-end ≡ length l.core.net.strands;
  each : All (IsPut l.core) l.puts.items;
  texts : in_order_after (map (put_text l.core) l.puts.items) (files_left l.core l.strand) ≡ in_order (files_from (state_of l.core) 0 l.core.net.strands);
}
