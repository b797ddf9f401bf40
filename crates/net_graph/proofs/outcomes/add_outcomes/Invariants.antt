use Rattle.std.proofs.Common.{◌++◌, List, nat_eq, drop, true}
use Rattle.std.specs.declared.result.Result.{Result}
use Rattle.pipe_model.specs.declared.kind.Kind.{Kind}
use Rattle.stage_syntax.specs.declared.fault.KindFault.{KindFault}
use Rattle.net_graph.specs.Nets.{AreOutcomes}
use Rattle.net_graph.specs.Outcomes.{AddsOutcomes}
use Rattle.net_graph.specs.Stands.{stages_of, stands_in}
use Rattle.net_graph.proofs.outcomes.add_outcomes.Given as goal

abbrev pub invariant-loop-k : goal.invariant-loop-k
invariant-loop-k l = (more : List (Result Kind KindFault)) → AreOutcomes (stages_of (stands_in (nat_eq l.k 0) (drop l.k l.pieces))) more →
    AddsOutcomes (stands_in true l.pieces) l.initial.outcomes.items (l.outcomes.items ++ more)
