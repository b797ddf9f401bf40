use Rattle.std.proofs.Common.{◌++◌, List, drop}
use Rattle.std.specs.declared.result.Result.{Result}
use Rattle.pipe_model.specs.declared.kind.Kind.{Kind}
use Rattle.stage_syntax.specs.declared.fault.KindFault.{KindFault}
use Rattle.net_graph.specs.Nets.{AreOutcomes}
use Rattle.net_graph.specs.Stands.{stages_of, stands_of}
use Rattle.net_graph.proofs.outcomes.outcomes_of.Given as goal

abbrev pub invariant-loop-pieces : goal.invariant-loop-pieces
invariant-loop-pieces l = (more : List (Result Kind KindFault)) → AreOutcomes (stages_of (stands_of (drop l.pieces-index l.pipelines))) more →
    AreOutcomes (stages_of (stands_of l.pipelines)) (l.outcomes.items ++ more)
