use Rattle.std.proofs.Common.{◌+◌, ◌*◌, ◌-◌, length}
use Rattle.core_machine.specs.Ahead.{IsAhead}
use Rattle.core_machine.specs.Runs.{is_made}
use Rattle.core_machine.proofs.Runs.{IsUnderWay, searches}
use Rattle.core_machine.proofs.core_state.Core.run.Given as goal

abbrev pub invariant-loop-ahead : goal.invariant-loop-ahead
invariant-loop-ahead g l = IsUnderWay (is_made l.which) l.initial.self l.limit l.self × IsAhead l.self l.ahead

-- the search only finds the event
abbrev pub decreases-loop-ahead : goal.decreases-loop-ahead
decreases-loop-ahead g l = 2 * (l.limit - length l.self.journal) + searches l.ahead
