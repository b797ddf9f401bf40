use Rattle.std.proofs.Common.{◌≡◌, subst, Some, IfSome, MatchOption}
use Rattle.core_machine.specs.Answered.{HasRun, HasBrokenLeast}
use Rattle.workers.specs.Driven.{HasAdvanced}
use Rattle.net_runs.proofs.CoreRuns.{runs_to}
use Rattle.net_runs.proofs.net_run.run_net.Goals as goal

pub returns-clause-run : goal.returns-clause-run
returns-clause-run g c =
    let first = c.in_ok-core.core in
    let core = c.drive_kept-core.result.0 in
    let did = c.drive_kept-core.ensures in
    let some : c.drive_kept-core.result.1 ≡ Some c.in-Some.end = c.in-Some.is in
    let advances : HasAdvanced first core = subst (λ e. IfSome e (λ _. HasAdvanced first core)) some did.advances in
    let alone : c.args.workers ≡ 1 → HasRun first core = λ one. subst (λ e. MatchOption e (HasBrokenLeast first core) (λ _. HasRun first core)) some (did.alone one) in
    runs_to c.args.net c.args.steps c.args.workers first core c.in_ok-core.ensures advances did.lawful alone c.ran_to.result c.ran_to.ensures.core c.ran_to.ensures.ends
