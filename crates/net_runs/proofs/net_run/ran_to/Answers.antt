use Rattle.std.proofs.Common.{sym, ◌∙◌, subst}
use Rattle.core_machine.specs.Answered.{Ends}
use Rattle.call_meaning.specs.declared.status.Outcome.{Outcome}
use Rattle.net_runs.specs.Ran.{EndsAs}
use Rattle.net_runs.specs.Ran.EndsAs.{completes}
use Rattle.net_runs.proofs.CoreRuns.{core_spent}
use Rattle.net_runs.proofs.net_run.ran_to.Goals as goal
use Rattle.net_runs.proofs.net_run.ran_to.Goals.{in-Complete+in_ok-outcome-in-Complete, in-Spent}

pub returns-clause-ends : goal.returns-clause-ends
returns-clause-ends g c =
    let core = c.args.core in
    elim c.match-end.branch [
      | in-Complete+in_ok-outcome-in-Complete w ↦
          completes (subst (λ end. Ends end core) w.in-Complete.is c.requires.ends) (w.outcome-is ∙ w.in_ok-outcome-in-Complete.ensures)
      | in-Spent w ↦
          subst (λ (o : Outcome). EndsAs c.args.steps core o) (sym w.outcome-is)
          (core_spent c.args.steps core c.requires.home c.requires.budget (subst (λ end. Ends end core) w.in-Spent.is c.requires.ends))
    ]
