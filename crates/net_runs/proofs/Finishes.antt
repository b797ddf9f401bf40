-- What a run of a net means, from what its core did.
use Rattle.std.proofs.Common.{◌≡◌, ℕ, ◌≤◌, List, length, sym, ◌∙◌, ap, subst, Option}
use Rattle.pipe_model.specs.declared.net.Net.{Net}
use Rattle.pipe_model.specs.declared.step.Entry.{Entry}
use Rattle.pipe_model.specs.Play.{play, IsComplete, IsLegal, IsLicensed}
use Rattle.pipe_model.specs.Reply.{reply}
use Rattle.core_machine.specs.Machine.{Machine, HasStopped, state_of}
use Rattle.call_meaning.specs.declared.status.Outcome.{Outcome}
use Rattle.call_meaning.specs.Effects.{traced}
use Rattle.call_meaning.specs.Meaning.{AreLeast, RunMeans, Exhausts, Finishes, outcome_of}
use Rattle.call_meaning.specs.Meaning.RunMeans.{finishes, exhausts}
use Rattle.net_runs.specs.declared.ready_run.Ready.{Ready}
use Rattle.net_runs.specs.Ran.{EndsAs, IsRun, run_effect}
use Rattle.net_runs.specs.Ran.EndsAs.{completes, spends}
use Rattle.net_runs.specs.ReadyRuns.{IsReady, ready_effect}
use Rattle.net_runs.proofs.CoreRuns.{stopped_complete}
use Rattle.net_runs.proofs.RunEffects.{replied_effect, traced_effect}

module _ (on : Net) (steps workers : ℕ) (core : Machine) (is : core.net ≡ on) (legal : IsLegal core.net core.journal) (least : workers ≡ 1 → AreLeast core.net core.journal) where
  pub legal_on : IsLegal on core.journal
  legal_on = subst (λ z. IsLegal z core.journal) is legal

  pub least_on : workers ≡ 1 → AreLeast on core.journal
  least_on one = subst (λ z. AreLeast z core.journal) is (least one)

  -- a complete journal
  abbrev pub finished : HasStopped core → length core.journal ≤ steps → Finishes on steps workers (reply core.net (state_of core))
  finished stopped within = record {
    journal = core.journal;
    legal = legal_on;
    complete = subst (λ z. IsComplete z core.journal) is (stopped_complete core stopped);
    within = within;
    least = least_on;
    replies = ap (λ z. reply z (play z core.journal)) (sym is);
  }

  -- a full one
  abbrev pub exhausted : length core.journal ≡ steps → (e : Entry) × IsLicensed core.net (state_of core) e → Exhausts on steps workers
  exhausted full more = record {
    journal = core.journal;
    legal = legal_on;
    full = full;
    least = least_on;
    more = (more.0, subst (λ z. IsLicensed z (play z core.journal) more.0) is more.1);
  }

run_means : (on : Net) (steps workers : ℕ) (trace : Option (List ℕ)) (core : Machine) (outcome : Outcome) → IsRun on steps workers core outcome →
    RunMeans on steps workers trace outcome (traced trace core.journal (run_effect core outcome))
run_means on steps workers trace core outcome run = by run.ends
  where
    by : EndsAs steps core outcome → RunMeans on steps workers trace outcome (traced trace core.journal (run_effect core outcome))
    by (completes stopped of) =
        finishes (reply core.net (state_of core)) (finished on steps workers core run.net_is run.legal run.least stopped run.within)
        (of ∙ ap (λ z. outcome_of z (reply core.net (state_of core))) run.net_is)
        (ap (traced trace core.journal) (replied_effect core outcome of))
    by (spends is full more) =
        exhausts (exhausted on steps workers core run.net_is run.legal run.least full more) is
        (ap (λ o. traced trace core.journal (run_effect core o)) is)

-- and what it does, once its texts are made
pub ready_means : {S : Type 0} (on : Net) (steps workers : ℕ) (trace : Option (List ℕ)) (ready : Ready S) → IsReady on steps workers trace ready → RunMeans on steps workers trace ready.told.outcome (ready_effect ready)
ready_means on steps workers trace ready is =
    subst (λ e. RunMeans on steps workers trace ready.told.outcome e) (traced_effect on steps workers trace ready is)
    (run_means on steps workers trace ready.core ready.told.outcome is.run)
