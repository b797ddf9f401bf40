use Rattle.std.proofs.Common.{◌≡◌, ◌≤◌, [], length, sym, ◌∙◌, ap, arith}
use Rattle.core_machine.specs.declared.run.Which.TheVariants.{All}
use Rattle.core_machine.specs.Machine.{Machine}
use Rattle.core_machine.specs.Runs.{is_made}
use Rattle.core_machine.proofs.Steps.{run_idles, run_spends}
use Rattle.core_machine.proofs.Broken.{breaks_least, on_err}
use Rattle.core_machine.proofs.Runs.{run_by_all, spent_where_ready}
use Rattle.core_machine.proofs.core_state.Core.run_one_thread.Goals as goal

pub returns-in-None-clause-runs : goal.returns-in-None-clause-runs
returns-in-None-clause-runs g c =
    let run = run_by_all (is_made All) c.args.self.now c.run-2.new.self c.in_ok-run.ensures.runs in
    let home : c.run-2.new.self.out ≡ [] = ap (λ (z : Machine). z.out) run.after ∙ c.requires.home in
    run_idles c.args.self.now c.run-2.new.self c.least_event.new.self run home c.least_event.ensures.same c.in-None.ensures.least

pub returns-in-Some-clause-runs : goal.returns-in-Some-clause-runs
returns-in-Some-clause-runs g c =
    let run = run_by_all (is_made All) c.args.self.now c.run-2.new.self c.in_ok-run.ensures.runs in
    let ready = c.in-Some.ensures.least.0 in
    let at = spent_where_ready c.run.inside.budget c.run-2.new.self (c.in-Some.field-0.0, c.in-Some.field-0.1) c.in_ok-run.ensures.ends ready in
    let budget : c.run-2.new.self.budget ≡ c.run.inside.budget = ap (λ (z : Machine). z.budget) run.after ∙ sym (ap (λ (z : Machine). z.budget) c.run.view_is) in
    let full : c.run-2.new.self.budget ≤ length c.run-2.new.self.journal = omega (arith, at, budget) in
    run_spends c.args.self.now c.run-2.new.self c.least_event.new.self (c.in-Some.field-0.0, c.in-Some.field-0.1) run c.in_ok-run.ensures.lawful full c.least_event.ensures.same ready

pub returns-in_err-run-clause-lacks : goal.returns-in_err-run-clause-lacks
returns-in_err-run-clause-lacks g c = on_err _ _ (breaks_least (is_made All) c.run.inside.budget c.args.self.now c.run-2.new.self c.in_err-run.ensures.lacks)
