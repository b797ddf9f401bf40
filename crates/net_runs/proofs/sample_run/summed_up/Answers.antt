use Rattle.std.proofs.Common.{◌≡◌, ◌∙◌, length, ap, subst, sym}
use Rattle.pipe_model.specs.Reply.{console_from}
use Rattle.core_machine.specs.Machine.{state_of}
use Rattle.call_meaning.specs.Effects.{output_of}
use Rattle.call_meaning.specs.Meaning.{SampleMeans, summed_up}
use Rattle.net_runs.proofs.SampleReplies.{none_summed, sample_means}
use Rattle.net_runs.proofs.sample_run.summed_up.Goals as goal
use Rattle.net_runs.proofs.sample_run.summed_up.Goals.{in-Done+in_ok-text-in-Done, in_default}

pub returns-clause-means : goal.returns-clause-means
returns-clause-means g c =
    let count = c.args.count in
    let core = c.in_ok-ran.ran.core in
    let outcome = c.in_ok-ran.ran.outcome in
    let effect = output_of c.match-ran.text.items in
    let console = console_from (state_of core) 0 core.net.strands in
    let effect_is : effect ≡ summed_up count console (length core.journal) outcome = elim c.match-ran.branch [
      | in-Done+in_ok-text-in-Done w ↦ rw w.text-is (ap output_of w.in_ok-text-in-Done.ensures ∙ ap (summed_up count console (length core.journal)) (sym w.in-Done.is))
      | in_default w ↦ rw w.text-is (ap output_of w.new-text.ensures.items ∙ none_summed count console (length core.journal) outcome w.in_default.not-Done)
    ] in
    subst (λ told. SampleMeans count c.args.net c.args.steps c.args.workers told effect) (sym c.in_ok-told.ensures.same)
    (sample_means count c.args.net c.args.steps c.args.workers core outcome c.in_ok-ran.ensures.run effect effect_is)
