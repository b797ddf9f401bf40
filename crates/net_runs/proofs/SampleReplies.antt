-- From what the run of the sample's net did to what the call decides.
use Rattle.std.proofs.Common.{◌≡◌, ◌≢◌, ℕ, List, length, refl, sym, ◌∙◌, ap}
use Rattle.outside.specs.Device.{Device}
use Rattle.pipe_model.specs.declared.net.Net.{Net}
use Rattle.pipe_model.specs.Reply.{console_from, reply}
use Rattle.net_graph.specs.Fed.{with_input}
use Rattle.core_machine.specs.Machine.{Machine, state_of}
use Rattle.call_meaning.specs.declared.status.Outcome.{Outcome}
use Rattle.call_meaning.specs.declared.status.Outcome.TheVariants.{Done}
use Rattle.call_meaning.specs.Answer.{Decides}
use Rattle.call_meaning.specs.Devices.{Store, outside}
use Rattle.call_meaning.specs.Effects.{Effect, no_effect, output_of}
use Rattle.call_meaning.specs.Meaning.{SampleMeans, SamplesNet, outcome_of, summed_up}
use Rattle.call_meaning.specs.Meaning.ComesTo.{sampled}
use Rattle.call_meaning.specs.Meaning.SampleMeans.{sums_up, spends as sample_spends}
use Rattle.call_meaning.specs.Sample.{sample_text}
use Rattle.net_runs.specs.Ran.{EndsAs, IsRun}
use Rattle.call_streams.specs.Written.{HasGiven}
use Rattle.net_runs.specs.Ran.EndsAs.{completes, spends}
use Rattle.net_runs.proofs.Finishes.{exhausted, finished}
use Rattle.call_streams.proofs.Replies.{decides_text}
use Rattle.net_runs.proofs.Runs.{reply_console}

-- nothing is written but where the outcome is `Done`
pub none_summed : (count : ℕ) (console : List ℕ) (steps : ℕ) (outcome : Outcome) → outcome ≢ Done → no_effect ≡ summed_up count console steps outcome
none_summed count console steps Done other = absurd (other refl)
none_summed count console steps _ other = refl

-- what the run of a net that was fed the sample's lines means
pub sample_means : (count : ℕ) (on : Net) (steps workers : ℕ) (core : Machine) (outcome : Outcome) → IsRun on steps workers core outcome →
    (effect : Effect) → effect ≡ summed_up count (console_from (state_of core) 0 core.net.strands) (length core.journal) outcome → SampleMeans count on steps workers outcome effect
sample_means count on steps workers core outcome run effect is = by run.ends
  where
    by : EndsAs steps core outcome → SampleMeans count on steps workers outcome effect
    by (completes stopped of) =
        sums_up (reply core.net (state_of core)) (finished on steps workers core run.net_is run.legal run.least stopped run.within)
        (of ∙ ap (λ z. outcome_of z (reply core.net (state_of core))) run.net_is)
        (is ∙ ap (λ console. summed_up count console (length core.journal) outcome) (sym (reply_console core.net (state_of core))))
    by (spends same full more) =
        sample_spends (exhausted on steps workers core run.net_is run.legal run.least full more) same
        (is ∙ ap (summed_up count (console_from (state_of core) 0 core.net.strands) (length core.journal)) same)

module _ (words : List (List ℕ)) (input output output' : Device) (shelf : Store) (net : Net) (count steps : ℕ) (samples : SamplesNet words net count steps) where
  module _ (text : List ℕ) (outcome : Outcome) (means : SampleMeans count (with_input (sample_text count) net) steps samples.workers outcome (output_of text)) where
    -- the summary was written, or couldn't be whole
    pub decides_sample : (decided : Outcome) → HasGiven text outcome output output' decided → Decides words (outside input output shelf) (outside input output' shelf) decided
    decides_sample = decides_text words input output shelf text outcome (sampled (record { net = net; count = count; steps = steps; samples = samples; means = means })) refl output'
