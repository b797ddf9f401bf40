use Rattle.std.proofs.Common.{◌≡◌, ◌∙◌, ap, subst}
use Rattle.std.specs.Result.{IfOk}
use Rattle.net_graph.specs.Fed.{with_input}
use Rattle.call_meaning.specs.Effects.{output_of}
use Rattle.call_meaning.specs.Meaning.{SampleMeans}
use Rattle.call_meaning.specs.Sample.{sample_text}
use Rattle.call_streams.specs.declared.write.Answer.{Answer}
use Rattle.pipe_cli.proofs.sample_call.run_sample.Goals as goal

pub returns-clause-means : goal.returns-clause-means
returns-clause-means g c =
    let fed : c.feed_input.new.net ≡ with_input (sample_text c.args.count) c.args.net = c.in_ok-feed_input.ensures.fed ∙ ap (λ bytes. with_input bytes c.args.net) c.in_ok-bytes.ensures in
    subst (λ on. IfOk c.summed_up.result (λ (answer : Answer). SampleMeans c.args.count on c.args.steps c.args.workers answer.told.outcome (output_of answer.text.items))) fed c.summed_up.ensures.means
