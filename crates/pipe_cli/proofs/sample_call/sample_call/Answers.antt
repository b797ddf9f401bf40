use Rattle.std.proofs.Common.{inl, sym, subst}
use Rattle.net_graph.specs.Fed.{with_input}
use Rattle.call_meaning.specs.Effects.{output_of}
use Rattle.call_meaning.specs.Meaning.{SampleMeans}
use Rattle.call_meaning.specs.Sample.{sample_text}
use Rattle.outside.specs.Device.{device}
use Rattle.call_streams.proofs.Replies.{decides_words}
use Rattle.net_runs.proofs.SampleReplies.{decides_sample}
use Rattle.pipe_cli.proofs.sample_call.sample_call.Goals as goal

pub returns-in-Ok-clause-decides : goal.returns-in-Ok-clause-decides
returns-in-Ok-clause-decides g c = λ words input shelf samples same.
    decides_sample words input (device (g.O.Sink.written c.args.output.now) (g.O.Sink.faults c.args.output.now)) (device (g.O.Sink.written c.give.new.output) (g.O.Sink.faults c.give.new.output)) shelf
    c.args.net c.args.count c.args.steps samples c.in-Ok.answer.text.items c.in-Ok.answer.told.outcome
    (subst (λ n. SampleMeans c.args.count (with_input (sample_text c.args.count) c.args.net) c.args.steps n c.in-Ok.answer.told.outcome (output_of c.in-Ok.answer.text.items)) (sym same) c.in-Ok.ensures.means)
    c.give.result.outcome c.give.ensures.gives

pub returns-in-Err-clause-decides : goal.returns-in-Err-clause-decides
returns-in-Err-clause-decides g c = λ words input shelf samples same.
    decides_words words input (device (g.O.Sink.written c.args.output.now) (g.O.Sink.faults c.args.output.now)) shelf c.no_memory.result.outcome (inl c.no_memory.ensures.outcome)
