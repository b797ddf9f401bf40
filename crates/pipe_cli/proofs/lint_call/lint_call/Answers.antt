use Rattle.std.proofs.Common.{inl}
use Rattle.outside.specs.Device.{device}
use Rattle.call_streams.proofs.LintReplies.{decides_lint}
use Rattle.call_streams.proofs.Replies.{decides_words}
use Rattle.pipe_cli.proofs.lint_call.lint_call.Goals as goal

pub returns-in-Ok-clause-decides : goal.returns-in-Ok-clause-decides
returns-in-Ok-clause-decides g c = λ words input shelf lints.
    decides_lint words input (device (g.O.Sink.written c.args.output.now) (g.O.Sink.faults c.args.output.now)) (device (g.O.Sink.written c.give.new.output) (g.O.Sink.faults c.give.new.output)) shelf
    c.args.net.now lints c.in-Ok.answer.text.items c.in-Ok.answer.told.outcome c.in-Ok.ensures.means c.give.result.outcome c.give.ensures.gives

pub returns-in-Err-clause-decides : goal.returns-in-Err-clause-decides
returns-in-Err-clause-decides g c = λ words input shelf lints.
    decides_words words input (device (g.O.Sink.written c.args.output.now) (g.O.Sink.faults c.args.output.now)) shelf c.no_memory.result.outcome (inl c.no_memory.ensures.outcome)
