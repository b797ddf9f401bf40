use Rattle.stream_laws.proofs.Streams.{on_each_output}
use Rattle.stream_laws.proofs.by_shape.each_output.Goals as goal

pub returns : goal.returns
returns c = λ h pairs put. on_each_output c.args.strand.now h pairs put
