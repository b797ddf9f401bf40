use Rattle.std.specs.Io.KnownBytes.{Keeps}
use Rattle.outside.proofs.streams.read_uninterrupted.Given as goal

-- an interrupted read moves nothing
abbrev pub invariant-loop : goal.invariant-loop
invariant-loop g l = Keeps (g.R.Read.remaining l.fn.reader) (g.R.Read.remaining l.reader)
