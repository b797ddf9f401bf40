use Rattle.std.proofs.Common.{◌≡◌, false, [], refl, sym, ◌∙◌, arith}
use Rattle.std.proofs.KnownBytes.{Consumes-nil}
use Rattle.net_graph.specs.Fed.{reads_any}
use Rattle.call_streams.proofs.Feds.{input_none}
use Rattle.call_streams.proofs.input.take_input.Goals as goal

pub returns-then-not-net_reads-clause-taken : goal.returns-then-not-net_reads-clause-taken
returns-then-not-net_reads-clause-taken g c =
    let none : reads_any c.args.net ≡ false = sym c.net_reads.ensures ∙ c.if-not-net_reads.true in
    ([], record { gave = Consumes-nil _; fits = omega arith; reads = λ some. (let no = sym some ∙ none in cc); leaves = λ none. refl; steady = refl }, input_none [] c.args.net none)
