use Rattle.std.proofs.Common.{◌≡◌, false, [], refl, sym, ap, ◌∙◌, arith}
use Rattle.std.proofs.KnownBytes.{Consumes-nil}
use Rattle.net_graph.specs.Fed.{reads_any}
use Rattle.call_meaning.specs.Sets.{all_of}
use Rattle.call_streams.specs.Feeding.{nets_in}
use Rattle.call_streams.proofs.FedSets.{none_fed}
use Rattle.call_streams.proofs.sets.take_all_input.Goals as goal

pub returns-then-not-sets_read-clause-taken : goal.returns-then-not-sets_read-clause-taken
returns-then-not-sets_read-clause-taken g c =
    let none : reads_any (all_of (nets_in c.args.sets.now.items)) ≡ false = ap (λ sets. reads_any (all_of (nets_in sets))) (sym c.deref.ensures.value) ∙ sym c.sets_read.ensures ∙ c.if-not-sets_read.true in
    ([], record { gave = Consumes-nil _; fits = omega arith; reads = λ some. (let no = sym some ∙ none in cc); leaves = λ none. refl; steady = refl }, none_fed [] c.args.sets.now.items none)
