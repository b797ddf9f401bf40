use Rattle.std.proofs.Common.{◌∙◌, subst, drop, ◌-◌, length, arith, List, ℕ, ◌+◌, ◌≤◌, length-drop}
use Rattle.std.proofs.KnownBytes.{Appends-trans}
use Rattle.std.proofs.lemmas.List.{length-take}
use Rattle.std.specs.Io.KnownBytes.{Appends}
use Rattle.call_streams.proofs.Streams.{take-further}
use Rattle.call_streams.proofs.write.write_all.Goals as goal

pub loop-at-preserved : goal.loop-at-preserved
loop-at-preserved g c =
    let took = c.in-Took.ensures.bytes in
    let further = take-further c.args.bytes.now c.loop-at.at c.in-Took.count c.loop-at.invariant.within in
    let fits : c.loop-at.at + c.in-Took.count ≤ length c.args.bytes.now =
    omega (arith, took.1, length-take (length c.args.bytes.now - c.loop-at.at) (drop c.loop-at.at c.args.bytes.now), length-drop c.loop-at.at c.args.bytes.now) in
    let gained = Appends-trans (g.O.Sink.written c.args.output.now) (g.O.Sink.written c.loop-at.output) (g.O.Sink.written c.write.new.self) _ _ c.loop-at.invariant.gained took.2 in
    record {
      within = fits;
      gained = subst (λ (front : List ℕ). Appends (g.O.Sink.written c.args.output.now) (g.O.Sink.written c.write.new.self) front) further gained;
      steady = c.in-Took.ensures.count ∙ c.loop-at.invariant.steady;
    }
