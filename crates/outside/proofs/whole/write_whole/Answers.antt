use Rattle.std.proofs.Common.{subst, drop, ◌-◌, length, arith, List, ℕ, ◌+◌, ◌≤◌, length-drop}
use Rattle.std.proofs.KnownBytes.{Appends-trans}
use Rattle.std.proofs.lemmas.List.{length-take}
use Rattle.std.specs.Io.KnownBytes.{Appends}
use Rattle.outside.proofs.GivenBytes.{front_grows}
use Rattle.outside.proofs.whole.write_whole.Goals as goal

pub loop-at-preserved : goal.loop-at-preserved
loop-at-preserved g c =
    let took = c.in-Took.ensures.bytes in
    let further = front_grows c.args.bytes.now c.loop-at.at c.in-Took.count c.loop-at.invariant.within in
    let fits : c.loop-at.at + c.in-Took.count ≤ length c.args.bytes.now =
    omega (arith, took.1, length-take (length c.args.bytes.now - c.loop-at.at) (drop c.loop-at.at c.args.bytes.now), length-drop c.loop-at.at c.args.bytes.now) in
    let gained = Appends-trans (g.S.Sink.written c.args.sink.now) (g.S.Sink.written c.loop-at.sink) (g.S.Sink.written c.write.new.self) _ _ c.loop-at.invariant.gained took.2 in
    record {
      within = fits;
      gained = subst (λ (front : List ℕ). Appends (g.S.Sink.written c.args.sink.now) (g.S.Sink.written c.write.new.self) front) further gained;
    }
