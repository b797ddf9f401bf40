use Rattle.std.proofs.Common.{arith}
use Rattle.stall_lint.proofs.Circuits.{made_round, passing_more}
use Rattle.stall_lint.proofs.rounds.round.Goals as goal

pub loop-k-preserved : goal.loop-k-preserved
loop-k-preserved c = passing_more c.args.hops.now c.loop-k.k _ c.next.result c.loop-k.walk.items _ (omega arith) c.next.ensures c.loop-k.invariant c.in_ok-pass_group.ensures

pub returns : goal.returns
returns c net circle = made_round net c.args.hops.now c.loop-k.k c.loop-k.walk.items circle (omega arith) c.loop-k.invariant
