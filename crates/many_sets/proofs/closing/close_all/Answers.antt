use Rattle.std.proofs.Common.{◌≤◌, [], ◌∷◌, ◌++◌, take, sym, subst, arith}
use Rattle.std.specs.List.{AllZip}
use Rattle.board.specs.Plays.{founder}
use Rattle.workers.specs.Driven.{LeftByWorkers}
use Rattle.many_sets.specs.Hands.{IsFounded}
use Rattle.many_sets.proofs.Meetings.{close_boards, close_works, closes_on, core_left, cores_left, last_core, no_core}
use Rattle.many_sets.proofs.closing.close_all.Goals as goal

pub meet_last-pass-requires-clause-boards : goal.meet_last-pass-requires-clause-boards
meet_last-pass-requires-clause-boards g c =
    let all = c.args.origin.now.value.items in let less = c.pop.new.self.items in let b = c.in-Some.board in let hands = c.loop-board.hands in
    close_boards all less b hands (subst (λ l. IsFounded all l hands) c.in-Some.ensures.items c.loop-board.invariant.founded)

pub close-requires-clause-tries : goal.close-requires-clause-tries
close-requires-clause-tries g c =
    let all = c.args.origin.now.value.items in let less = c.pop.new.self.items in let b = c.in-Some.board in let hands = c.loop-board.hands in
    let t = subst (λ l. IsFounded all l hands) c.in-Some.ensures.items c.loop-board.invariant.founded in
    (c.meet_last-pass.ensures.workers (founder (last_core all less b hands t no_core)) (close_works all less b hands t no_core)).may.tries

pub loop-board-preserved : goal.loop-board-preserved
loop-board-preserved g c =
    let all = c.args.origin.now.value in let cores = c.loop-board.cores in let less = c.pop.new.self in let b = c.in-Some.board in let hands = c.loop-board.hands in
    let i = c.loop-board.invariant in let met = c.meet_last-pass in let m = met.ensures in let push = c.push_reserved.ensures in
    let t = subst (λ l. IsFounded all.items l hands) c.in-Some.ensures.items i.founded in
    let count = i.count in let long = all.ok.0 in let popped = c.in-Some.ensures.len in let rest = less.ok.0 in let pushed = push.len in let some = i.some in let same = m.len in
    record {
      some = omega arith;
      founded = closes_on all.items less.items b hands t met.new.hands m.len m.left;
      left = subst (λ l. AllZip LeftByWorkers (take c.push_reserved.new.self.len all.items) l) (sym push.items)
          (subst (λ n. AllZip LeftByWorkers (take n all.items) (cores.items ++ c.close.result ∷ [])) (sym pushed)
          (cores_left all.items less.items b hands t cores.items cores.len c.close.result (omega arith) i.left
          (core_left all.items less.items b hands t met.result c.close.result m.workers m.shares c.close.ensures.ends)));
      count = omega arith;
      capacity = subst (λ n. all.len ≤ n) (sym push.capacity) i.capacity;
    }
