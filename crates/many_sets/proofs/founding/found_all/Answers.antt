use Rattle.std.proofs.Common.{◌≡◌, ◌≤◌, false, [], get_or, take, All, vec_capacity, sym, ◌∙◌, subst, arith}
use Rattle.core_machine.specs.Machine.{Machine}
use Rattle.board.specs.Plays.{founder}
use Rattle.many_sets.specs.Hands.{IsFounded, WereGiven}
use Rattle.many_sets.proofs.Dealt.{core_is, core_so, rest_is, founds_on, space_left, same_space}
use Rattle.many_sets.proofs.founding.found_all.Goals as goal

pub new-requires-clause-home : goal.new-requires-clause-home
new-requires-clause-home g c =
    let all = c.args.cores.now in let cores = c.loop-core.cores in let i = c.loop-core.invariant in let count = i.count in let long = all.ok.0 in
    core_so all.items cores.items c.pop.new.self.items c.in-Some.core cores.len i.left (omega arith) c.in-Some.ensures.items (λ (m : Machine). m.out ≡ []) c.requires.home

pub new-requires-clause-whole : goal.new-requires-clause-whole
new-requires-clause-whole g c =
    let all = c.args.cores.now in let cores = c.loop-core.cores in let i = c.loop-core.invariant in let count = i.count in let long = all.ok.0 in
    core_so all.items cores.items c.pop.new.self.items c.in-Some.core cores.len i.left (omega arith) c.in-Some.ensures.items (λ (m : Machine). m.is_broken ≡ false) c.requires.whole

pub deal-requires-clause-room : goal.deal-requires-clause-room
deal-requires-clause-room g c =
    let all = c.args.cores.now in let i = c.loop-core.invariant in let boards = c.loop-core.boards in
    let count = i.count in let long = all.ok.0 in let founded = boards.ok.0 in let popped = c.in-Some.ensures.len in
    space_left all.items boards.items c.loop-core.hands i.founded (omega arith) (subst (λ n. All (λ h. n ≤ vec_capacity h.passes) c.loop-core.hands) long i.rooms)

pub loop-core-preserved : goal.loop-core-preserved
loop-core-preserved g c =
    let all = c.args.cores.now in let cores = c.loop-core.cores in let less = c.pop.new.self in let core = c.in-Some.core in let boards = c.loop-core.boards in
    let i = c.loop-core.invariant in let push = c.push_reserved.ensures in let pop = c.in-Some.ensures in
    let count = i.count in let long = all.ok.0 in let founded = boards.ok.0 in let popped = pop.len in let rest = less.ok.0 in let pushed = push.len in
    let given : WereGiven c.in-Ok.board (founder core) c.loop-core.hands c.deal.new.hands = subst (λ v. WereGiven c.in-Ok.board v c.loop-core.hands c.deal.new.hands) c.in-Ok.ensures.pass c.deal.ensures in
    record {
      founded = subst (λ l. IsFounded all.items l c.deal.new.hands) (sym push.items)
          (founds_on all.items boards.items c.loop-core.hands c.deal.new.hands c.in-Ok.board core i.founded (omega arith)
          (λ e. subst (λ n. core ≡ get_or all.items n e) (omega arith) (core_is all.items cores.items less.items core cores.len i.left (omega arith) pop.items e)) given);
      left = subst (λ n. less.items ≡ take n all.items) (sym rest) (rest_is all.items cores.items less.items core cores.len i.left (omega arith) pop.items);
      count = omega arith;
      capacity = pop.capacity ∙ i.capacity;
      len = given.len ∙ i.len;
      room = subst (λ n. all.len ≤ n) (sym push.capacity) i.room;
      rooms = same_space all.items c.in-Ok.board (founder core) all.len c.loop-core.hands c.deal.new.hands given i.rooms;
    }
