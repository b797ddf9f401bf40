-- Each level is closed for the member.
use Rattle.std.proofs.Common.{◌≡◌, sym, ◌∙◌, ap, slice_get, get_or, length, w32, to_z, of_z, take, drop, ◌++◌}
use Rattle.std.proofs.lemmas.Int.{to_z-of_z}
use Rattle.commit_levels.specs.UnitState.{ended_with}
use Rattle.commit_levels.specs.Kept.{IsKept}
use Rattle.commit_levels.proofs.Calls.{change_is, member_at, room_to_end, ends, taken_back}
use Rattle.commit_levels.proofs.unit.Unit.ended.Goals as goal

pub close-requires-clause-room : goal.close-requires-clause-room
close-requires-clause-room c =
    let inside : c.self.inside.members.items ≡ c.args.self.now = c.self.view_is in
    let kept : IsKept c.args.self.now c.self.inside.levels.items = rw (sym inside) c.self.invariant in
    let read : c.index_mut-member.result.now ≡ get_or c.args.self.now c.args.member c.index_mut-member.result.now = rw (sym inside) c.index_mut-member.ensures.value in
    λ place level at first.
    room_to_end c.args.self.now c.self.inside.levels.items kept c.args.member c.index_mut-member.result.now c.requires.member read c.requires.live
    place level (ap (λ ls. slice_get ls place) (sym c.deref_mut.ensures.value) ∙ at) first

pub invariant_of-self : goal.invariant_of-self
invariant_of-self c =
    let inside : c.self.inside.members.items ≡ c.args.self.now = c.self.view_is in
    let kept : IsKept c.args.self.now c.self.inside.levels.items = rw (sym inside) c.self.invariant in
    let read : c.index_mut-member.result.now ≡ get_or c.args.self.now c.args.member c.index_mut-member.result.now = rw (sym inside) c.index_mut-member.ensures.value in
    let count : length c.close.new.levels ≡ c.self.inside.levels.len = c.close.auto.levels ∙ c.deref_mut.ensures.len in
    let same_count : length c.close.new.levels ≡ length c.self.inside.levels.items = c.close.auto.levels ∙ ap length c.deref_mut.ensures.value in
    let whole : take c.self.inside.levels.len (c.close.new.levels ++ drop (length c.close.new.levels) c.self.inside.levels.items) ≡ c.close.new.levels =
    taken_back c.self.inside.levels.len c.close.new.levels (drop (length c.close.new.levels) c.self.inside.levels.items) count in
    rw (c.end.ensures, whole, inside)
    (ends c.args.self.now c.self.inside.levels.items kept c.args.member c.index_mut-member.result.now c.requires.member read c.requires.live
    (to_z w32 (of_z w32 c.args.code)) c.close.new.levels (rw (sym c.deref_mut.ensures.value) c.close.ensures) same_count)

pub returns : goal.returns
returns c =
    let inside : c.self.inside.members.items ≡ c.args.self.now = c.self.view_is in
    let kept : IsKept c.args.self.now c.self.inside.levels.items = rw (sym inside) c.self.invariant in
    let read : c.index_mut-member.result.now ≡ get_or c.args.self.now c.args.member c.index_mut-member.result.now = rw (sym inside) c.index_mut-member.ensures.value in
    let wrap : to_z w32 (of_z w32 c.args.code) ≡ c.args.code = to_z-of_z w32 c.args.code c.ranges.code in
    rw (c.end.ensures, inside, wrap)
    (change_is c.args.self.now c.args.member c.index_mut-member.result.now (ended_with c.args.code)
    (member_at c.args.self.now c.self.inside.levels.items kept c.args.member c.index_mut-member.result.now c.requires.member read c.requires.live))
