-- One more member stands at the level.
use Rattle.std.proofs.Common.{arith, ◌≡◌, ◌<◌, ◌+◌, ◌^◌, sym, get_or}
use Rattle.std.proofs.lemmas.Int.{to_z-of_z}
use Rattle.commit_levels.specs.UnitState.{place_of, moved, level_count}
use Rattle.commit_levels.specs.Kept.{IsKept}
use Rattle.commit_levels.specs.declared.member.Progress.TheVariants.{Asked}
use Rattle.commit_levels.proofs.Calls.{change_is, member_at, asks, room_to_ask}
use Rattle.commit_levels.proofs.unit.Unit.ask.Goals as goal

pub overflow_add-index_mut : goal.overflow_add-index_mut
overflow_add-index_mut c =
    let inside : c.self.inside.members.items ≡ c.args.self.now = c.self.view_is in
    let place : c.place_of-place.result ≡ place_of c.args.level = grind (arith, to_z-of_z, c.place_of-place.ensures.place) in
    let kept : IsKept c.args.self.now c.self.inside.levels.items = rw (sym inside) c.self.invariant in
    let read : c.index_mut.result.now ≡ get_or c.args.self.now c.args.member c.index_mut.result.now = rw (sym inside) c.index_mut.ensures.value in
    let within : place_of c.args.level < level_count = rw (sym place) c.place_of-place.ensures.within in
    let was : c.index_mut-2.result.now ≡ get_or c.self.inside.levels.items (place_of c.args.level) c.index_mut-2.result.now = rw (sym place) c.index_mut-2.ensures.value in
    let room : c.index_mut-2.result.now.standing + 1 < 2 ^ 32 =
    room_to_ask c.args.self.now c.self.inside.levels.items kept c.args.member c.index_mut.result.now c.requires.member read c.requires.live c.args.level within c.index_mut-2.result.now was c.requires.first in
    grind (arith, room)

pub returns : goal.returns
returns c =
    let inside : c.self.inside.members.items ≡ c.args.self.now = c.self.view_is in
    let place : c.place_of-place.result ≡ place_of c.args.level = grind (arith, to_z-of_z, c.place_of-place.ensures.place) in
    let kept : IsKept c.args.self.now c.self.inside.levels.items = rw (sym inside) c.self.invariant in
    let read : c.index_mut.result.now ≡ get_or c.args.self.now c.args.member c.index_mut.result.now = rw (sym inside) c.index_mut.ensures.value in
    rw (c.go.ensures.after, place, inside)
    (change_is c.args.self.now c.args.member c.index_mut.result.now (moved (place_of c.args.level) Asked)
    (member_at c.args.self.now c.self.inside.levels.items kept c.args.member c.index_mut.result.now c.requires.member read c.requires.live))

pub invariant_of-self : goal.invariant_of-self
invariant_of-self c =
    let inside : c.self.inside.members.items ≡ c.args.self.now = c.self.view_is in
    let place : c.place_of-place.result ≡ place_of c.args.level = grind (arith, to_z-of_z, c.place_of-place.ensures.place) in
    let kept : IsKept c.args.self.now c.self.inside.levels.items = rw (sym inside) c.self.invariant in
    let read : c.index_mut.result.now ≡ get_or c.args.self.now c.args.member c.index_mut.result.now = rw (sym inside) c.index_mut.ensures.value in
    let within : place_of c.args.level < level_count = rw (sym place) c.place_of-place.ensures.within in
    let was : c.index_mut-2.result.now ≡ get_or c.self.inside.levels.items (place_of c.args.level) c.index_mut-2.result.now = rw (sym place) c.index_mut-2.ensures.value in
    rw (c.go.ensures.after, place, inside)
    (asks c.args.self.now c.self.inside.levels.items kept c.args.member c.index_mut.result.now c.requires.member read c.requires.live c.args.level within c.go.ensures.places c.index_mut-2.result.now was c.requires.first)
