-- All members stand at a level where as many stand there as there are.
use Rattle.std.proofs.Common.{arith, sym, rules, ◌≡◌, ◌≢◌, ◌<◌, Some, length, get_or}
use Rattle.std.proofs.lemmas.Int.{to_z-of_z}
use Rattle.commit_levels.specs.UnitState.{place_of, level_count, answer_at}
use Rattle.commit_levels.specs.Kept.{IsKept}
use Rattle.commit_levels.proofs.Calls.{all_stand, some_lack}
use Rattle.commit_levels.proofs.unit.Unit.answer.Goals as goal

pub returns-then-level-len : goal.returns-then-level-len
returns-then-level-len c =
    let inside : c.self.inside.members.items ≡ c.args.self.now = c.self.view_is in
    let place : c.place_of.result ≡ place_of c.args.level = grind (arith, to_z-of_z, c.place_of.ensures.place) in
    let kept : IsKept c.args.self.now c.self.inside.levels.items = rw (sym inside) c.self.invariant in
    let within : place_of c.args.level < level_count = rw (sym place) c.place_of.ensures.within in
    let read : c.index-level.result.now ≡ get_or c.self.inside.levels.items (place_of c.args.level) c.index-level.result.now = rw (sym place) c.index-level.ensures in
    let s = all_stand c.args.self.now c.self.inside.levels.items kept (place_of c.args.level) c.index-level.result.now within read in
    let all : c.index-level.result.now.standing ≡ length c.args.self.now = search rules in
    let answered : Some c.index-level.result.now.worst ≡ answer_at (place_of c.args.level) c.args.self.now = s all in
    grind (arith, to_z-of_z, answered)

pub returns-else-level-len : goal.returns-else-level-len
returns-else-level-len c =
    let inside : c.self.inside.members.items ≡ c.args.self.now = c.self.view_is in
    let place : c.place_of.result ≡ place_of c.args.level = grind (arith, to_z-of_z, c.place_of.ensures.place) in
    let kept : IsKept c.args.self.now c.self.inside.levels.items = rw (sym inside) c.self.invariant in
    let within : place_of c.args.level < level_count = rw (sym place) c.place_of.ensures.within in
    let read : c.index-level.result.now ≡ get_or c.self.inside.levels.items (place_of c.args.level) c.index-level.result.now = rw (sym place) c.index-level.ensures in
    let s = some_lack c.args.self.now c.self.inside.levels.items kept (place_of c.args.level) c.index-level.result.now within read in
    let not_all : c.index-level.result.now.standing ≢ length c.args.self.now = search rules in
    s not_all
