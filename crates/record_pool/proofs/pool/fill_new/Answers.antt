use Rattle.std.proofs.Common.{◌≡◌, ◌+◌, ◌≤◌, length, vec_capacity, arith, sym, rules}
use Rattle.std.proofs.lemmas.Grind.{common_steps}
use Rattle.record_pool.proofs.Places.{with_place-end}
use Rattle.record_pool.proofs.Keeps.{kept_added}
use Rattle.record_pool.proofs.pool.fill_new.Goals as goal

pub returns-clause-kept : goal.returns-clause-kept
returns-clause-kept c =
    let same : c.reserve.new.self.items ≡ c.args.free.now.items = grind (arith, common_steps) in
    let fits : length c.args.places.now.items + 1 ≤ vec_capacity c.reserve.new.self = search rules in
    rw c.in_ok-push.ensures.items (kept_added _ _ _ _ _ _ c.requires same fits)

pub returns-clause-put : goal.returns-clause-put
returns-clause-put c =
    let at : c.len-place.result ≡ length c.args.places.now.items = search rules in
    rw (c.in_ok-push.ensures.items, at) (sym (with_place-end _ _))
