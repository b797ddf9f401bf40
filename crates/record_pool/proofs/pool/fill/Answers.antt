use Rattle.std.proofs.Common.{◌<◌, length, vec_capacity, sym, ◌∙◌, ap, subst, rules, ℕ}
use Rattle.std.proofs.Math.ListN.{set}
use Rattle.std.specs.Prelude.{Option}
use Rattle.record_pool.specs.PoolState.{Held}
use Rattle.record_pool.specs.Kept.{IsKept}
use Rattle.record_pool.proofs.Places.{with_place-set}
use Rattle.record_pool.proofs.Keeps.{last_is_vacant, kept_filled, vacancy_at-within, vacancy_at-none}
use Rattle.record_pool.proofs.pool.fill.Goals as goal

pub index_mut-requires : goal.index_mut-requires
index_mut-requires c =
    let within : c.in-Some.place < length c.args.places.now.items = vacancy_at-within _ _ (last_is_vacant _ _ _ _ _ c.requires c.in-Some.ensures.items) in
    search (rules, within)

pub returns-in-Some-clause-kept : goal.returns-in-Some-clause-kept
returns-in-Some-clause-kept c =
    let places = c.args.places.now.items in
    let place = c.in-Some.place in
    let filled = kept_filled _ _ _ _ _ c.args.held c.requires c.in-Some.ensures.items in
    subst (λ (room : ℕ). IsKept (set places place c.replace.new.dest) c.pop.new.self.items room) (sym c.in-Some.ensures.capacity)
    (subst (λ (now : Option Held). IsKept (set places place now) c.pop.new.self.items (vec_capacity c.args.free.now)) (sym c.replace.ensures.after) filled)

pub returns-in-Some-clause-vacant : goal.returns-in-Some-clause-vacant
returns-in-Some-clause-vacant c = vacancy_at-none c.args.places.now.items c.in-Some.place (last_is_vacant _ _ _ _ _ c.requires c.in-Some.ensures.items)

pub returns-in-Some-clause-put : goal.returns-in-Some-clause-put
returns-in-Some-clause-put c =
    let places = c.args.places.now.items in
    let place = c.in-Some.place in
    ap (set places place) c.replace.ensures.after ∙ sym (with_place-set _ _ _ (vacancy_at-within _ _ (last_is_vacant _ _ _ _ _ c.requires c.in-Some.ensures.items)))
