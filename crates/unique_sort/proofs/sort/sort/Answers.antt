use Rattle.std.proofs.Common.{◌≡◌, rules}
use Rattle.std.specs.Ordering.{is_lt}
use Rattle.std.proofs.lemmas.Fn.{always_returns_same}
use Rattle.unique_sort.specs.Fronts.{keyed_before}
use Rattle.unique_sort.proofs.KeyedOrder.{keyed_before_orders, recs_sorted}
use Rattle.unique_sort.proofs.sort.sort.Goals as goal

pub returns : goal.returns
returns c = λ are.
    let keys = c.args.keys.now in
    let order = keyed_before_orders keys in
    let compares = always_returns_same _ (λ a r. is_lt r ≡ keyed_before keys a.0.now a.1.0.now) _ (λ a r g called. search rules) in
    recs_sorted keys c.args.records.now.items c.sort_by.new.self.items are c.in_ok-sort_by.ensures.permutation (c.in_ok-sort_by.ensures.sorted (keyed_before keys) order compares) (c.in_ok-sort_by.ensures.stable (keyed_before keys) order compares)
