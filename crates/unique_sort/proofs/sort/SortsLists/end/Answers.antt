use Rattle.std.proofs.Common.{◌≡◌, refl, subst, true}
use Rattle.std.specs.List.{All}
use Rattle.pipe_model.specs.OrderRows.{sorted}
use Rattle.unique_sort.specs.Fronts.{IsKeyed, recs_in}
use Rattle.unique_sort.proofs.SortSteps.{ends_sorted}
use Rattle.unique_sort.proofs.sort.SortsLists.end.Goals as goal

pub returns-clause-finishes : goal.returns-clause-finishes
returns-clause-finishes c =
    let x = c.args.self.now in
    let y = record x { records = c.reverse.new.self; is_over = true } in
    ends_sorted x y (refl {a = x.keys}) c.sort.new.records.items refl c.reverse.ensures.items
    (subst (λ keys. All (IsKeyed keys) x.records.items → recs_in c.sort.new.records.items ≡ sorted keys (recs_in x.records.items)) c.as_slice.ensures c.in_ok-sort.ensures)
