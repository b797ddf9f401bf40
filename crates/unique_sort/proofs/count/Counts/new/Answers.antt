use Rattle.std.proofs.Common.{◌≡◌, ◌∙◌, [], map, refl, sym, ap, subst}
use Rattle.std.specs.List.{All}
use Rattle.pipe_model.specs.OrderRows.{count}
use Rattle.unique_sort.specs.declared.count.Tally.{Tally}
use Rattle.unique_sort.specs.Counting.{fresh_tally, IsTally}
use Rattle.unique_sort.proofs.CountSteps.{fresh_totals, fresh_count}
use Rattle.unique_sort.proofs.count.Counts.new.Goals as goal

pub returns : goal.returns
returns c =
    let totals = c.args.totals.now in
    let made : c.in_ok-fresh_tallies.field-0.items ≡ map fresh_tally totals = c.in_ok-fresh_tallies.ensures ∙ ap (map fresh_tally) c.as_slice.ensures in (
      ap count (sym (ap (λ l. map (λ (tally : Tally). tally.total) l) made ∙ fresh_totals totals)),
      subst (All (IsTally [])) (sym made) (fresh_count totals),
      refl,
    )
