use Rattle.std.proofs.Common.{◌∙◌, refl, ap, true}
use Rattle.unique_sort.specs.Counting.{sums_line}
use Rattle.unique_sort.proofs.CountSteps.{ends_counted}
use Rattle.unique_sort.proofs.count.CountsLists.end.Goals as goal

pub returns-clause-finishes : goal.returns-clause-finishes
returns-clause-finishes c =
    let x = c.args.self.now in
    ends_counted x (record x { new = c.in_ok-self.field-0; due = true }) refl (c.in_ok-self.ensures ∙ ap sums_line c.as_slice.ensures.value) refl
