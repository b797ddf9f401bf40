use Rattle.std.proofs.Common.{◌∙◌, ap, refl, sym, subst}
use Rattle.pipe_model.specs.declared.kind.Keep.TheVariants.{First as KeepFirst}
use Rattle.pipe_model.specs.declared.kind.Kind.TheVariants.{Unique}
use Rattle.pipe_model.specs.OrderRows.{unique}
use Rattle.unique_sort.specs.declared.order_lists.OrderLists.TheVariants.{First}
use Rattle.unique_sort.specs.OrderLists.{AreListsOf}
use Rattle.unique_sort.proofs.order_lists.OrderLists.new.Goals as goal

pub returns-in-First : goal.returns-in-First
returns-in-First c =
    let count = c.in-Unique.count in
    let range = c.in-Unique.range in
    let t = unique count range KeepFirst in
    subst (λ kind. AreListsOf kind (First c.lists.result)) (sym (c.in-Unique.is ∙ ap (Unique count range) c.in-First.is)) (t, refl, refl, (t.outs, refl, c.lists.ensures count))
