use Rattle.std.proofs.Common.{◌++◌, ◌∙◌, ap, refl, Some}
use Rattle.std.specs.Prelude.{option_to_list}
use Rattle.unique_sort.proofs.SortSteps.{gives_sorted}
use Rattle.unique_sort.proofs.sort.SortsLists.next.Goals as goal

pub returns-in-Some-clause-gives : goal.returns-in-Some-clause-gives
returns-in-Some-clause-gives c =
    let x = c.args.self.now in
    let y = record x { records = c.pop.new.self; given = Some c.in-Some.keyed.rec } in
    gives_sorted x y (refl {a = x.keys}) c.in-Some.keyed (cc c.if-not-self.false) (refl {a = x.is_over}) refl (c.pop.ensures.items ∙ ap (λ o. c.pop.new.self.items ++ option_to_list o) c.in-Some.is)
