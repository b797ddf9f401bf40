use Rattle.std.proofs.Common.{◌∷◌, [], ◌++◌, ◌∙◌, ap, refl}
use Rattle.unique_sort.specs.Fronts.{keyed_by}
use Rattle.unique_sort.proofs.SortSteps.{sees_sorted}
use Rattle.unique_sort.proofs.sort.SortsLists.see.Goals as goal

pub returns-clause-sees : goal.returns-clause-sees
returns-clause-sees c =
    let x = c.args.self.now in
    let y = record x { records = c.push.new.self } in
    sees_sorted x y (refl {a = x.keys}) c.args.bytes.now (refl {a = x.is_over}) (c.in_ok-push.ensures.items ∙ ap (λ k. x.records.items ++ k ∷ []) (c.in_ok-rec.ensures ∙ ap (λ keys. keyed_by keys c.args.bytes.now) c.as_slice.ensures))
