use Rattle.std.proofs.Common.{◌∙◌, ◌++◌, ◌∷◌, [], ap, refl, subst, sym, None, ◌≡◌}
use Rattle.spec_scanner.specs.Labels.{number_of}
use Rattle.spec_scanner.proofs.LabelEntries.{labels_of, new_label}
use Rattle.spec_scanner.proofs.labels.Labels.define.Goals as goal

pub returns-clause-ok : goal.returns-clause-ok
returns-clause-ok c =
    let absent = subst (λ labels. number_of labels c.args.name.items ≡ None) (sym c.self.view_is) c.requires in
    ap (labels_of (λ k. k.items)) c.in_ok-insert.ensures.entries ∙ new_label (λ k. k.items) _ (λ x y. refl) c.args.name 0 c.self.inside.uses.entries absent ∙ ap (λ labels. labels ++ record { name = c.args.name.items; uses = 0 } ∷ []) c.self.view_is
