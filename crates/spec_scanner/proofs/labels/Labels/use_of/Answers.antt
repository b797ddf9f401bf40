use Rattle.std.proofs.Common.{◌∙◌, add-one, ap, arith, sym, suc}
use Rattle.spec_scanner.specs.Labels.{used, uses_of}
use Rattle.spec_scanner.proofs.LabelEntries.{used_at, uses_at}
use Rattle.spec_scanner.proofs.labels.Labels.use_of.Goals as goal

pub overflow_add-count : goal.overflow_add-count
overflow_add-count c =
    let uses = ap (λ labels. uses_of labels c.args.number) (sym c.self.view_is) ∙ uses_at (λ k. k.items) c.self.inside.uses.entries c.args.number c.index.result.now c.index.ensures in
    omega arith

pub returns-clause-count : goal.returns-clause-count
returns-clause-count c =
    let uses = ap (λ labels. uses_of labels c.args.number) (sym c.self.view_is) ∙ uses_at (λ k. k.items) c.self.inside.uses.entries c.args.number c.index.result.now c.index.ensures in
    add-one c.index.result.now ∙ ap suc (sym uses)

pub returns-clause-used : goal.returns-clause-used
returns-clause-used c =
    used_at (λ k. k.items) c.self.inside.uses.entries c.args.number c.index.result.now c.index.ensures ∙ ap (λ labels. used labels c.args.number) c.self.view_is
