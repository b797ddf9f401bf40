use Rattle.std.proofs.Common.{◌∙◌, ap}
use Rattle.spec_scanner.specs.Labels.{number_of}
use Rattle.spec_scanner.proofs.LabelEntries.{number_at, number_within}
use Rattle.spec_scanner.proofs.labels.Labels.number_of.Goals as goal

pub returns-clause-number : goal.returns-clause-number
returns-clause-number c =
    c.get_index_of.ensures.index ∙ number_at (λ k. k.items) c.self.inside.uses.entries c.args.name.now ∙ ap (λ labels. number_of labels c.args.name.now) c.self.view_is

pub returns-clause-within : goal.returns-clause-within
returns-clause-within c = number_within (λ k. k.items) c.self.inside.uses.entries c.args.self.now c.self.view_is c.get_index_of.result c.get_index_of.ensures.within
