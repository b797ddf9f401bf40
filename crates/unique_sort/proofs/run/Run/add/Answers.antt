use Rattle.std.proofs.Common.{◌∙◌, refl, sym, ap}
use Rattle.std.specs.Prelude.{nat_lt, ◌&&◌}
use Rattle.pipe_model.specs.Keys.{is_same}
use Rattle.unique_sort.proofs.RunKeys.{joins}
use Rattle.unique_sort.proofs.run.Run.add.Goals as goal

pub returns-then-is_of-clause-added : goal.returns-then-is_of-clause-added
returns-then-is_of-clause-added c =
    let x = c.args.self.now in
    joins x (record x { count = c.saturating_add-self.result }) c.args.rec.now
    (ap (λ k. nat_lt 0 x.count && is_same x.key.items k) (sym c.part_of-key.ensures) ∙ sym c.is_of.ensures ∙ c.if-is_of.true) refl refl c.saturating_add-self.ensures
