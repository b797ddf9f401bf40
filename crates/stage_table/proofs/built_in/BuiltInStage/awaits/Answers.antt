use Rattle.std.proofs.Common.{◌∙◌, sym, ap}
use Rattle.std.proofs.lemmas.Option.{IfSome_then}
use Rattle.std.specs.Box.{with_value}
use Rattle.stage_steps.proofs.HandingOn.{awaits_held}
use Rattle.select_stages.specs.Select.{SelectStands}
use Rattle.stage_table.specs.declared.built_in.BuiltIn.TheVariants as Stages
use Rattle.stage_table.specs.BuiltIn.{BuiltInStands}
use Rattle.stage_table.proofs.built_in.BuiltInStage.awaits.Goals as goal

pub returns-in-Select : goal.returns-in-Select
returns-in-Select c =
    IfSome_then c.awaits.result c.awaits.ensures (λ string takes.
    awaits_held SelectStands (λ x. Stages.Select (with_value c.in-Select.stage x)) BuiltInStands (λ x s h is. is) (λ x s h is. is) c.args.self.now c.deref.result.now string.now
    (c.in-Select.is ∙ ap (λ x. Stages.Select (with_value c.in-Select.stage x)) (sym c.deref.ensures)) takes)
