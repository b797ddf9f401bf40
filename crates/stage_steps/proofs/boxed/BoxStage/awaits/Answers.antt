use Rattle.std.proofs.Common.{sym, ap}
use Rattle.std.proofs.lemmas.Option.{IfSome_then}
use Rattle.std.specs.Box.{with_value}
use Rattle.stage_steps.proofs.HandingOn.{awaits_held}
use Rattle.stage_steps.proofs.boxed.BoxStage.awaits.Goals as goal

pub returns : goal.returns
returns g c =
    let held = c.args.self.now in
    IfSome_then c.awaits.result c.awaits.ensures (λ string takes.
    awaits_held g.T.Stage.stands (with_value held) (λ x s h. g.T.Stage.stands x.value s h) (λ x s h is. is) (λ x s h is. is)
    held c.deref.result.now string.now (ap (with_value held) (sym c.deref.ensures)) takes)
