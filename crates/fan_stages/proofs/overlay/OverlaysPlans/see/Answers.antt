use Rattle.std.proofs.Common.{refl, ◌∙◌, ap}
use Rattle.pipe_model.specs.FanRows.{laid_over}
use Rattle.fan_stages.proofs.Overlaid.{overlay_saw}
use Rattle.fan_stages.proofs.overlay.OverlaysPlans.see.Goals as goal

pub returns-clause-plans : goal.returns-clause-plans
returns-clause-plans c = λ rec came plan k want is fits room.
    let x = c.args.self.now in
    overlay_saw x plan k want c.args._input rec _ is fits c.see.ensures refl (c.in_ok-lay.ensures ∙ ap (λ r. laid_over x.pad r x.made.items) (came refl)) refl
