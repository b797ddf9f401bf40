use Rattle.std.proofs.Common.{refl}
use Rattle.fan_stages.proofs.Overlaid.{overlay_first}
use Rattle.fan_stages.proofs.overlay.Overlays.new.Goals as goal

pub returns : goal.returns
returns c = overlay_first c.args.inputs c.in_ok-round.round _ c.in_ok-round.ensures c.settle.ensures c.new-2.ensures.items refl
