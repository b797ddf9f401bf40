-- So many bytes of the record were laid over what was there.
use Rattle.std.proofs.Common.{◌≡◌, length}
use Rattle.std.specs.Prelude.{take}
use Rattle.pipe_model.specs.FanRows.{laid_over}
use Rattle.fan_stages.proofs.overlay.lay.Given as goal

abbrev pub invariant-loop-place : goal.invariant-loop-place
invariant-loop-place l = record {
  laid : l.below ≡ laid_over l.pad (take l.place l.rec) l.initial.below;
  long : length l.below ≡ length l.initial.below;
}
