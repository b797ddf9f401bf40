use Rattle.std.proofs.Common.{◌≡◌, ◌++◌, map, take, drop}
use Rattle.pipe_model.specs.EditingRows.{translated}
use Rattle.edit_stages.proofs.xlate.XlatesEdits.edit.Given as goal

-- those so far are mapped, and the others are as they were
abbrev pub invariant-loop-byte : goal.invariant-loop-byte
invariant-loop-byte l = l.byte-items ≡ map (translated l.self) (take l.byte-index l.rec) ++ drop l.byte-index l.rec
