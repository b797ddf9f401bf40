use Rattle.std.proofs.Common.{◌≤◌, ◌<◌, ◌-◌, length, vec_len}
use Rattle.std.specs.Io.KnownBytes.{Consumes}
use Rattle.outside.specs.Folder.{file_limit}
use Rattle.outside.proofs.whole.read_whole.Given as goal

-- what was read so far, within the limit
abbrev pub invariant-loop-bytes : goal.invariant-loop-bytes
invariant-loop-bytes g l = record {
  fits : length l.bytes.items ≤ file_limit;
  gave : Consumes (g.S.Source.left l.fn.source) (g.S.Source.left l.source) l.bytes.items;
  roomy : 0 < vec_len l.room;
}

abbrev pub decreases-loop-bytes : goal.decreases-loop-bytes
decreases-loop-bytes g l = file_limit - length l.bytes.items
