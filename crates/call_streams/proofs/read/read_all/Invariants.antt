use Rattle.std.proofs.Common.{◌≡◌, ◌≤◌, ◌<◌, ◌-◌, length, vec_len}
use Rattle.std.specs.Io.KnownBytes.{Consumes}
use Rattle.call_streams.proofs.read.read_all.Given as goal

abbrev pub invariant-loop-bytes : goal.invariant-loop-bytes
invariant-loop-bytes g l = record {
  fits : length l.bytes.items ≤ l.limit;
  gave : Consumes (g.I.Source.left l.fn.input) (g.I.Source.left l.input) l.bytes.items;
  steady : g.I.Source.faults l.input ≡ g.I.Source.faults l.fn.input;
  roomy : 0 < vec_len l.room;
}

abbrev pub decreases-loop-bytes : goal.decreases-loop-bytes
decreases-loop-bytes g l = l.limit - length l.bytes.items
