use Rattle.std.proofs.Common.{◌≡◌, ◌++◌, drop}
use Rattle.stall_report.specs.Words.{wait_text}
use Rattle.stall_report.proofs.words.text.Given as goal

abbrev pub invariant-loop-line : goal.invariant-loop-line
invariant-loop-line l = l.bytes.items ++ wait_text l.net (drop l.line-index l.waits) ≡ wait_text l.net l.waits
