use Rattle.std.proofs.Common.{arith}
use Rattle.bstr.specs.Find.{is_byte}
use Rattle.stage_steps.proofs.Lanes.{none_marked, first_marked}
use Rattle.stage_steps.proofs.strings.place_in_lanes.Goals as goal

pub returns-then-marked-eq0 : goal.returns-then-marked-eq0
returns-then-marked-eq0 c = none_marked (is_byte c.args.byte) c.args.part.now c.args.from c.marks-marked.result c.requires c.marks-marked.ensures c.if-marked-eq0.true

pub returns : goal.returns
returns c = first_marked (is_byte c.args.byte) c.args.part.now c.args.from c.marks-marked.result c.requires c.marks-marked.ensures (omega arith)
