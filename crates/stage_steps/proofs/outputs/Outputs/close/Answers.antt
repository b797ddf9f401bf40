use Rattle.std.proofs.Common.{arith}
use Rattle.stage_steps.proofs.Flags.{closed-set, closed-beyond}
use Rattle.stage_steps.proofs.outputs.Outputs.close.Goals as goal

pub returns-then-k-len-clause-flags : goal.returns-then-k-len-clause-flags
returns-then-k-len-clause-flags c = closed-set c.args.output 0 c.args.output c.args.self.now.flags.items (omega arith)

pub returns-else-k-len-clause-flags : goal.returns-else-k-len-clause-flags
returns-else-k-len-clause-flags c = closed-beyond 0 c.args.output c.args.self.now.flags.items (omega (arith, c.if-k-len.false, c.len.ensures))
