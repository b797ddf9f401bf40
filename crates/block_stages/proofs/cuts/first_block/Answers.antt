use Rattle.std.proofs.Common.{arith}
use Rattle.block_stages.proofs.Firsts.{no_block, a_block}
use Rattle.block_stages.proofs.cuts.first_block.Goals as goal

pub returns-then-size-eq0-clause-first : goal.returns-then-size-eq0-clause-first
returns-then-size-eq0-clause-first c =
    no_block c.args.size c.args.text.now (λ some enough. let sides = c.then-size-eq0.either in grind arith)

pub returns-clause-first : goal.returns-clause-first
returns-clause-first c = let other = c.if-size-eq0.false in a_block c.args.size c.args.text.now (omega (arith, other)) c.if-text-size.false
