use Rattle.std.proofs.lemmas.Option.{IfSome_then}
use Rattle.stage_steps.proofs.Awaiting.{takes_without}
use Rattle.stage_steps.proofs.listed.ListedStage.awaits.Goals as goal

pub returns-then-takes_plainly : goal.returns-then-takes_plainly
returns-then-takes_plainly g c =
    IfSome_then c.awaits.result c.awaits.ensures (λ string passes.
    takes_without g.L.Lists.stands g.L.Lists.is_looking g.L.Lists.made c.args.self.now string.now (c.takes_plainly.ensures c.if-takes_plainly.true) passes)
