use Rattle.std.proofs.Common.{◌∙◌, sym, ap, drop}
use Rattle.std.proofs.lemmas.Result.{on_ok_weaker}
use Rattle.pipe_model.specs.BlockRows.{filled}
use Rattle.block_stages.proofs.Holding.{filled_is}
use Rattle.block_stages.proofs.pending.fill_rest.Goals as goal

pub returns-in-Some : goal.returns-in-Some
returns-in-Some c =
    let old = c.args.text.now.items in
    on_ok_weaker c.fill.result (λ is. ap (drop c.args.front) is ∙ filled_is c.args.front c.args.size c.in-Some.byte old c.requires ∙ ap (λ byte. filled c.args.size byte (drop c.args.front old)) (sym c.in-Some.is)) c.fill.ensures
