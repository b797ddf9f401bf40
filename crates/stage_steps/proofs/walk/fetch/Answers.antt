use Rattle.std.proofs.Common.{◌∙◌, sym, subst}
use Rattle.std.proofs.lemmas.Result.{IfOk-weaker}
use Rattle.stage_steps.specs.Walk.{Fetches}
use Rattle.stage_steps.proofs.Groups.{fetches_behind}
use Rattle.stage_steps.proofs.walk.fetch.Goals as goal

pub returns-else-takes-clause-fetches : goal.returns-else-takes-clause-fetches
returns-else-takes-clause-fetches g c =
    let flags = c.args.outputs.now.flags.items in
    let hand = c.in-Some.ensures.value in
    IfOk-weaker c.next_group-else-takes.result _ _ (λ given fetches. subst (λ h. Fetches g.L.Lists.stands g.L.Lists.made flags c.args.lists.now h c.next_group-else-takes.new.lists given) hand
    (fetches_behind g.L.Lists.stands g.L.Lists.made flags c.args.lists.now c.next_group-else-takes.new.lists c.in-Some.repeat given (sym c.takes.ensures ∙ c.if-takes.false) fetches)) c.next_group-else-takes.ensures.fetches
