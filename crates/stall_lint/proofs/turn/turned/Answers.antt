use Rattle.std.proofs.Common.{◌≡◌, ◌∙◌, sym, subst}
use Rattle.std.proofs.lemmas.List.{take_at}
use Rattle.stall_lint.specs.Begun.{BeginsLeast}
use Rattle.stall_lint.specs.ClosedWalks.{IsClosedWalk, IsRound}
use Rattle.stall_lint.proofs.turn.turned.Goals as goal

pub returns : goal.returns
returns c net round =
    let copied : c.deref_mut.result.now ≡ c.args.walk.now = c.deref_mut.ensures.value ∙ c.in_ok-turned.ensures.items in
    let begun = c.begin_least.ensures net (subst (IsRound net) (sym copied) round) in
    let written : c.deref_mut-2.result.now ≡ c.begin_least.new.walk = c.deref_mut-2.ensures.value ∙ take_at c.begin_least.new.walk _ _ (c.begin_least.auto.walk ∙ c.deref_mut.ensures.len) in
    let closed = c.turn.ensures net (subst (IsRound net) (sym written) begun.0) (subst BeginsLeast (sym written) begun.1) in
    subst (IsClosedWalk net) (sym (take_at c.turn.new.walk _ _ (c.turn.auto.walk ∙ c.deref_mut-2.ensures.len))) closed
