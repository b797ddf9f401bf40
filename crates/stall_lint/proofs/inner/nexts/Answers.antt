-- They are those after all rounds.
use Rattle.std.proofs.Common.{arith, ◌≡◌, ◌<◌, ℕ, length, sym, ◌∙◌, ap, subst}
use Rattle.std.proofs.lemmas.List.{with_items_is}
use Rattle.pipe_model.specs.Settled.{or_else}
use Rattle.braid_check.specs.Walks.{AreNexts, next_at}
use Rattle.stall_lint.proofs.ThinNexts.{led_over}
use Rattle.stall_lint.proofs.inner.nexts.Goals as goal

pub returns : goal.returns
returns c =
    let net = c.args.net.now in
    let old = c.in_ok-nexts.nexts.items in
    let new = c.lead_over.new.nexts in
    let long : length new ≡ length old = c.lead_over.auto.nexts ∙ ap length c.deref_mut.ensures.value in
    let each : (t : ℕ) → t < length old → next_at new t ≡ or_else (next_at c.args.forks.now t) (next_at old t) = subst (λ xs. (t : ℕ) → t < length xs → next_at new t ≡ or_else (next_at c.args.forks.now t) (next_at xs t)) c.deref_mut.ensures.value c.lead_over.ensures in
    subst (AreNexts net (length net.strands)) (sym (with_items_is c.in_ok-nexts.nexts new (omega (arith, long, c.in_ok-nexts.nexts.ok.0)))) (led_over net c.args.forks.now c.requires.forks old new c.in_ok-nexts.ensures long each)
