use Rattle.std.proofs.Common.{ap, arith, sym, ◌∙◌}
use Rattle.stage_syntax.proofs.OrderLists.{no_totals, totals_more}
use Rattle.stage_syntax.specs.OrderForms.{total_of}
use Rattle.stage_syntax.proofs.order_forms.totals_of.Goals as goal

pub returns-in_default : goal.returns-in_default
returns-in_default c = no_totals c.args.values.now c.loop-value.value-index c.value-item.result (omega arith) (ap total_of (sym c.value-item.is) ∙ sym c.total_of.ensures ∙ c.in_default.is)

pub loop-value-preserved : goal.loop-value-preserved
loop-value-preserved c =
    rw c.in_ok-push.ensures.items
    (totals_more c.args.values.now c.loop-value.value-index c.value-item.result c.loop-value.totals.items c.in-Some.total (omega arith) c.loop-value.invariant (ap total_of (sym c.value-item.is) ∙ sym c.total_of.ensures ∙ c.in-Some.is))
