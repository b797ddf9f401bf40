use Rattle.std.proofs.Common.{◌≡◌, take, Some}
use Rattle.stage_syntax.specs.OrderForms.{totals_of}
use Rattle.stage_syntax.proofs.order_forms.totals_of.Given as goal

abbrev pub invariant-loop-value : goal.invariant-loop-value
invariant-loop-value l = totals_of (take l.value-index l.values) ≡ Some l.totals.items
