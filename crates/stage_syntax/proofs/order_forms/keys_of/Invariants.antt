use Rattle.std.proofs.Common.{◌≡◌, ◌++◌, length, option_map}
use Rattle.stage_syntax.specs.OrderForms.{keys_of}
use Rattle.stage_syntax.proofs.order_forms.keys_of.Given as goal

abbrev pub invariant-loop-left : goal.invariant-loop-left
invariant-loop-left l = keys_of l.fn.values ≡ option_map (λ more. l.keys ++ more) (keys_of l.left)

abbrev pub decreases-loop-left : goal.decreases-loop-left
decreases-loop-left l = length l.left
