use Rattle.std.proofs.Common.{sym, subst}
use Rattle.pipe_model.specs.declared.net.Net.{Net}
use Rattle.pipe_model.specs.WellFormed.{IsWellFormed}
use Rattle.core_tests.proofs.Prefixing.{prefixing_formed}
use Rattle.core_tests.proofs.orders.headings_come_before_the_same_lines_in_each_order.Goals as goal

pub outcome-requires : goal.outcome-requires
outcome-requires g c = subst (λ (n : Net). IsWellFormed n) (sym c.in_ok-net.ensures) prefixing_formed
