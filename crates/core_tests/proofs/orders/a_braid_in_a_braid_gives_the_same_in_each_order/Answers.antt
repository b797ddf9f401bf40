use Rattle.std.proofs.Common.{sym, subst}
use Rattle.pipe_model.specs.declared.net.Net.{Net}
use Rattle.pipe_model.specs.WellFormed.{IsWellFormed}
use Rattle.confluence_laws.proofs.FormedBraids.{nesting_formed}
use Rattle.core_tests.proofs.orders.a_braid_in_a_braid_gives_the_same_in_each_order.Goals as goal

pub outcome-requires : goal.outcome-requires
outcome-requires g c = subst (λ (n : Net). IsWellFormed n) (sym c.in_ok-net.ensures) nesting_formed
