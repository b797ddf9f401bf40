use Rattle.std.proofs.Common.{sym, subst}
use Rattle.pipe_model.specs.declared.net.Net.{Net}
use Rattle.pipe_model.specs.WellFormed.{IsWellFormed}
use Rattle.confluence_laws.proofs.FormedBraids.{nesting_delayed_formed}
use Rattle.core_tests.proofs.joins.a_copy_on_one_way_is_the_reason.Goals as goal

pub settled-requires : goal.settled-requires
settled-requires g c = subst (λ (n : Net). IsWellFormed n) (sym c.in_ok-net.ensures) nesting_delayed_formed
