use Rattle.std.proofs.Common.{sym, subst}
use Rattle.pipe_model.specs.declared.net.Net.{Net}
use Rattle.pipe_model.specs.WellFormed.{IsWellFormed}
use Rattle.braid_check.proofs.ApartFormed.{apart_formed}
use Rattle.core_tests.proofs.joins.the_least_reason_is_told.Goals as goal

pub settled-requires : goal.settled-requires
settled-requires g c = subst (λ (n : Net). IsWellFormed n) (sym c.in_ok-net.ensures) apart_formed
