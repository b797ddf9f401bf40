-- The net is well formed, and each stage stands for its strand.
use Rattle.std.proofs.Common.{rules, [], ◌∷◌, refl, sym, ◌∙◌, ap, subst}
use Rattle.pipe_model.specs.declared.net.Net.{Net}
use Rattle.pipe_model.specs.WellFormed.{IsWellFormed}
use Rattle.confluence_laws.specs.Examples.{passing}
use Rattle.confluence_laws.proofs.Formed.{passing_formed}
use Rattle.core_machine.specs.Machine.{started}
use Rattle.core_machine.proofs.FreshStages.{fresh_each}
use Rattle.core_machine.proofs.Jobs.{if_ok}
use Rattle.core_tests.specs.declared.consoles.Console.TheVariants.{Reads, Writes}
use Rattle.core_tests.proofs.consoles.passing_core.Goals as goal

pub start-requires-clause-formed : goal.start-requires-clause-formed
start-requires-clause-formed c = subst (λ (n : Net). IsWellFormed n) (sym c.in_ok-net.ensures) passing_formed

pub start-requires-clause-fresh : goal.start-requires-clause-fresh
start-requires-clause-fresh c =
    fresh_each _ _ _ passing.strands (Reads c.in_ok-first.first ∷ Writes c.in_ok-second.second ∷ Writes c.in_ok-last.last ∷ [])
    (ap (λ (n : Net). n.strands) c.in_ok-net.ensures) (search rules) (c.in_ok-first.ensures _ refl refl, (c.in_ok-second.ensures _ refl refl, (c.in_ok-last.ensures _ refl refl, tt)))

pub returns : goal.returns
returns c = if_ok c.start.result (λ core is. is ∙ ap (λ (n : Net). started n c.args.budget) c.in_ok-net.ensures) c.start.ensures
