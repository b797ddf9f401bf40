use Rattle.std.proofs.Common.{◌∙◌, refl}
use Rattle.call_words.specs.Command.{app}
use Rattle.call_words.proofs.Refusals.{refused_at, rows_at}
use Rattle.call_words.proofs.grammar.matches_of.Goals as goal

pub returns-in-Ok-clause-rows : goal.returns-in-Ok-clause-rows
returns-in-Ok-clause-rows c = rows_at _ app _ c.in-Ok.matches c.in_ok-command.ensures refl c.in-Ok.ensures.matches

pub returns-in-Err-clause-refused : goal.returns-in-Err-clause-refused
returns-in-Err-clause-refused c =
    refused_at _ _ c.in-Err.error c.fault_of_kind.result c.in_ok-command.ensures c.in-Err.ensures.kinds (λ memory. c.fault_of_kind.ensures.memory (c.kind.ensures ∙ memory))
