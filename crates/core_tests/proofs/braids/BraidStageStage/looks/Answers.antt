use Rattle.std.proofs.Common.{subst}
use Rattle.core_tests.specs.contracts.braids.BraidStageStage.TheImpl.{stands-value}
use Rattle.core_tests.proofs.braids.BraidStageStage.looks.Goals as goal

pub returns-in-Console : goal.returns-in-Console
returns-in-Console c s h stood = c.looks.ensures s h (subst (λ x. stands-value.it x s h) c.in-Console.is stood)
