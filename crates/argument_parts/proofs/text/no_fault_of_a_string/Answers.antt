use Rattle.argument_parts.proofs.Outcomes.{no_fault}
use Rattle.argument_parts.proofs.text.no_fault_of_a_string.Goals as goal

pub returns : goal.returns
returns c = no_fault
