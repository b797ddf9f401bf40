use Rattle.spec_scanner.proofs.Leasts.{least_more}
use Rattle.spec_scanner.proofs.settings.least_also.Goals as goal

pub returns-in-Some : goal.returns-in-Some
returns-in-Some c = λ faults is. rw (c.in-Some.is, c.least.ensures) (least_more c.args.found c.in-Some.fault faults is)
