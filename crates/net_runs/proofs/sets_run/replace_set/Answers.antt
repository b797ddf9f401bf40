use Rattle.net_runs.specs.SetRuns.{end_of}
use Rattle.net_runs.proofs.SetPuts.{ran_files}
use Rattle.net_runs.proofs.sets_run.replace_set.Goals as goal

pub returns-in-Ran-clause-stored : goal.returns-in-Ran-clause-stored
returns-in-Ran-clause-stored g c = c.replace_files.ensures.stored (end_of c.args.ended).effect.files (ran_files c.args.ended c.in-Ran.field-0 c.in-Ran.is c.requires)
