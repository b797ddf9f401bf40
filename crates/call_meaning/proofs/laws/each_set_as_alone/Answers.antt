use Rattle.call_meaning.proofs.SetEnds.{as_alone}
use Rattle.call_meaning.proofs.SetLines.{line_fits}
use Rattle.call_meaning.proofs.laws.each_set_as_alone.Goals as goal

pub returns-clause-alone : goal.returns-clause-alone
returns-clause-alone c words spec steps workers before ended run same fits means = as_alone words spec steps workers before ended run same fits means

pub returns-clause-fits : goal.returns-clause-fits
returns-clause-fits c specs nets before are fit k spec net at is = line_fits before specs nets are fit k spec net at is
