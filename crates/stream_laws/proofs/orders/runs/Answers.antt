use Rattle.stream_laws.proofs.Uniques.{are_runs, all_in_runs, no_other_runs, unique_puts}
use Rattle.stream_laws.proofs.orders.runs.Goals as goal

pub returns-clause-pairs : goal.returns-clause-pairs
returns-clause-pairs c = λ count range keep recs. unique_puts range count keep recs

pub returns-clause-whole : goal.returns-clause-whole
returns-clause-whole c = all_in_runs

pub returns-clause-by_key : goal.returns-clause-by_key
returns-clause-by_key c = are_runs

pub returns-clause-one : goal.returns-clause-one
returns-clause-one c = no_other_runs
