use Rattle.confluence_laws.proofs.Passes.{one_whole}
use Rattle.stream_laws.proofs.Finishes.{finishes}
use Rattle.stream_laws.proofs.ends.finished.Goals as goal

pub returns-clause-some : goal.returns-clause-some
returns-clause-some c = λ finite issues strict g named. finishes c.args.strand.now g named (record { finite = finite; issues = issues; strict = strict })

pub returns-clause-one : goal.returns-clause-one
returns-clause-one c = λ g a b a_done b_done. one_whole c.args.strand.now g b b_done a a_done
