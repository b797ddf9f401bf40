use Rattle.clap.specs.Words.{found_of}
use Rattle.std.proofs.lemmas.Result.{err_from_is_err_and}
use Rattle.call_words.proofs.Refusals.{gives_if_err, gives_if_ok, none_where_faulty, read_of}
use Rattle.call_words.proofs.words.read_words.Goals as goal

pub returns-in_err-matches-clause-refused : goal.returns-in_err-matches-clause-refused
returns-in_err-matches-clause-refused c =
    let p = err_from_is_err_and c.from_residual.result c.from_residual.ensures.1 in
    rw (p.1, p.2) (λ usage. none_where_faulty _ (c.in_err-matches.ensures.refused usage))

pub returns-clause-read : goal.returns-clause-read
returns-clause-read c =
    gives_if_ok _ c.demanded.result _ (read_of _ (found_of c.in_ok-matches.matches) c.in_ok-matches.ensures.read c.in_ok-matches.ensures.rows) c.demanded.ensures.command

pub returns-clause-refused : goal.returns-clause-refused
returns-clause-refused c =
    gives_if_err _ c.demanded.result _ (read_of _ (found_of c.in_ok-matches.matches) c.in_ok-matches.ensures.read c.in_ok-matches.ensures.rows) c.demanded.ensures.command
