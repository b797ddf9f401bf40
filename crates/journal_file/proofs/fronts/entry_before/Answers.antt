use Rattle.journal_file.proofs.Lines.{no_stream}
use Rattle.journal_file.proofs.fronts.entry_before.Goals as goal

pub returns-in_err-stream-clause-none : goal.returns-in_err-stream-clause-none
returns-in_err-stream-clause-none c =
    rw c.from_residual-in_err-stream.ensures (no_stream c.args.text.now c.in_ok-strand.rest.now c.in_ok-strand.strand c.in_ok-strand.ensures.found.1 c.in_ok-strand.ensures.found.0 c.in_err-stream.ensures.none)
