use Rattle.std.proofs.Common.{subst}
use Rattle.pipe_model.proofs.FirstWords.{same_word}
use Rattle.argument_parts.specs.Ranges.{IsSpelling}
use Rattle.argument_parts.proofs.range_words.columns.Goals as goal

pub returns-in-None-clause-read : goal.returns-in-None-clause-read
returns-in-None-clause-read c = λ word rest spelling first spelled.
    let none = rw c.in-None.is at c.in_ok-range.ensures.read in
    none spelling (subst (λ word. IsSpelling word spelling) (same_word c.args.text.now word rest _ _ first c.first_word.ensures) spelled)
