use Rattle.std.proofs.Common.{subst}
use Rattle.pipe_model.proofs.FirstWords.{same_word}
use Rattle.argument_parts.specs.Numbers.{IsNumber}
use Rattle.argument_parts.proofs.number_words.number_in.Goals as goal

pub returns-in_default-clause-read : goal.returns-in_default-clause-read
returns-in_default-clause-read c = λ word rest value first counts.
    c.in_default.ensures value (subst (λ word. IsNumber word value) (same_word c.args.text.now word rest _ _ first c.first_word.ensures) counts)
