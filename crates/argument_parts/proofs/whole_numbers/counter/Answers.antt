use Rattle.std.proofs.Common.{◌+◌, [], ◌∷◌, length, ap, arith}
use Rattle.pipe_model.proofs.FirstWords.{same_word}
use Rattle.argument_parts.proofs.whole_numbers.counter.Goals as goal

pub returns-in_default-2-clause-read : goal.returns-in_default-2-clause-read
returns-in_default-2-clause-read c = λ k rest is.
    let same = same_word c.args.text.now _ _ (35 ∷ ((48 + k) ∷ [])) rest c.first_word.ensures is.first in
    omega (arith, ap length same, c.in_default.len_at_least)
