use Rattle.std.proofs.Common.{[], ◌∷◌, arith}
use Rattle.pipe_model.proofs.FirstWords.{same_word}
use Rattle.argument_parts.proofs.counts.times.Goals as goal

pub returns-in-None-clause-read : goal.returns-in-None-clause-read
returns-in-None-clause-read c = (
  rw c.in-None.is at c.in_ok-spelled.ensures.read,
  λ rest first.
      let same = same_word c.args.text.now _ _ (42 ∷ []) rest c.first_word.ensures first in
      grind (arith, c.eq.ensures, c.if-eq.false, c.as_slice.ensures, same),
)
