use Rattle.std.proofs.Common.{length}
use Rattle.spec_scanner.proofs.Wording.{WordsRead}
use Rattle.spec_scanner.proofs.options.read_words.Given as goal

abbrev pub invariant-loop-word : goal.invariant-loop-word
invariant-loop-word l = WordsRead l.fn.start l.inside l.at l.rest l.close l.read

abbrev pub decreases-loop-word : goal.decreases-loop-word
decreases-loop-word l = length l.rest
