-- The numbers so far and those to come are those of the walk.
use Rattle.std.proofs.Common.{◌≡◌, ◌++◌, codes, drop}
use Rattle.call_meaning.specs.Meaning.{after_blanks}
use Rattle.call_streams.proofs.lint.walk_line.Given as goal

abbrev pub invariant-loop-strand : goal.invariant-loop-strand
invariant-loop-strand l = l.text.items ++ after_blanks (drop l.strand-index l.walk) ≡ codes "may stall: walk" ++ after_blanks l.walk
