use Rattle.std.proofs.Common.{◌≡◌, ◌+◌, true, drop}
use Rattle.unique_sort.specs.Words.{words_begun}
use Rattle.unique_sort.proofs.word_count.word_count.Given as goal

-- those found, and those that begin in the rest, are all
abbrev pub invariant-loop-byte : goal.invariant-loop-byte
invariant-loop-byte l = l.count + words_begun l.is_between (drop l.byte-index l.rec) ≡ words_begun true l.rec
