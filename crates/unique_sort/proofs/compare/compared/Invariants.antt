use Rattle.std.proofs.Common.{◌≡◌, drop}
use Rattle.pipe_model.specs.OrderRows.{goes_before}
use Rattle.unique_sort.proofs.compare.compared.Given as goal

-- by the keys so far they tie
abbrev pub invariant-loop-key : goal.invariant-loop-key
invariant-loop-key l = goes_before (drop l.key-index l.keys) l.rec l.other ≡ goes_before l.keys l.rec l.other
