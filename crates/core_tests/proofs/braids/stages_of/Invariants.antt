use Rattle.std.proofs.Common.{◌≡◌, ℕ, [], ◌≤◌, length, slice_get, Some}
use Rattle.pipe_model.specs.declared.net.Strand.{Strand}
use Rattle.core_tests.proofs.braids.stages_of.Given as goal

abbrev pub invariant-loop-k : goal.invariant-loop-k
invariant-loop-k g l = record {
  count : length l.stages.items ≡ l.k;
  within : l.k ≤ length l.strands;
  each : (s : ℕ) (p : Strand) (stage : g.row.S.Denot) → slice_get l.strands s ≡ Some p → slice_get l.stages.items s ≡ Some stage → g.S.Stage.stands stage p [];
}
