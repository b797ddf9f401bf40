use Rattle.std.proofs.Common.{◌≡◌, ℕ, [], ◌≤◌, length, slice_get, Some}
use Rattle.pipe_model.specs.declared.net.Strand.{Strand}
use Rattle.stage_table.specs.declared.built_in.BuiltIn.{BuiltIn}
use Rattle.stage_table.specs.BuiltIn.{BuiltInStands}
use Rattle.stage_table.proofs.fresh.make_all.Given as goal

abbrev pub invariant-loop-k : goal.invariant-loop-k
invariant-loop-k l = record {
  count : length l.stages.items ≡ l.k;
  within : l.k ≤ length l.strands;
  each : (s : ℕ) (p : Strand) (stage : BuiltIn) → slice_get l.strands s ≡ Some p → slice_get l.stages.items s ≡ Some stage → BuiltInStands stage p [];
}
