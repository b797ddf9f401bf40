use Rattle.std.proofs.Common.{◌-◌, ◌≤◌, ◌<◌, ℕ, length}
use Rattle.bstr.specs.Find.{OccursAt}
use Rattle.stage_steps.proofs.strings.find_by_byte.Given as goal

abbrev pub invariant-loop-from : goal.invariant-loop-from
invariant-loop-from l = record {
  inside : l.from ≤ length l.part;
  -- the string stands at no place before this one
  before : (k : ℕ) → k < l.from → OccursAt l.part l.text k → ⊥;
}

abbrev pub decreases-loop-from : goal.decreases-loop-from
decreases-loop-from l = length l.part - l.from
