use Rattle.std.proofs.Common.{◌≡◌, ◌≤◌, length, drop}
use Rattle.std.specs.Prelude.{◌==◌}
use Rattle.std.specs.List.{slice_split}
use Rattle.stage_steps.proofs.ranges.front_fields.Given as goal

abbrev pub invariant-loop : goal.invariant-loop
invariant-loop l = (drop l.counter (slice_split (λ b. b == 9) l.rec) ≡ slice_split (λ b. b == 9) l.rest) × (length l.rest ≤ length l.rec)
