-- The levels below the place are closed, the others as they were.
use Rattle.std.proofs.Common.{◌≡◌, ◌<◌, ◌≤◌, ℕ, slice_get}
use Rattle.std.specs.Option.{option_map}
use Rattle.commit_levels.specs.UnitState.{progress_at}
use Rattle.commit_levels.specs.Kept.{closed_level}
use Rattle.commit_levels.proofs.unit.close.Given as goal

abbrev pub invariant-loop-place : goal.invariant-loop-place
invariant-loop-place l =
    ((k : ℕ) → k < l.place → slice_get l.levels k ≡ option_map (closed_level (progress_at k l.member) l.code) (slice_get l.initial.levels k))
    × ((k : ℕ) → l.place ≤ k → slice_get l.levels k ≡ slice_get l.initial.levels k)
