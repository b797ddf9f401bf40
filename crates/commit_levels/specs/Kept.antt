-- What is kept of a unit for each level.
use Rattle.std.specs.Prelude.{◌≡◌, ℕ, ◌+◌, ◌^◌, ◌<◌, if◌then◌else◌, List, [], ◌∷◌, length, Some, slice_get, ℤ}
use Rattle.commit_levels.specs.declared.unit.Level.{Level}
use Rattle.commit_levels.specs.UnitState.{Member, level_count, stands_at, worst_early, has_asked, has_reached}
use Rattle.commit_levels.specs.declared.member.Progress.{Progress}
use Rattle.pipe_model.specs.Code.{worst_of}

-- how many members stand at the level of a place
abbrev pub standing_at : ℕ → List Member → ℕ
standing_at place [] = 0
standing_at place (m ∷ ms) = if stands_at place m then standing_at place ms + 1 else standing_at place ms

-- what is kept of a level
pub record IsLevelOf (place : ℕ) (unit : List Member) (level : Level) : Type 0 where
  pub standing : level.standing ≡ standing_at place unit
  pub worst : level.worst ≡ worst_early place unit

-- each level is kept
pub record IsKept (unit : List Member) (levels : List Level) : Type 0 where
  pub count : length unit < 2 ^ 32
  pub places : length levels ≡ level_count
  pub each : (place : ℕ) (level : Level) → slice_get levels place ≡ Some level → IsLevelOf place unit level

-- a level after a member ended there with this code
abbrev pub closed_level : Progress → ℤ → Level → Level
closed_level progress code level = record {
  standing = if has_asked progress then level.standing else level.standing + 1;
  worst = if has_reached progress then level.worst else worst_of code level.worst;
}
