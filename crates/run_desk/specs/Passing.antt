-- What two events of a strand do in one, where it passes records on.
use Rattle.std.specs.Prelude.{◌≡◌, ℕ, Option, Some, None}
use Rattle.pipe_model.specs.declared.step.Seen.{Seen}
use Rattle.pipe_model.specs.declared.step.Seen.TheVariants.{Saw, Took, Put}
use Rattle.record_pool.specs.PoolState.{PoolState}
use Rattle.run_desk.specs.declared.seat.Ask.TheVariants.{Take, Read}
use Rattle.run_desk.specs.Desk.{DeskState}
use Rattle.run_desk.specs.Telling.{out_door}
use Rattle.run_desk.specs.Turns.{CanTurn, desk_after_turn, desk_at_home, pool_after_turn}

-- the desk after the strand was told this, and came home to take the record of an input
abbrev pub desk_taking : DeskState → ℕ → Seen → ℕ → DeskState
desk_taking d s seen i = desk_at_home (desk_after_turn d s seen) s (Take i)

-- and after it took that, and came home to look at the next one
abbrev pub desk_passed : DeskState → ℕ → Seen → ℕ → DeskState
desk_passed d s seen i = desk_at_home (desk_after_turn (desk_taking d s seen i) s (Took i)) s (Read i)

-- the pool then
abbrev pub pool_passed : DeskState → PoolState → ℕ → Seen → ℕ → PoolState
pool_passed d pool s seen i = pool_after_turn (desk_taking d s seen i) (pool_after_turn d pool s seen) s (Took i)

-- what both events need of the desk and the pool
abbrev pub CanPass : DeskState → PoolState → ℕ → Seen → ℕ → Type 0
CanPass d pool s seen i = CanTurn d pool s seen × CanTurn (desk_taking d s seen i) (pool_after_turn d pool s seen) s (Took i)

-- it saw the record of the input, or it put one through this door
abbrev pub IsBy : DeskState → ℕ → Seen → ℕ → Option ℕ → Type 0
IsBy d s (Saw k) i put = (k ≡ i) × (put ≡ None)
IsBy d s (Put o) i put = (link : ℕ) × (put ≡ Some link) × (out_door d s o ≡ Some link)
IsBy d s _ i put = ⊥
