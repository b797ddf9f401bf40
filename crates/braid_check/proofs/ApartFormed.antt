-- The net of the example is well formed.
use Rattle.std.proofs.Common.{◌≡◌, ℕ, zero, suc, false, [], ◌∷◌, refl, arith}
use Rattle.pipe_model.specs.Members.{flag_at}
use Rattle.pipe_model.specs.WellFormed.{IsWellFormed}
use Rattle.confluence_laws.proofs.Formed.{lone_formed}
use Rattle.braid_check.specs.Examples.{apart}

no_flag_of_one : (k : ℕ) → flag_at (false ∷ []) k ≡ false
no_flag_of_one zero = refl
no_flag_of_one (suc k) = refl

no_flag_of_two : (k : ℕ) → flag_at (false ∷ false ∷ []) k ≡ false
no_flag_of_two zero = refl
no_flag_of_two (suc zero) = refl
no_flag_of_two (suc (suc k)) = refl

pub apart_formed : IsWellFormed apart
apart_formed = lone_formed apart (
  record { streams = 2; some = omega arith; few = omega arith; whole = refl; part = refl; main = refl; proper = refl; inputs = refl; outputs = refl; told = record { inputs = refl; outputs = refl; has_input = no_flag_of_two; has_output = no_flag_of_one } },
  (
    record { streams = 2; some = omega arith; few = omega arith; whole = refl; part = refl; main = refl; proper = refl; inputs = refl; outputs = refl; told = record { inputs = refl; outputs = refl; has_input = no_flag_of_two; has_output = no_flag_of_one } },
    (
      record { streams = 2; some = omega arith; few = omega arith; whole = refl; part = refl; main = refl; proper = refl; inputs = refl; outputs = refl; told = record { inputs = refl; outputs = refl; has_input = no_flag_of_two; has_output = no_flag_of_two } },
      tt,
    ),
  ),
) tt (omega arith) refl refl
