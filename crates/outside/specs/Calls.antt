-- Calls by their numbers, some of which are to fail.
use Rattle.std.specs.Prelude.{ℕ, ◌+◌, ◌-◌, ◌^◌, ◌==◌, Bool, List, min}
use Rattle.std.specs.List.{list_any}

-- the number of the call after this many, or one more fault than this many: at its type's end it stands still
abbrev pub next_number : ℕ → ℕ
next_number calls = min (calls + 1) (2 ^ 64 - 1)

-- the call is one of those that are to fail
abbrev pub is_due : List ℕ → ℕ → Bool
is_due fails call = list_any (λ number. number == call) fails
