-- Counts in arguments, and parts of the records so far.
use Rattle.std.specs.Prelude.{ℕ, ◌-◌, nat_le, Bool, true, false, List, map, drop, take, length}
use Rattle.pipe_model.specs.declared.kind.Times.{Times}
use Rattle.pipe_model.specs.declared.kind.Times.TheVariants.{Only, All}
use Rattle.pipe_model.specs.Row.{Pair}
use Rattle.pipe_model.specs.Shape.{Records}

-- the k-th record, counted from 1, is one of the first n; with `*` each record is
abbrev pub is_among : Times → ℕ → Bool
is_among (Only n) k = nat_le k n
is_among All k = true

-- n records are there; `*` is never reached
abbrev pub is_reached : Times → ℕ → Bool
is_reached (Only n) k = nat_le n k
is_reached All k = false

-- the number, or for `*` the number of all
abbrev pub of_all : Times → ℕ → ℕ
of_all (Only n) all = n
of_all All all = all

-- the records before the one at hand
abbrev pub earlier : Records → Records
earlier recs = take (length recs - 1) recs

-- the last n records
abbrev pub last_of : ℕ → Records → Records
last_of n recs = drop (length recs - n) recs

-- these records, each on the output
abbrev pub all_on : ℕ → Records → List Pair
all_on output recs = map (λ rec. (output, rec)) recs
