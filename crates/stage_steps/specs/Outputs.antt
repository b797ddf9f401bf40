-- The outputs of a strand that are open: connected, and not refused.
use Rattle.std.specs.Prelude.{ℕ, suc, Bool, true, ◌&&◌, not, ◌==◌, List, [], ◌∷◌, filter}
use Rattle.std.specs.List.{list_any}
use Rattle.pipe_model.specs.declared.step.Seen.{Seen}
use Rattle.pipe_model.specs.declared.step.Seen.TheVariants.{Refused}
use Rattle.pipe_model.specs.Members.{has, flag_at}
use Rattle.pipe_model.specs.Row.{Act}
use Rattle.pipe_model.specs.Row.Act.{Writes, Repeats, Takes}

-- by the connected outputs from a number on, and the outputs that refused
abbrev pub open_from : ℕ → List Bool → List ℕ → List Bool
open_from k [] refused = []
open_from k (flag ∷ flags) refused = (flag && not (has refused k)) ∷ open_from (suc k) flags refused

-- the flags from a number on, after a refusal
abbrev pub closed_from : ℕ → ℕ → List Bool → List Bool
closed_from k o [] = []
closed_from k o (flag ∷ flags) = (flag && not (o == k)) ∷ closed_from (suc k) o flags

abbrev pub open_after : Seen → List Bool → List Bool
open_after (Refused o) open_flags = closed_from 0 o open_flags
open_after _ open_flags = open_flags

-- there is a connected output, and none is open
abbrev pub none_left : Bool → List Bool → Bool
none_left connected open_flags = connected && not (list_any (λ flag. flag) open_flags)

-- the act can be done
abbrev pub can_do : List Bool → Act → Bool
can_do open_flags (Writes o rec) = flag_at open_flags o
can_do open_flags (Repeats o rec) = flag_at open_flags o
can_do open_flags (Takes i) = true

-- the acts that can be done
abbrev pub live : List Bool → List Act → List Act
live open_flags acts = filter (can_do open_flags) acts
