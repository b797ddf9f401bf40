-- The inside: what is found of rings and rounds.
use Rattle.std.specs.Prelude.{ℕ, List}
use Rattle.std.specs.declared.option.Option.{Option}
use Rattle.std.specs.declared.option.Option.TheVariants.{Some, None}
use Rattle.pipe_model.specs.declared.net.Net.{Net}
use Rattle.pipe_model.specs.Plain.{IsAcyclic}
use Rattle.stall_lint.specs.ClosedWalks.{IsRound}
use Rattle.stall_lint.specs.Rooted.{IsRooted}

-- no links run in a ring, or these strands are one
abbrev pub IsRanked : Net → Option (List ℕ) → Type 0
IsRanked net None = IsAcyclic net
IsRanked net (Some walk) = IsRound net walk

-- nothing closes a walk, or these strands are a round
abbrev pub IsSought : Net → Option (List ℕ) → Type 0
IsSought net None = IsAcyclic net × IsRooted net
IsSought net (Some walk) = IsRound net walk
