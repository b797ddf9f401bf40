-- The inside: the strands that hops round a circle pass.
use Rattle.std.specs.Prelude.{◌==◌, if◌then◌else◌, List, [], ◌∷◌, ◌++◌}
use Rattle.pipe_model.specs.State.{Who}
use Rattle.stall_lint.specs.declared.hops.Hop.{Hop}

-- the strand to which a group is entered, and the one from which it is left, where that is another
abbrev pub within_group : Who → Who → List Who
within_group entry exit = entry ∷ (if entry == exit then [] else exit ∷ [])

-- the first of these hops, or the one that follows behind them
abbrev pub next_of : Hop → List Hop → Hop
next_of behind [] = behind
next_of behind (hop ∷ hops) = hop

-- the strands that these hops pass, each in the group to which it comes, where another hop follows behind them
abbrev pub around : Hop → List Hop → List Who
around behind [] = []
around behind (hop ∷ hops) = within_group hop.entry (next_of behind hops).exit ++ around behind hops
