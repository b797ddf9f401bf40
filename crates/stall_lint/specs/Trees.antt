-- The inside: trees of groups.
use Rattle.std.specs.Prelude.{List}
use Rattle.std.specs.declared.option.Option.{Option}
use Rattle.std.specs.declared.option.Option.TheVariants.{Some, None}
use Rattle.pipe_model.specs.declared.net.Net.{Net}
use Rattle.stall_lint.specs.Circles.{IsCircle}
use Rattle.stall_lint.specs.Rooted.{IsRooted}
use Rattle.stall_lint.specs.declared.hops.Hop.{Hop}

-- the groups are trees, or these hops come back to where they began
abbrev pub Grows : Net → Option (List Hop) → Type 0
Grows net None = IsRooted net
Grows net (Some hops) = IsCircle net hops
