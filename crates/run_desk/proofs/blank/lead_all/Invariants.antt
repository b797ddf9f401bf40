-- The doors lead to the links from this one on.
use Rattle.std.proofs.Common.{◌≡◌, ◌≤◌, length, drop}
use Rattle.run_desk.specs.Blank.{with_links}
use Rattle.run_desk.proofs.blank.lead_all.Given as goal

abbrev pub invariant-loop-j : goal.invariant-loop-j
invariant-loop-j l = (l.j ≤ length l.links) × (l.doors.items ≡ with_links l.initial.doors.items l.j (drop l.j l.links))

abbrev pub decreases-loop-j : goal.decreases-loop-j
decreases-loop-j l = l.j
