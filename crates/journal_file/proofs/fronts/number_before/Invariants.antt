use Rattle.std.proofs.Common.{◌≤◌, length}
use Rattle.journal_file.proofs.Numbers.{HasRead}
use Rattle.journal_file.proofs.fronts.number_before.Given as goal

abbrev pub invariant-loop-left : goal.invariant-loop-left
invariant-loop-left l = HasRead l.text l.left l.value × (l.value ≤ l.most)

abbrev pub decreases-loop-left : goal.decreases-loop-left
decreases-loop-left l = length l.left
