use Rattle.many_sets.proofs.Meetings.{Meeting}
use Rattle.many_sets.proofs.closing.meet_last.Given as goal

abbrev pub invariant-loop-at : goal.invariant-loop-at
invariant-loop-at g l = record { met : Meeting l.board l.at l.fn.hands l.hands l.all }
