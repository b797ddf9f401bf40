use Rattle.board.specs.Names.{view}
use Rattle.many_sets.proofs.Dealt.{Dealing}
use Rattle.many_sets.proofs.founding.deal.Given as goal

abbrev pub invariant-loop-at : goal.invariant-loop-at
invariant-loop-at g l = record { dealt : Dealing l.board (view l.fn.pass) l.at l.initial.hands l.hands l.rest }
