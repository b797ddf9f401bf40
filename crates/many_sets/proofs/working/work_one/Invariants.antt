use Rattle.many_sets.specs.Hands.{MayWorkOn, AreLeftTo}
use Rattle.many_sets.proofs.working.work_one.Given as goal

abbrev pub invariant-loop : goal.invariant-loop
invariant-loop g l = record {
  may : MayWorkOn l.boards l.hand.passes.items;
  left : AreLeftTo l.initial.hand.passes.items l.hand.passes.items;
}
