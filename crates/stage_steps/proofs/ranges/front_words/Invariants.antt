use Rattle.stage_steps.proofs.Words.{AreInFront}
use Rattle.stage_steps.proofs.ranges.front_words.Given as goal

abbrev pub invariant-loop : goal.invariant-loop
invariant-loop l = AreInFront l.counter l.text l.rest
