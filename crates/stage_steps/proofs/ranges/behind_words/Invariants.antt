use Rattle.stage_steps.specs.Parts.{WordsBehind}
use Rattle.stage_steps.proofs.ranges.behind_words.Given as goal

abbrev pub invariant-loop : goal.invariant-loop
invariant-loop l = WordsBehind l.counter l.rec l.rest
