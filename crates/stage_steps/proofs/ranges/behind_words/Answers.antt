use Rattle.stage_steps.proofs.Words.{all_behind, behind_blanks, behind_first_word, word_behind}
use Rattle.stage_steps.proofs.ranges.behind_words.Goals as goal

pub returns-then-is_empty : goal.returns-then-is_empty
returns-then-is_empty c = all_behind c.args.count c.loop.counter c.args.rec.now c.loop.rest.now c.is_empty.result c.loop.invariant c.loop-test.true c.is_empty.ensures c.if-is_empty.true

pub loop-preserved : goal.loop-preserved
loop-preserved c = word_behind c.loop.counter c.args.rec.now c.loop.rest.now c.without_blanks.result.now c.first_word.result.1.now c.loop.invariant (behind_blanks _ _ c.without_blanks.ensures) (behind_first_word _ _ _ c.first_word.ensures)
