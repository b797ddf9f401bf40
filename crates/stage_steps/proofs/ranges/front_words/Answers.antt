use Rattle.std.proofs.Common.{◌∙◌}
use Rattle.stage_steps.proofs.Words.{behind_blanks, behind_first_word, front_all, front_goes}
use Rattle.stage_steps.proofs.ranges.front_words.Goals as goal

pub returns-then-is_empty : goal.returns-then-is_empty
returns-then-is_empty c = λ at rec is.
    c.front.ensures ∙ front_all c.args.count c.loop.counter c.args.text.now c.loop.rest.now c.without_blanks-word.result.now c.is_empty.result c.loop.invariant c.loop-test.true (behind_blanks _ _ c.without_blanks-word.ensures) c.is_empty.ensures c.if-is_empty.true at rec is

pub loop-preserved : goal.loop-preserved
loop-preserved c =
    front_goes c.loop.counter c.args.text.now c.loop.rest.now c.without_blanks-word.result.now c.first_word.result.1.now c.is_empty.result c.loop.invariant c.requires (behind_blanks _ _ c.without_blanks-word.ensures) c.is_empty.ensures c.if-is_empty.false
    (behind_first_word _ _ _ c.first_word.ensures)
