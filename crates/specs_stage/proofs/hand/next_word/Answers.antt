use Rattle.stage_steps.proofs.Words.{behind_blanks, behind_first_word}
use Rattle.specs_stage.proofs.Hands.{none_found, one_found}
use Rattle.specs_stage.proofs.hand.next_word.Goals as goal

pub returns-then-is_empty : goal.returns-then-is_empty
returns-then-is_empty c = none_found c.args.len c.args.rest.now c.without_blanks-text.result.now c.is_empty.result (behind_blanks _ _ c.without_blanks-text.ensures) c.is_empty.ensures c.if-is_empty.true

pub returns : goal.returns
returns c =
    one_found c.args.len c.args.rest.now c.without_blanks-text.result.now c.first_word.result.1.now c.is_empty.result c.requires (behind_blanks _ _ c.without_blanks-text.ensures) c.is_empty.ensures c.if-is_empty.false
    (behind_first_word _ _ _ c.first_word.ensures)
