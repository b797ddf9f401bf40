use Rattle.argument_parts.proofs.KeywordParts.{other_word}
use Rattle.argument_parts.proofs.keywords.keyword.Goals as goal

pub returns-else-is_spelled-clause-read : goal.returns-else-is_spelled-clause-read
returns-else-is_spelled-clause-read c = λ rest. other_word c.args.text.now _ _ rest c.args.key c.first_word.ensures (λ same.
    let is = c.is_spelled.ensures.1 same in
    let no = c.if-is_spelled.false in
    cc)
