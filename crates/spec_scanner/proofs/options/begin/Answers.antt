use Rattle.std.proofs.Common.{rules, arith, ◌≡◌, ◌≢◌, get_or, length, ◌<◌}
use Rattle.std.proofs.lemmas.List.{get_or_past}
use Rattle.spec_scanner.proofs.Beginnings.{begins_some, begins_unclosed, begins_without}
use Rattle.spec_scanner.proofs.options.begin.Goals as goal
use Rattle.spec_scanner.proofs.options.begin.Goals.{in_default-via-then-front-lt1, in_default-via-else-front-lt1+in_default-1}

pub returns-in_default-clause-begins : goal.returns-in_default-clause-begins
returns-in_default-clause-begins c =
    let other : get_or c.without_blanks-front.result.now 0 0 ≢ 40 = elim c.in_default.branch [
      | in_default-via-then-front-lt1 w ↦ let empty : length c.without_blanks-front.result.now < 1 = search rules in λ opens. omega (arith, opens, get_or_past c.without_blanks-front.result.now 0 0)
      | in_default-via-else-front-lt1+in_default-1 w ↦ search rules
    ] in
    rw c.without_options.ensures (begins_without c.args.text.now c.without_blanks-front.result.now c.without_blanks-front.ensures other)

pub returns-in_default-find_byte-clause-begins : goal.returns-in_default-find_byte-clause-begins
returns-in_default-find_byte-clause-begins c =
    let opens : get_or c.without_blanks-front.result.now 0 0 ≡ 40 = search rules in
    rw (c.without_options-in_default-find_byte.ensures, c.at-unclosed.ensures) (begins_unclosed c.args.text.now c.without_blanks-front.result.now c.without_blanks-front.ensures opens c.in-40.len_at_least c.in_default-find_byte.ensures)

pub returns-clause-begins : goal.returns-clause-begins
returns-clause-begins c =
    let opens : get_or c.without_blanks-front.result.now 0 0 ≡ 40 = search rules in
    begins_some c.args.text.now c.without_blanks-front.result.now c.without_blanks-front.ensures opens c.in-40.len_at_least c.in-Some.size c.in-Some.ensures c.read_words-read.result c.signs_of.result c.least_with_clashes.result
    c.read_words-read.ensures c.signs_of.ensures c.least_with_clashes.ensures
