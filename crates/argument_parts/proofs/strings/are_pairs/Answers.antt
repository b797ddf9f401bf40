use Rattle.std.proofs.Common.{◌≡◌, ◌∙◌, ◌<◌, ◌%◌, length, arith, sym}
use Rattle.argument_parts.proofs.strings.are_pairs.Goals as goal
use Rattle.argument_parts.proofs.strings.are_pairs.Goals.{then-not-is_empty, else-not-is_empty}

pub returns-then-bytes-eq0 : goal.returns-then-bytes-eq0
returns-then-bytes-eq0 c = elim c.if-not-is_empty.branch [
  | then-not-is_empty w ↦
      (let value = w.value-is in
      let filled : 0 < length c.args.bytes.now = grind (arith, c.is_empty.ensures, w.if-not-is_empty.true) in
      let even : length c.args.bytes.now % 2 ≡ 0 = grind (arith, w.value-is, c.if-bytes-eq0.true) in
      (λ yes. (filled, even, sym c.are_digits.ensures ∙ yes), λ are. c.are_digits.ensures ∙ are.2))
  | else-not-is_empty w ↦ let value = w.value-is in let yes = c.if-bytes-eq0.true in cc
]
