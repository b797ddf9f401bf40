use Rattle.std.proofs.Common.{FitsSigned, w64, arith, rules, sym, ◌∙◌}
use Rattle.std.proofs.lemmas.Int.{to_z-of_z}
use Rattle.argument_parts.proofs.WholeParts.{no_digits, other_digits, whole_in}
use Rattle.argument_parts.proofs.whole_numbers.whole.Goals as goal
use Rattle.argument_parts.proofs.whole_numbers.whole.Goals.{then-is_empty-via-then-is_empty, then-is_empty-via-else-is_empty+then-not-is_empty}

pub returns-then-is_empty-clause-read : goal.returns-then-is_empty-clause-read
returns-then-is_empty-clause-read c = elim c.then-is_empty.branch [
  | then-is_empty-via-then-is_empty w ↦
      no_digits c.args.text.now _ _ _ _ _ _ c.first_word.ensures c.sign-minus.ensures.spells c.sign-minus.ensures.signed c.first_digits.ensures (grind (arith, c.is_empty.ensures, w.if-is_empty.true))
  | then-is_empty-via-else-is_empty+then-not-is_empty w ↦
      other_digits c.args.text.now _ _ _ _ _ _ c.first_word.ensures c.sign-minus.ensures.spells c.sign-minus.ensures.signed c.first_digits.ensures (grind (arith, w.is_empty-else-is_empty.ensures, w.if-not-is_empty.true))
]

pub returns-in-Some-clause-read : goal.returns-in-Some-clause-read
returns-in-Some-clause-read c =
    let fits : FitsSigned w64 c.in-Some.value = search rules in
    rw (to_z-of_z w64 c.in-Some.value fits) (whole_in c.args.text.now _ _ _ _ _ _ c.first_word.ensures c.sign-minus.ensures.spells c.sign-minus.ensures.signed c.first_digits.ensures c.in-Some.value
    (grind (arith, c.is_empty.ensures, c.if-is_empty.false)) (grind (arith, c.is_empty-else-is_empty.ensures, c.if-not-is_empty.false)) (sym c.value_of.ensures ∙ c.in-Some.is))
