use Rattle.std.proofs.Common.{◌∙◌, inl, inr, refl, sym}
use Rattle.argument_parts.proofs.Delimiters.{delimiter_begins}
use Rattle.argument_parts.proofs.PairFronts.{delimited_any}
use Rattle.argument_parts.proofs.Wanting.{wants_if}
use Rattle.argument_parts.proofs.string_pairs.any_string.Goals as goal

pub returns-then-is_ascii_alphanumeric-clause-memory : goal.returns-then-is_ascii_alphanumeric-clause-memory
returns-then-is_ascii_alphanumeric-clause-memory c = wants_if _ _ (λ found. (found.0, found.1, inr found.2)) c.hexadecimal_word.result c.hexadecimal_word.ensures.memory

pub returns-in_default-clause-refused : goal.returns-in_default-clause-refused
returns-in_default-clause-refused c = rw c.at.ensures (inl (c.in_default.ensures.unclosed (delimiter_begins c.args.text.now c.requires.begins (sym c.is_ascii_alphanumeric.ensures.value ∙ c.if-is_ascii_alphanumeric.false)), refl))

pub returns-clause-read : goal.returns-clause-read
returns-clause-read c = rw c.in_ok-from_slice.ensures (delimited_any c.args.text.now _ _ c.in-Some.ensures.cases)
