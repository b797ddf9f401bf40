use Rattle.std.proofs.Common.{refl, inl}
use Rattle.argument_parts.proofs.PairFronts.{no_third, pair_read, unclosed_once}
use Rattle.argument_parts.proofs.Wanting.{wants_always}
use Rattle.argument_parts.proofs.string_pairs.delimited_strings.Goals as goal

pub returns-in_default-clause-refused : goal.returns-in_default-clause-refused
returns-in_default-clause-refused c = rw c.at.ensures (inl (unclosed_once c.args.text.now (c.in_default.ensures.unclosed c.requires.begins), refl))

pub returns-in_default-find_byte-clause-refused : goal.returns-in_default-find_byte-clause-refused
returns-in_default-find_byte-clause-refused c = rw c.at-in_default-find_byte.ensures (inl (no_third c.args.text.now _ _ c.in-Some.ensures.cases c.in_default-find_byte.ensures, refl))

pub returns-clause-read : goal.returns-clause-read
returns-clause-read c = rw (c.in_ok-from_slice.ensures, c.in_ok-from_slice-2.ensures) (pair_read c.args.text.now _ _ c.in-Some.ensures.cases c.in-Some-find_byte.at c.in-Some-find_byte.ensures)

pub returns-in_err-from_slice-clause-memory : goal.returns-in_err-from_slice-clause-memory
returns-in_err-from_slice-clause-memory c = wants_always _ (_, _, _, pair_read c.args.text.now _ _ c.in-Some.ensures.cases c.in-Some-find_byte.at c.in-Some-find_byte.ensures) c.from_residual.result

pub returns-in_err-from_slice-2-clause-memory : goal.returns-in_err-from_slice-2-clause-memory
returns-in_err-from_slice-2-clause-memory c = wants_always _ (_, _, _, pair_read c.args.text.now _ _ c.in-Some.ensures.cases c.in-Some-find_byte.at c.in-Some-find_byte.ensures) c.from_residual-in_err-from_slice-2.result
