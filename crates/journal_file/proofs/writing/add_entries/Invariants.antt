use Rattle.std.proofs.Common.{◌≡◌, ◌++◌, drop}
use Rattle.journal_file.specs.Text.{entry_lines}
use Rattle.journal_file.proofs.writing.add_entries.Given as goal

abbrev pub invariant-loop-entry : goal.invariant-loop-entry
invariant-loop-entry l = l.text.items ++ entry_lines (drop l.entry-index l.entries) ≡ l.fn.text.items ++ entry_lines l.entries
