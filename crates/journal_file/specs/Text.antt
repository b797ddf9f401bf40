-- The text of a journal: a first line, a line for each entry, and a last line with their number. Each line ends with a line feed.
use Rattle.std.specs.Prelude.{ℕ, ◌≤◌, List, ◌++◌, length, codes, decimal, flat_map}
use Rattle.std.specs.List.{AllByRecursion}
use Rattle.pipe_model.specs.declared.step.Entry.{Entry}

-- the greatest number of entries
abbrev pub most_entries : ℕ
most_entries = 50000000

-- the numbers of an entry are in their ranges
pub record IsEntry (entry : Entry) : Type 0 where
  pub strand : entry.strand ≤ 4294967295
  pub stream : entry.stream ≤ 65535

-- what a journal may be
pub record IsJournal (entries : List Entry) : Type 0 where
  pub few : length entries ≤ most_entries
  pub each : AllByRecursion IsEntry entries

abbrev pub first_line : List ℕ
first_line = codes "pipe-journal 1\n"

-- the line of an entry
abbrev pub entry_line : Entry → List ℕ
entry_line entry = decimal entry.strand ++ (codes " " ++ (decimal entry.stream ++ codes "\n"))

-- the lines of entries
abbrev pub entry_lines : List Entry → List ℕ
entry_lines entries = flat_map entry_line entries

-- the last line of so many entries
abbrev pub end_line : ℕ → List ℕ
end_line count = codes "end " ++ (decimal count ++ codes "\n")

-- the text of a journal
abbrev pub journal_text : List Entry → List ℕ
journal_text entries = first_line ++ (entry_lines entries ++ end_line (length entries))
