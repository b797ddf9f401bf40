-- The first line of a text that isn't as a journal's text has it there. Line 1 is the first.
use Rattle.std.specs.Prelude.{◌≡◌, ℕ, ◌+◌, ◌<◌, ◌⊎◌, List, ◌++◌, length}
use Rattle.pipe_model.specs.declared.step.Entry.{Entry}
use Rattle.journal_file.specs.declared.reading.JournalFault.{JournalFault}
use Rattle.journal_file.specs.declared.reading.JournalFault.TheVariants.{Line, NoMemory}
use Rattle.journal_file.specs.Text.{most_entries, IsEntry, IsJournal, first_line, entry_line, entry_lines, end_line, journal_text}

-- the text doesn't begin with this front
abbrev pub LacksFront : List ℕ → List ℕ → Type 0
LacksFront text front = (rest : List ℕ) → ¬ (text ≡ front ++ rest)

-- the text begins with the first line and the lines of these entries, and the rest stands behind them
pub record BeginsWith (text : List ℕ) (entries : List Entry) (rest : List ℕ) : Type 0 where
  pub journal : IsJournal entries
  pub spells : text ≡ first_line ++ (entry_lines entries ++ rest)

-- what stands behind so many entries begins neither with the line of one more, where there may be one more, nor with the last line
pub record IsNoLine (count : ℕ) (rest : List ℕ) : Type 0 where
  pub no_entry : (entry : Entry) → IsEntry entry → count < most_entries → LacksFront rest (entry_line entry)
  pub no_end : LacksFront rest (end_line count)

-- the line behind the first line and those of entries isn't of the format
pub record IsFaultAmong (text : List ℕ) (line : ℕ) : Type 0 where
  pub entries : List Entry
  pub rest : List ℕ
  pub begins : BeginsWith text entries rest
  pub no_line : IsNoLine (length entries) rest
  pub place : line ≡ length entries + 2

-- something stands behind the last line
pub record IsFaultBehind (text : List ℕ) (line : ℕ) : Type 0 where
  pub entries : List Entry
  pub more : List ℕ
  pub journal : IsJournal entries
  pub spells : text ≡ journal_text entries ++ more
  pub some : 0 < length more
  pub place : line ≡ length entries + 3

-- the first line of the text that isn't of the format
abbrev pub IsFirstFault : List ℕ → ℕ → Type 0
IsFirstFault text line = ((line ≡ 1) × LacksFront text first_line) ⊎ (IsFaultAmong text line ⊎ IsFaultBehind text line)

-- why a text isn't read
abbrev pub IsFaultOf : List ℕ → JournalFault → Type 0
IsFaultOf text (Line line) = IsFirstFault text line
IsFaultOf text NoMemory = Unit {0}
