-- The forms in memory, exactly: which call fails, and how much a call gives or takes.
use Rattle.std.specs.Prelude.{◌≡◌, ℕ, ◌-◌, ◌==◌, Bool, ◌||◌, List, [], ◌∷◌, ◌++◌, length, take, drop, min, find, if◌then◌else◌}
use Rattle.std.specs.Option.{option_map, option_map_or}
use Rattle.std.specs.Str.{bytes_eq}
use Rattle.outside.specs.declared.source.ReadAnswer.{ReadAnswer}
use Rattle.outside.specs.declared.source.ReadAnswer.TheVariants as read
use Rattle.outside.specs.declared.sink.WriteAnswer.{WriteAnswer}
use Rattle.outside.specs.declared.sink.WriteAnswer.TheVariants as write
use Rattle.outside.specs.declared.shelf.Fetched.{Fetched}
use Rattle.outside.specs.declared.shelf.Fetched.TheVariants as fetched
use Rattle.outside.specs.declared.shelf.Replaced.{Replaced}
use Rattle.outside.specs.declared.shelf.Replaced.TheVariants as replaced
use Rattle.outside.specs.declared.mem_shelf.File.{File}
use Rattle.outside.specs.Calls.{next_number, is_due}
use Rattle.outside.specs.Files.{Files}

-- a source: the bytes left, the most that a call gives, the calls that are to fail, and how many were made and failed
pub record SourceState : Type 0 where
  pub left : List ℕ
  pub piece : ℕ
  pub fails : List ℕ
  pub calls : ℕ
  pub faults : ℕ

-- the next read is to fail
abbrev pub read_fails : SourceState → Bool
read_fails s = is_due s.fails (next_number s.calls)

-- how many bytes the next read gives to a room of this length
abbrev pub read_count : SourceState → ℕ → ℕ
read_count s room = if read_fails s then 0 else min (min (length s.left) s.piece) room

-- the answer of the next read
abbrev pub read_answer : SourceState → ℕ → ReadAnswer
read_answer s room = if read_fails s then read.Failed else (if length s.left == 0 then read.End else read.Bytes (read_count s room))

-- the room after it: the bytes at its front, and what stood behind them
abbrev pub read_room : SourceState → List ℕ → List ℕ
read_room s room = take (read_count s (length room)) s.left ++ drop (read_count s (length room)) room

-- the source after it
abbrev pub after_read : SourceState → ℕ → SourceState
after_read s room = record {
  left = drop (read_count s room) s.left;
  piece = s.piece;
  fails = s.fails;
  calls = next_number s.calls;
  faults = if read_fails s then next_number s.faults else s.faults;
}

-- a sink: the bytes written, how many it has room for in all, the most that a call takes, the calls that are to fail, and how many were made and failed
pub record SinkState : Type 0 where
  pub written : List ℕ
  pub room : ℕ
  pub piece : ℕ
  pub fails : List ℕ
  pub calls : ℕ
  pub faults : ℕ

-- how many more bytes it has room for
abbrev pub free_room : SinkState → ℕ
free_room s = s.room - length s.written

-- the next write is to fail, or finds no room
abbrev pub write_fails : SinkState → Bool
write_fails s = is_due s.fails (next_number s.calls) || (free_room s == 0)

-- how many bytes the next write takes of this many
abbrev pub write_count : SinkState → ℕ → ℕ
write_count s given = if write_fails s then 0 else min (min given s.piece) (free_room s)

-- the answer of the next write
abbrev pub write_answer : SinkState → ℕ → WriteAnswer
write_answer s given = if write_fails s then write.Failed else write.Took (write_count s given)

-- the sink after it
abbrev pub after_write : SinkState → List ℕ → SinkState
after_write s bytes = record {
  written = s.written ++ take (write_count s (length bytes)) bytes;
  room = s.room;
  piece = s.piece;
  fails = s.fails;
  calls = next_number s.calls;
  faults = if write_fails s then next_number s.faults else s.faults;
}

-- a shelf: the files, the calls that are to fail, how many were made and failed, and how many replacements wanted memory
pub record ShelfState : Type 0 where
  pub files : List File
  pub fails : List ℕ
  pub calls : ℕ
  pub faults : ℕ
  pub wants : ℕ

-- the file has this name
abbrev pub is_named : List ℕ → File → Bool
is_named name file = bytes_eq file.name name

-- the bytes of a name: those of its first file
abbrev pub files_of : List File → Files
files_of files = λ name. option_map (λ (file : File). file.bytes) (find (is_named name) files)

-- the files after this one was put in the place of the first of its name, or at the end
abbrev pub put_file : List File → File → List File
put_file [] file = file ∷ []
put_file (old ∷ rest) file = if is_named file.name old then file ∷ rest else old ∷ put_file rest file

-- the next call is to fail
abbrev pub call_fails : ShelfState → Bool
call_fails s = is_due s.fails (next_number s.calls)

-- the answer of the next fetch, where memory for a copy is there
abbrev pub fetch_answer : ShelfState → List ℕ → Fetched
fetch_answer s name = if call_fails s then fetched.Failed else option_map_or fetched.Found (files_of s.files name) fetched.Absent

-- the answer is the one that is due, or want of memory where a file was to be copied
abbrev pub AnswersFetch : Fetched → Fetched → Type 0
AnswersFetch due (fetched.Found bytes) = due ≡ fetched.Found bytes
AnswersFetch due fetched.Absent = due ≡ fetched.Absent
AnswersFetch due fetched.Failed = due ≡ fetched.Failed
AnswersFetch due fetched.NoMemory = (bytes : List ℕ) × (due ≡ fetched.Found bytes)

-- the answer of the next replacement, where memory for the copies is there
abbrev pub replace_answer : ShelfState → Replaced
replace_answer s = if call_fails s then replaced.Failed else replaced.Stored

-- the answer is the one that is due, or want of memory where the file was to be stored
abbrev pub AnswersReplace : Replaced → Replaced → Type 0
AnswersReplace due replaced.Stored = due ≡ replaced.Stored
AnswersReplace due replaced.Failed = due ≡ replaced.Failed
AnswersReplace due replaced.NoMemory = due ≡ replaced.Stored

-- the files after a replacement that was answered so
abbrev pub files_after : List File → File → Replaced → List File
files_after files file replaced.Stored = put_file files file
files_after files file replaced.Failed = files
files_after files file replaced.NoMemory = files

-- the shelf after a call that left these files
abbrev pub after_call : ShelfState → List File → ShelfState
after_call s files = record s {
  files = files;
  calls = next_number s.calls;
  faults = if call_fails s then next_number s.faults else s.faults;
}

-- the count of those that wanted memory after a replacement that was answered so
abbrev pub wants_after : ℕ → Replaced → ℕ
wants_after wants replaced.Stored = wants
wants_after wants replaced.Failed = wants
wants_after wants replaced.NoMemory = next_number wants

-- the shelf after a replacement that was answered so
abbrev pub after_replace : ShelfState → File → Replaced → ShelfState
after_replace s file answer = record (after_call s (files_after s.files file answer)) { wants = wants_after s.wants answer }
