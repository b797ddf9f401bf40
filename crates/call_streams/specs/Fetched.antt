-- What was fetched for the stages of a net, and as the journal of a check or the sets of a file; it serves the inside.
use Rattle.std.specs.Prelude.{◌≡◌, ℕ, suc, ◌+◌, ◌<◌, ◌≤◌, Bool, List, ◌∷◌, ◌++◌, find, length, option_and_then}
use Rattle.std.specs.List.{All}
use Rattle.std.specs.Option.{IfSome}
use Rattle.std.specs.Str.{bytes_eq}
use Rattle.std.specs.declared.option.Option.{Option}
use Rattle.std.specs.declared.option.Option.TheVariants.{Some, None}
use Rattle.pipe_model.specs.declared.net.Strand.{Strand}
use Rattle.pipe_model.specs.declared.step.Entry.{Entry}
use Rattle.pipe_model.specs.Table.{Feed, line_of}
use Rattle.pipe_model.specs.Table.Feed.{Unfed, Input, OfFile}
use Rattle.pipe_model.specs.Records.{lines}
use Rattle.outside.specs.Faults.{Rose}
use Rattle.outside.specs.Files.{Files}
use Rattle.call_meaning.specs.declared.status.Outcome.{Outcome}
use Rattle.call_meaning.specs.declared.status.Outcome.TheVariants.{ShelfFault, NoMemory, InputTooLarge, JournalAbsent, JournalLine, SetsAbsent, SetsLine}
use Rattle.call_streams.specs.declared.fetch.Found.{Found}
use Rattle.journal_file.specs.Faults.{IsFirstFault}
use Rattle.journal_file.specs.Text.{IsJournal, journal_text}
use Rattle.call_meaning.specs.Devices.{Store}
use Rattle.call_meaning.specs.Meaning.{input_limit, strands_size}
use Rattle.call_meaning.specs.Sets.{AreFew}

-- the file has this name
abbrev pub has_name : List ℕ → Found → Bool
has_name name file = bytes_eq file.name name

-- what was fetched is what the files have
abbrev pub AreOf : Files → List Found → Type 0
AreOf files found = All (λ (file : Found). files file.name ≡ file.bytes) found

-- the bytes of each name that was fetched
abbrev pub fetched_files : List Found → Files
fetched_files found = λ name. option_and_then (λ (file : Found). file.bytes) (find (has_name name) found)

-- the files that there are; where they aren't told, those that were fetched
abbrev pub files_known : Option Files → List Found → Files
files_known None found = fetched_files found
files_known (Some files) found = files

-- what of the files goes to a stage that is fed this
abbrev pub file_for : Files → Feed → Option (List ℕ)
file_for files Unfed = None
file_for files Input = None
file_for files (OfFile name) = files name

-- a stage was given its file, if it is fed one and that is there; each file that was fetched is kept
pub record IsGiven (fed : Feed) (old new : Store) (found found' : List Found) (bytes : Option (List ℕ)) : Type 0 where
  pub kept : new.files ≡ old.files
  pub steady : new.faults ≡ old.faults
  pub wants : new.wants ≡ old.wants
  pub file : (files : Files) → AreOf files found' → bytes ≡ file_for files fed
  pub more : (files : Files) → AreOf files found' → AreOf files found
  pub known : AreOf (files_known old.files found) found → AreOf (files_known old.files found') found'

-- why it wasn't
abbrev pub StopsGiving : Feed → Store → Store → Outcome → Type 0
StopsGiving fed old new (ShelfFault name) = (fed ≡ OfFile name) × Rose old.faults new.faults
StopsGiving fed old new NoMemory = new.faults ≡ old.faults
StopsGiving fed old new _ = ⊥

pub record IsUngiven (fed : Feed) (old new : Store) (outcome : Outcome) : Type 0 where
  pub kept : new.files ≡ old.files
  pub stops : StopsGiving fed old new outcome

-- the files that some strands read were fetched, where these were fetched before; what all gave so far rose from one size to another; each file that was fetched is kept
pub record AreFetched (strands : List Strand) (size size' : ℕ) (found found' : List Found) (old new : Store) : Type 0 where
  pub kept : new.files ≡ old.files
  pub steady : new.faults ≡ old.faults
  pub wants : new.wants ≡ old.wants
  pub sized : (files : Files) → AreOf files found' → size' ≡ size + strands_size files strands
  pub fits : size' ≤ input_limit
  pub more : (files : Files) → AreOf files found' → AreOf files found
  pub known : AreOf (files_known old.files found') found'

-- a strand is fed the file of this name, and what those before it are fed of files fits behind so many bytes
pub record IsNextBehind (strands : List Strand) (size : ℕ) (files : Files) (name : List ℕ) : Type 0 where
  pub before : List Strand
  pub strand : Strand
  pub behind : List Strand
  pub strands_are : strands ≡ before ++ strand ∷ behind
  pub fed_is : (line_of strand.kind).feed ≡ OfFile name
  pub fits : size + strands_size files before ≤ input_limit

-- why the fetching ended before
abbrev pub StopsFetching : List Strand → ℕ → Store → Store → Files → Outcome → Type 0
StopsFetching strands size old new files (ShelfFault name) = IsNextBehind strands size files name × Rose old.faults new.faults
StopsFetching strands size old new files InputTooLarge = (input_limit < size + strands_size files strands) × (new.faults ≡ old.faults)
StopsFetching strands size old new files NoMemory = new.faults ≡ old.faults
StopsFetching strands size old new files _ = ⊥

-- the fetching ended before the last file
pub record AreFetchedPart (strands : List Strand) (size : ℕ) (before : List Found) (old new : Store) (outcome : Outcome) : Type 0 where
  pub files : Files
  pub found : IfSome old.files (λ there. files ≡ there)
  pub of : AreOf files before
  pub kept : new.files ≡ old.files
  pub stops : StopsFetching strands size old new files outcome

-- the file of a name was found to have this journal; each file that was found is kept
pub record HasJournal (name : List ℕ) (old new : Store) (found : List Found) (journal : List Entry) : Type 0 where
  pub kept : new.files ≡ old.files
  pub steady : new.faults ≡ old.faults
  pub wants : new.wants ≡ old.wants
  pub is_journal : IsJournal journal
  pub stored : (files : Files) → AreOf files found → files name ≡ Some (journal_text journal)
  pub known : AreOf (files_known old.files found) found

-- why it wasn't: it isn't there, has a line that isn't of the format, failed, or memory was wanted
abbrev pub StopsFinding : List ℕ → Files → Store → Store → Outcome → Type 0
StopsFinding name files old new (ShelfFault other) = (other ≡ name) × Rose old.faults new.faults
StopsFinding name files old new JournalAbsent = (files name ≡ None) × (new.faults ≡ old.faults)
StopsFinding name files old new (JournalLine number) = ((text : List ℕ) × (files name ≡ Some text) × IsFirstFault text number) × (new.faults ≡ old.faults)
StopsFinding name files old new NoMemory = new.faults ≡ old.faults
StopsFinding name files old new _ = ⊥

pub record HasNoJournal (name : List ℕ) (old new : Store) (outcome : Outcome) : Type 0 where
  pub files : Files
  pub found : IfSome old.files (λ there. files ≡ there)
  pub kept : new.files ≡ old.files
  pub stops : StopsFinding name files old new outcome

-- the file of a name was found to have this text, whose lines aren't too many for so many steps each; each file that was found is kept
pub record HasSets (name : List ℕ) (steps : ℕ) (old new : Store) (found : List Found) (text : List ℕ) : Type 0 where
  pub kept : new.files ≡ old.files
  pub steady : new.faults ≡ old.faults
  pub wants : new.wants ≡ old.wants
  pub stored : (files : Files) → AreOf files found → files name ≡ Some text
  pub few : AreFew steps (length (lines text))
  pub known : AreOf (files_known old.files found) found

-- the text has more lines than are allowed, and this is the number of the first of them
pub record HasManyLines (steps : ℕ) (text : List ℕ) (number : ℕ) : Type 0 where
  pub few : ℕ
  pub past : few < length (lines text)
  pub fits : AreFew steps few
  pub most : ¬ AreFew steps (suc few)
  pub number_is : number ≡ suc few

-- why it wasn't: it isn't there, has too many lines, failed, or memory was wanted
abbrev pub StopsListing : List ℕ → ℕ → Files → Store → Store → Outcome → Type 0
StopsListing name steps files old new (ShelfFault other) = (other ≡ name) × Rose old.faults new.faults
StopsListing name steps files old new SetsAbsent = (files name ≡ None) × (new.faults ≡ old.faults)
StopsListing name steps files old new (SetsLine number) = ((text : List ℕ) × (files name ≡ Some text) × HasManyLines steps text number) × (new.faults ≡ old.faults)
StopsListing name steps files old new NoMemory = new.faults ≡ old.faults
StopsListing name steps files old new _ = ⊥

pub record HasNoSets (name : List ℕ) (steps : ℕ) (old new : Store) (outcome : Outcome) : Type 0 where
  pub files : Files
  pub found : IfSome old.files (λ there. files ≡ there)
  pub kept : new.files ≡ old.files
  pub stops : StopsListing name steps files old new outcome
