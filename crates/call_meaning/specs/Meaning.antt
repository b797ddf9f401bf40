-- What words mean, where nothing fails.
use Rattle.std.specs.Prelude.{◌≡◌, ◌⊎◌, ℕ, ◌+◌, ◌<◌, ◌≤◌, Bool, if◌then◌else◌, List, [], ◌∷◌, ◌++◌, length, slice_get, take, codes, decimal, ℤ, pos, zero, suc}
use Rattle.std.specs.List.{AllZip, sum_by}
use Rattle.std.specs.Option.{option_map_or}
use Rattle.std.specs.declared.option.Option.{Option}
use Rattle.std.specs.declared.option.Option.TheVariants.{Some, None}
use Rattle.outside.specs.Files.{Files}
use Rattle.pipe_model.specs.Records.{lines, text}
use Rattle.pipe_model.specs.declared.net.Net.{Net}
use Rattle.pipe_model.specs.declared.net.Strand.{Strand}
use Rattle.pipe_model.specs.declared.step.Entry.{Entry}
use Rattle.pipe_model.specs.Play.{play, step, IsLegal, IsLicensed, IsComplete}
use Rattle.pipe_model.specs.Committed.{IsCommitted, IsMove, event_at}
use Rattle.pipe_model.specs.Reply.{Reply, WaitLine, reply}
use Rattle.pipe_model.specs.Run.{IsRun}
use Rattle.pipe_model.specs.State.{State, Who, IsThere, nothing_yet}
use Rattle.pipe_model.specs.Straight.{selected_by}
use Rattle.pipe_model.specs.Table.{Feed, line_of}
use Rattle.pipe_model.specs.Table.Feed.{Unfed, Input, OfFile}
use Rattle.spec_scanner.specs.declared.fault.Fault.{Fault}
use Rattle.spec_scanner.specs.declared.piece.Piece.{Piece}
use Rattle.spec_scanner.specs.Reads.{Reads}
use Rattle.net_graph.specs.Faults.{IsGraph}
use Rattle.net_graph.specs.Fed.{fed, reads_any, with_input}
use Rattle.journal_file.specs.declared.checking.Checked.TheVariants.{Legal, Illegal}
use Rattle.journal_file.specs.Faults.{IsFirstFault}
use Rattle.journal_file.specs.Judged.{Judges}
use Rattle.journal_file.specs.Text.{IsJournal, journal_text}
use Rattle.stall_lint.specs.declared.told.Lint.{Lint as Answer}
use Rattle.stall_lint.specs.declared.told.Lint.TheVariants.{Loose, Issuer, Latch, Walk, Never}
use Rattle.stall_lint.specs.Answer.{IsOneLine, Lints}
use Rattle.stall_report.specs.Waits.{wait_lines}
use Rattle.stall_report.specs.Words.{wait_text}
use Rattle.call_words.specs.declared.command.Command.{Command}
use Rattle.call_words.specs.declared.command.Command.TheVariants.{Run, Check, Lint, Sample, Sets}
use Rattle.call_meaning.specs.declared.status.Outcome.{Outcome}
use Rattle.call_meaning.specs.declared.status.Outcome.TheVariants.{Done, Coded, SpecRefused, Stalled, Spent, Usage, InputTooLarge, JournalAbsent, JournalLine, JournalEntry, SetsAbsent, SetsLine}
use Rattle.call_words.specs.Command.{command_of}
use Rattle.call_meaning.specs.Effects.{Before, Effect, no_effect, output_of, effect_of, traced, untraced}
use Rattle.call_meaning.specs.Refusals.{HasLeastFault}
use Rattle.call_meaning.specs.Sample.{sample_spec, sample_text, summary}
use Rattle.call_meaning.specs.Sets.{AreFew, SetEnd, all_of, effect_of_sets, outcome_of_sets}
use Rattle.call_meaning.specs.Status.{line}

-- ---- the words

-- the text reads as pieces that make this net, whose stages aren't fed yet
pub record IsNetOf (spec : List ℕ) (net : Net) : Type 0 where
  pub pipelines : List (List Piece)
  pub reads : Reads spec pipelines
  pub graph : IsGraph pipelines net

-- the specification that a command runs, checks a journal of, or tells of whether it may stall; those of sets stand in a file
abbrev pub spec_of : Command → Option (List ℕ)
spec_of (Run spec workers steps trace) = Some spec
spec_of (Check spec name) = Some spec
spec_of (Lint spec) = Some spec
spec_of (Sample lines workers steps) = Some sample_spec
spec_of (Sets name workers steps) = None

-- the words are a run of a specification, in so many steps at most, whose journal goes to the file of this name, if one is named
pub record IsRunOf (words : List (List ℕ)) (spec : List ℕ) (steps : ℕ) (trace : Option (List ℕ)) : Type 0 where
  pub workers : ℕ
  pub command : command_of words ≡ Some (Run spec workers steps trace)

-- the words are a run of a specification with this net
pub record RunsNet (words : List (List ℕ)) (net : Net) (steps : ℕ) (trace : Option (List ℕ)) : Type 0 where
  pub spec : List ℕ
  pub run : IsRunOf words spec steps trace
  pub net_of : IsNetOf spec net

-- the words are a check of the journal in the file of this name, on a specification with this net
pub record ChecksNet (words : List (List ℕ)) (net : Net) (name : List ℕ) : Type 0 where
  pub spec : List ℕ
  pub command : command_of words ≡ Some (Check spec name)
  pub net_of : IsNetOf spec net

-- the words are the lint of a specification with this net
pub record LintsNet (words : List (List ℕ)) (net : Net) : Type 0 where
  pub spec : List ℕ
  pub command : command_of words ≡ Some (Lint spec)
  pub net_of : IsNetOf spec net

-- the words are the sample of so many lines, in so many steps at most, and its specification has this net
pub record SamplesNet (words : List (List ℕ)) (net : Net) (count steps : ℕ) : Type 0 where
  pub workers : ℕ
  pub command : command_of words ≡ Some (Sample count workers steps)
  pub net_of : IsNetOf sample_spec net

-- the specification of the words has this least fault, of its text or of its net
pub record IsSpecRefused (words : List (List ℕ)) (fault : Fault) : Type 0 where
  pub command : Command
  pub command_is : command_of words ≡ Some command
  pub spec : List ℕ
  pub spec_is : spec_of command ≡ Some spec
  pub refused : HasLeastFault spec fault

-- the words aren't carried out, and this is the outcome
pub data IsUnrun (words : List (List ℕ)) (outcome : Outcome) : Type 0 where
  -- they are no command
  no_command : command_of words ≡ None → outcome ≡ Usage → IsUnrun words outcome
  -- or their specification is refused
  refused : (fault : Fault) → IsSpecRefused words fault → outcome ≡ SpecRefused fault.number fault.argument fault.place → IsUnrun words outcome

-- ---- the sets of a file

-- the words run each line of the file of this name as a specification of its own, in so many steps at most
pub record RunsSets (words : List (List ℕ)) (files : Files) (specs : List (List ℕ)) (steps workers : ℕ) : Type 0 where
  pub name : List ℕ
  pub command : command_of words ≡ Some (Sets name workers steps)
  pub text : List ℕ
  pub stored : files name ≡ Some text
  pub lines_are : lines text ≡ specs
  pub few : AreFew steps (length specs)

-- these are the nets of the lines that aren't refused
pub data AreNetsOf : List (List ℕ) → List Net → Type 0 where
  no_line : AreNetsOf [] []
  line_refused : (spec : List ℕ) (fault : Fault) → HasLeastFault spec fault → (specs : List (List ℕ)) (nets : List Net) → AreNetsOf specs nets → AreNetsOf (spec ∷ specs) nets
  line_read : (spec : List ℕ) (net : Net) → IsNetOf spec net → (specs : List (List ℕ)) (nets : List Net) → AreNetsOf specs nets → AreNetsOf (spec ∷ specs) (net ∷ nets)

-- the words run this net: by itself, or as that of a line
pub data IsRunNet (words : List (List ℕ)) (files : Files) (net : Net) : Type 0 where
  by_itself : (steps : ℕ) (trace : Option (List ℕ)) → RunsNet words net steps trace → IsRunNet words files net
  as_a_set : (specs : List (List ℕ)) (steps workers : ℕ) → RunsSets words files specs steps workers → (k : ℕ) (spec : List ℕ) → slice_get specs k ≡ Some spec → IsNetOf spec net → IsRunNet words files net

-- ---- the journal of a check, and what isn't fit to be one, or to be sets

-- the file that the words name isn't fit for what they ask, and this is the outcome
pub data IsUnfit (words : List (List ℕ)) (files : Files) (outcome : Outcome) : Type 0 where
  -- the journal of a check isn't there
  absent : (net : Net) (name : List ℕ) → ChecksNet words net name → files name ≡ None → outcome ≡ JournalAbsent → IsUnfit words files outcome
  -- or this is its first line that isn't of the format
  unread : (net : Net) (name text : List ℕ) (number : ℕ) → ChecksNet words net name → files name ≡ Some text → IsFirstFault text number → outcome ≡ JournalLine number → IsUnfit words files outcome
  -- the file of sets isn't there
  sets_absent : (name : List ℕ) (workers steps : ℕ) → command_of words ≡ Some (Sets name workers steps) → files name ≡ None → outcome ≡ SetsAbsent → IsUnfit words files outcome
  -- or this is its first line that is one too many
  sets_many : (name text : List ℕ) (workers steps few : ℕ) → command_of words ≡ Some (Sets name workers steps) → files name ≡ Some text → few < length (lines text) →
      AreFew steps few → ¬ AreFew steps (suc few) → outcome ≡ SetsLine (suc few) → IsUnfit words files outcome

-- the words are a check of this journal, on a specification with this net
pub record ChecksJournal (words : List (List ℕ)) (files : Files) (net : Net) (journal : List Entry) : Type 0 where
  pub name : List ℕ
  pub checks : ChecksNet words net name
  pub is_journal : IsJournal journal
  pub stored : files name ≡ Some (journal_text journal)

-- the stages of this net are fed: the words run it, or check a journal on it; or the net is that of all sets
pub data FeedsNet (words : List (List ℕ)) (files : Files) (net : Net) : Type 0 where
  of_run : (steps : ℕ) (trace : Option (List ℕ)) → RunsNet words net steps trace → FeedsNet words files net
  of_check : (journal : List Entry) → ChecksJournal words files net journal → FeedsNet words files net
  of_sets : (specs : List (List ℕ)) (steps workers : ℕ) (nets : List Net) → RunsSets words files specs steps workers → AreNetsOf specs nets → net ≡ all_of nets → FeedsNet words files net

-- ---- what the stages of a net are fed

-- the most bytes that a run reads: 64 MiB
abbrev pub input_limit : ℕ
input_limit = 67108864

-- how many bytes a file gives to a stage that is fed this
abbrev pub file_size : Files → Feed → ℕ
file_size files Unfed = 0
file_size files Input = 0
file_size files (OfFile name) = option_map_or (λ (bytes : List ℕ). length bytes) (files name) 0

-- how many bytes files give to the stages of some strands
abbrev pub strands_size : Files → List Strand → ℕ
strands_size files strands = sum_by (λ (p : Strand). file_size files (line_of p.kind).feed) strands

abbrev pub files_size : Files → Net → ℕ
files_size files net = strands_size files net.strands

-- a stage of the net is fed the file of this name, and what the stages before it are fed of files fits
pub record IsNextFile (net : Net) (files : Files) (name : List ℕ) : Type 0 where
  pub before : List Strand
  pub strand : Strand
  pub behind : List Strand
  pub strands : net.strands ≡ before ++ strand ∷ behind
  pub fed_is : (line_of strand.kind).feed ≡ OfFile name
  pub fits : strands_size files before ≤ input_limit

-- how many bytes all stages are fed: those of the input, if a stage reads it, and those of the files
abbrev pub fed_size : Before → Net → ℕ
fed_size before net = (if reads_any net then length before.input else 0) + files_size before.files net

-- the net with what its stages are fed
abbrev pub net_on : Before → Net → Net
net_on before net = fed before.input before.files net

-- ---- a run of a net whose stages are fed

-- no record moves before every stage has reached commit level 0 with code 0
abbrev pub IsCommittedFirst : Net → List Entry → Type 0
IsCommittedFirst net journal = (k : ℕ) → IsMove (event_at net journal k) → (s : Who) → IsThere net (play net (take k journal)) s → IsCommitted net (play net (take k journal)) s

-- an entry is the least that may be made: of the least strand that may have an event, and on its least stream
abbrev pub IsLeast : Net → State → Entry → Type 0
IsLeast net st e = (other : Entry) → IsLicensed net st other → (e.strand < other.strand) ⊎ ((e.strand ≡ other.strand) × (e.stream ≤ other.stream))

-- each entry is the least that may be made then
abbrev pub AreLeast : Net → List Entry → Type 0
AreLeast net journal = IsRun (step net) (IsLeast net) nothing_yet journal

-- a legal journal within the steps is complete, and has this reply; one worker makes the least entry each time
pub record Finishes (net : Net) (steps workers : ℕ) (answer : Reply) : Type 0 where
  pub journal : List Entry
  pub legal : IsLegal net journal
  pub complete : IsComplete net journal
  pub within : length journal ≤ steps
  pub least : workers ≡ 1 → AreLeast net journal
  pub replies : reply net (play net journal) ≡ answer

-- a legal journal has as many entries as the steps allow, and one more may be made; one worker makes the least entry each time
pub record Exhausts (net : Net) (steps workers : ℕ) : Type 0 where
  pub journal : List Entry
  pub legal : IsLegal net journal
  pub full : length journal ≡ steps
  pub least : workers ≡ 1 → AreLeast net journal
  pub more : (e : Entry) × IsLicensed net (play net journal) e

-- the outcome that a reply tells: strands wait, or the worst code is 0, or another one
abbrev pub outcome_by : Net → List WaitLine → ℤ → Outcome
outcome_by net (w ∷ ws) code = Stalled (wait_text net (wait_lines (w ∷ ws)))
outcome_by net [] (pos zero) = Done
outcome_by net [] code = Coded code

abbrev pub outcome_of : Net → Reply → Outcome
outcome_of net answer = outcome_by net answer.waits answer.code

-- what a run of so many steps at most by so many workers comes to, whose journal goes to the file of this name, if one is named
pub data RunMeans (net : Net) (steps workers : ℕ) (trace : Option (List ℕ)) (outcome : Outcome) (effect : Effect) : Type 0 where
  -- it ends, and the outcome and the effect are those of its reply
  finishes : (answer : Reply) (done : Finishes net steps workers answer) → outcome ≡ outcome_of net answer → effect ≡ traced trace done.journal (effect_of answer) → RunMeans net steps workers trace outcome effect
  -- or it has more to do
  exhausts : (spent : Exhausts net steps workers) → outcome ≡ Spent steps → effect ≡ traced trace spent.journal no_effect → RunMeans net steps workers trace outcome effect

-- ---- a check of a journal on a net whose stages are fed

-- the line that tells how many entries a legal journal has, and whether it is complete
abbrev pub legal_line : ℕ → Bool → List ℕ
legal_line count complete = line (codes "legal " ++ (decimal count ++ (if complete then codes " complete" else codes " open")))

-- what a check comes to
pub data CheckMeans (net : Net) (journal : List Entry) (outcome : Outcome) (effect : Effect) : Type 0 where
  -- the journal is legal
  legal : (complete : Bool) → Judges net journal (Legal complete) → outcome ≡ Done → effect ≡ output_of (legal_line (length journal) complete) → CheckMeans net journal outcome effect
  -- or this entry is the first that isn't
  illegal : (place : ℕ) → Judges net journal (Illegal place) → outcome ≡ JournalEntry place → effect ≡ no_effect → CheckMeans net journal outcome effect

-- ---- a lint

-- strands by their numbers, a blank before each
abbrev pub after_blanks : List ℕ → List ℕ
after_blanks [] = []
after_blanks (s ∷ walk) = 32 ∷ decimal s ++ after_blanks walk

-- the line that tells whether a net may stall
abbrev pub lint_line : Answer → List ℕ
lint_line (Loose s) = line (codes "may stall: loose " ++ decimal s)
lint_line (Issuer s) = line (codes "may stall: issuer " ++ decimal s)
lint_line (Latch s) = line (codes "may stall: latch " ++ decimal s)
lint_line (Walk walk) = line (codes "may stall: walk" ++ after_blanks walk)
lint_line Never = line (codes "never stalls")

-- what a lint of a net comes to, which isn't fed
pub record LintMeans (net : Net) (outcome : Outcome) (effect : Effect) : Type 0 where
  pub answer : Answer
  pub told : Lints net answer
  pub outcome_is : outcome ≡ Done
  pub effect_is : effect ≡ output_of (lint_line answer)

-- ---- the sample

-- what is written of the sample of so many lines: its summary where the outcome is `Done`
abbrev pub summed_up : ℕ → List ℕ → ℕ → Outcome → Effect
summed_up count console steps Done = output_of (summary count console steps)
summed_up count console steps _ = no_effect

-- what the sample of so many lines comes to, whose net is fed them
pub data SampleMeans (count : ℕ) (net : Net) (steps workers : ℕ) (outcome : Outcome) (effect : Effect) : Type 0 where
  -- it ends as a run does
  sums_up : (answer : Reply) (done : Finishes net steps workers answer) → outcome ≡ outcome_of net answer → effect ≡ summed_up count answer.console (length done.journal) outcome → SampleMeans count net steps workers outcome effect
  -- or it has more to do
  spends : Exhausts net steps workers → outcome ≡ Spent steps → effect ≡ no_effect → SampleMeans count net steps workers outcome effect

-- ---- the call

-- the words run a net, or check a journal on it, that is fed too much
pub record IsTooLarge (words : List (List ℕ)) (before : Before) : Type 0 where
  pub net : Net
  pub feeds : FeedsNet words before.files net
  pub large : input_limit < fed_size before net

-- the words run a net, which comes to this
pub record HasRun (words : List (List ℕ)) (before : Before) (outcome : Outcome) (effect : Effect) : Type 0 where
  pub net : Net
  pub steps : ℕ
  pub trace : Option (List ℕ)
  pub runs : RunsNet words net steps trace
  pub fits : fed_size before net ≤ input_limit
  pub means : RunMeans (net_on before net) steps runs.run.workers trace outcome effect

-- the words check a journal on a net, which comes to this
pub record HasChecked (words : List (List ℕ)) (before : Before) (outcome : Outcome) (effect : Effect) : Type 0 where
  pub net : Net
  pub journal : List Entry
  pub checks : ChecksJournal words before.files net journal
  pub fits : fed_size before net ≤ input_limit
  pub means : CheckMeans (net_on before net) journal outcome effect

-- the words tell whether a net may stall, which comes to this
pub record HasLinted (words : List (List ℕ)) (outcome : Outcome) (effect : Effect) : Type 0 where
  pub net : Net
  pub lints : LintsNet words net
  pub means : LintMeans net outcome effect

-- the words are the sample, which comes to this
pub record HasSampled (words : List (List ℕ)) (outcome : Outcome) (effect : Effect) : Type 0 where
  pub net : Net
  pub count : ℕ
  pub steps : ℕ
  pub samples : SamplesNet words net count steps
  pub means : SampleMeans count (with_input (sample_text count) net) steps samples.workers outcome effect

-- what a line of a file of sets comes to on what there was before, whatever the others hold: its refusal, or a run
pub data SetMeans (before : Before) (steps workers : ℕ) (spec : List ℕ) (ended : SetEnd) : Type 0 where
  set_refused : (fault : Fault) → HasLeastFault spec fault → ended.outcome ≡ SpecRefused fault.number fault.argument fault.place → ended.effect ≡ no_effect → SetMeans before steps workers spec ended
  set_ran : (net : Net) → IsNetOf spec net → RunMeans (net_on before net) steps workers None ended.outcome ended.effect → SetMeans before steps workers spec ended

-- the words run the lines of a file, which come to this
pub record HasRunSets (words : List (List ℕ)) (before : Before) (outcome : Outcome) (effect : Effect) : Type 0 where
  pub specs : List (List ℕ)
  pub steps : ℕ
  pub workers : ℕ
  pub runs : RunsSets words before.files specs steps workers
  pub nets : List Net
  pub nets_are : AreNetsOf specs nets
  pub fits : fed_size before (all_of nets) ≤ input_limit
  pub ends : List SetEnd
  pub mean : AllZip (SetMeans before steps workers) specs ends
  pub outcome_is : outcome ≡ outcome_of_sets ends
  pub effect_is : effect ≡ effect_of_sets ends

-- the words are carried out, and come to this
pub data ComesTo (words : List (List ℕ)) (before : Before) (outcome : Outcome) (effect : Effect) : Type 0 where
  ran : HasRun words before outcome effect → ComesTo words before outcome effect
  checked : HasChecked words before outcome effect → ComesTo words before outcome effect
  linted : HasLinted words outcome effect → ComesTo words before outcome effect
  sampled : HasSampled words outcome effect → ComesTo words before outcome effect
  ran_sets : HasRunSets words before outcome effect → ComesTo words before outcome effect

-- the outcome and the effect that words have, by what there was before
pub data Means (words : List (List ℕ)) (before : Before) (outcome : Outcome) (effect : Effect) : Type 0 where
  unrun : IsUnrun words outcome → effect ≡ no_effect → Means words before outcome effect
  unfit : IsUnfit words before.files outcome → effect ≡ no_effect → Means words before outcome effect
  too_large : IsTooLarge words before → outcome ≡ InputTooLarge → effect ≡ no_effect → Means words before outcome effect
  came : ComesTo words before outcome effect → Means words before outcome effect

-- two effects of words are the same but for the file of a journal; those of a lint tell one line of the table, where of several closed walks each may be told
pub data AreOneEffect (words : List (List ℕ)) (x y : Effect) : Type 0 where
  one_done : untraced x ≡ untraced y → AreOneEffect words x y
  one_told : (net : Net) (p q : Answer) → LintsNet words net → Lints net p → Lints net q → IsOneLine p q → x ≡ output_of (lint_line p) → y ≡ output_of (lint_line q) → AreOneEffect words x y

-- ---- the straight line

-- what words of a straight line with LOCATEs of these strings mean, in so many steps at most, but for the journal's file: the lines that hold every string,
-- too few steps or too much input
abbrev pub IsLineOutcome : List (List ℕ) → List ℕ → ℕ → Outcome → Effect → Type 0
IsLineOutcome strings input steps Done effect = untraced effect ≡ output_of (text (selected_by strings (lines input)))
IsLineOutcome strings input steps (Spent n) effect = (n ≡ steps) × (untraced effect ≡ no_effect)
IsLineOutcome strings input steps InputTooLarge effect = (input_limit < length input) × (effect ≡ no_effect)
IsLineOutcome strings input steps _ effect = ⊥
