-- What a call must answer, from its words and what there was before it to its status, its effect and the text of its status.
use Rattle.std.specs.Prelude.{◌≡◌, ◌≢◌, ◌⊎◌, ℕ, ◌<◌, ◌≤◌, true, false, List, [], ◌++◌, length}
use Rattle.std.specs.Option.{IfSome}
use Rattle.std.specs.declared.option.Option.TheVariants.{Some}
use Rattle.std.specs.Io.KnownBytes.{Consumes, Appends}
use Rattle.outside.specs.Device.{Device}
use Rattle.outside.specs.Faults.{Rose}
use Rattle.outside.specs.Files.{Files}
use Rattle.pipe_model.specs.declared.net.Net.{Net}
use Rattle.net_graph.specs.Fed.{reads_any}
use Rattle.call_meaning.specs.declared.status.Status.{Status}
use Rattle.call_meaning.specs.declared.status.Status.TheVariants as Told
use Rattle.call_words.specs.Command.{command_of}
use Rattle.call_words.specs.declared.command.Command.TheVariants.{Sets}
use Rattle.call_meaning.specs.declared.status.Outcome.{Outcome}
use Rattle.call_meaning.specs.declared.status.Outcome.TheVariants.{ReadFault, WriteFault, ShelfFault, NoMemory, InputTooLarge}
use Rattle.call_meaning.specs.Effects.{Before, Effect, no_effect, output_of}
use Rattle.call_meaning.specs.Status.{status_of, text_of}
use Rattle.call_meaning.specs.Devices.{Outside, Steady, Failed, IsRead, AllSteady, NoneFailed, IsDone, IsPartDone}
use Rattle.call_meaning.specs.Headline.{Headline}
use Rattle.call_meaning.specs.Meaning.{ChecksNet, ComesTo, FeedsNet, IsNextFile, IsTooLarge, IsUnfit, IsUnrun, fed_size, input_limit}
use Rattle.call_meaning.specs.Meaning.ComesTo.{ran, checked, linted, sampled, ran_sets}
use Rattle.call_meaning.specs.Sets.{all_of}

-- the bytes are the front of these and not all of them
pub record IsCutShort (front whole : List ℕ) : Type 0 where
  pub rest : List ℕ
  pub whole_is : whole ≡ front ++ rest
  pub more : 0 < length rest

-- where the net reads the input it was read to its end, and else not at all
pub record IsUsed (net : Net) (given : Before) (input : Device) : Type 0 where
  pub reads : reads_any net ≡ true → IsRead input
  pub leaves : reads_any net ≡ false → given.input ≡ []

-- the words fetch the file of this name
pub data IsFetching (words : List (List ℕ)) (files : Files) (name : List ℕ) : Type 0 where
  -- a stage reads it, and what was fetched before fits
  of_stage : (net : Net) → FeedsNet words files net → IsNextFile net files name → IsFetching words files name
  -- or it is to have the journal that they check
  of_journal : (net : Net) → ChecksNet words net name → IsFetching words files name
  -- or it is the one that has the sets
  of_sets_file : (workers steps : ℕ) → command_of words ≡ Some (Sets name workers steps) → IsFetching words files name

-- the words read the input, of which no more was read than fits
pub record IsReading (words : List (List ℕ)) (given : Before) : Type 0 where
  pub net : Net
  pub feeds : FeedsNet words given.files net
  pub reads : reads_any net ≡ true
  pub fits : fed_size given net ≤ input_limit

-- where the input was read, the words feed a net that reads it
pub data MayRead (words : List (List ℕ)) (given : Before) : Type 0 where
  nothing_read : given.input ≡ [] → MayRead words given
  of_net : (net : Net) → FeedsNet words given.files net → reads_any net ≡ true → MayRead words given

-- where the net that is carried out, or that of a set, reads the input it was read to its end, and else not at all
abbrev pub HasUsed : (words : List (List ℕ)) (given : Before) (outcome : Outcome) (effect : Effect) → ComesTo words given outcome effect → Device → Type 0
HasUsed words given outcome effect (ran run) input = IsUsed run.net given input
HasUsed words given outcome effect (checked check) input = IsUsed check.net given input
HasUsed words given outcome effect (linted lint) input = given.input ≡ []
HasUsed words given outcome effect (sampled sample) input = given.input ≡ []
HasUsed words given outcome effect (ran_sets run) input = IsUsed (all_of run.nets) given input

-- the words come to an outcome and an effect, of whose output not all was written, and of which nothing else was done
pub record IsHalfWritten (words : List (List ℕ)) (given : Before) (input : Device) (effect : Effect) : Type 0 where
  pub outcome : Outcome
  pub whole : Effect
  pub comes : ComesTo words given outcome whole
  pub used : HasUsed words given outcome whole comes input
  pub wrote : List ℕ
  pub cut : IsCutShort wrote whole.output
  pub effect_is : effect ≡ output_of wrote

-- why a replacement ended the call: the shelf failed at this name, or wanted memory
pub data IsTorn (old new : Outside) (name : List ℕ) (decided : Outcome) : Type 0 where
  torn_failed : decided ≡ ShelfFault name → Rose old.shelf.faults new.shelf.faults → IsTorn old new name decided
  torn_memory : decided ≡ NoMemory → new.shelf.faults ≡ old.shelf.faults → Rose old.shelf.wants new.shelf.wants → IsTorn old new name decided

-- why an outcome was decided, where the call was given this and its effect is this, which was carried out
pub data HasCause (words : List (List ℕ)) (old new : Outside) (given : Before) (effect : Effect) (decided : Outcome) : Type 0 where
  -- the words aren't carried out: nothing is read and nothing done
  unrun : IsUnrun words decided → given.input ≡ [] → effect ≡ no_effect → AllSteady old new → HasCause words old new given effect decided
  -- they name a file that isn't fit: nothing else is read, and nothing done
  unfit : IsUnfit words given.files decided → given.input ≡ [] → effect ≡ no_effect → AllSteady old new → HasCause words old new given effect decided
  -- what was read is more than fits
  too_large : IsTooLarge words given → decided ≡ InputTooLarge → effect ≡ no_effect → AllSteady old new → HasCause words old new given effect decided
  -- the words were carried out, and came to this
  came : (comes : ComesTo words given decided effect) → HasUsed words given decided effect comes new.input → AllSteady old new → HasCause words old new given effect decided
  -- a file failed that is fetched
  fetch_failed : (name : List ℕ) → IsFetching words given.files name → given.input ≡ [] → decided ≡ ShelfFault name → effect ≡ no_effect → Steady old.input new.input → Steady old.output new.output →
      Rose old.shelf.faults new.shelf.faults → HasCause words old new given effect decided
  -- the input failed
  read_failed : IsReading words given → decided ≡ ReadFault → effect ≡ no_effect → Failed old.input new.input → Steady old.output new.output → new.shelf.faults ≡ old.shelf.faults →
      HasCause words old new given effect decided
  -- the output failed
  write_failed : IsHalfWritten words given new.input effect → decided ≡ WriteFault → Steady old.input new.input → Failed old.output new.output → new.shelf.faults ≡ old.shelf.faults →
      HasCause words old new given effect decided
  -- memory was wanted: nothing is done
  no_memory : decided ≡ NoMemory → effect ≡ no_effect → MayRead words given → AllSteady old new → HasCause words old new given effect decided

-- the words come to an outcome and an effect, of whose files those before the one of this name were replaced
pub record IsHalfReplaced (words : List (List ℕ)) (old new : Outside) (given : Before) (effect : Effect) (decided : Outcome) : Type 0 where
  pub outcome : Outcome
  pub comes : ComesTo words given outcome effect
  pub used : HasUsed words given outcome effect comes new.input
  pub name : List ℕ
  pub done : IsPartDone name effect old new
  pub torn : IsTorn old new name decided
  pub input : Steady old.input new.input
  pub output : Steady old.output new.output

-- the effect of a call was carried out, for this cause; or its last part wasn't
pub data HasDone (words : List (List ℕ)) (old new : Outside) (given : Before) (effect : Effect) (decided : Outcome) : Type 0 where
  whole : IsDone effect old new → HasCause words old new given effect decided → HasDone words old new given effect decided
  half : IsHalfReplaced words old new given effect decided → HasDone words old new given effect decided

-- an outcome was decided, and why
pub record Decides (words : List (List ℕ)) (old new : Outside) (decided : Outcome) : Type 0 where
  -- the bytes that the input gave, and the files that there were
  pub given : Before
  -- what was done
  pub effect : Effect
  pub gave : Consumes old.input.bytes new.input.bytes given.input
  pub found : IfSome old.shelf.files (λ files. given.files ≡ files)
  pub done : HasDone words old new given effect decided

-- the text of the outcome was told, and its status answered
pub record IsTold (decided : Outcome) (status : Status) (diag diag' : Device) : Type 0 where
  pub same : status ≡ status_of decided
  pub gained : Appends diag.bytes diag'.bytes (text_of decided)
  pub steady : Steady diag diag'

-- the text of the outcome couldn't be told whole, which is a write fault
pub record IsHalfTold (decided : Outcome) (status : Status) (diag diag' : Device) : Type 0 where
  pub turned : status ≡ Told.WriteFault
  pub wrote : List ℕ
  pub cut : IsCutShort wrote (text_of decided)
  pub gained : Appends diag.bytes diag'.bytes wrote
  pub failed : Failed diag diag'

abbrev pub Reports : Outcome → Status → Device → Device → Type 0
Reports decided status diag diag' = IsTold decided status diag diag' ⊎ IsHalfTold decided status diag diag'

-- no call failed, and memory wasn't wanted
pub record IsUnhindered (old new : Outside) (diag diag' : Device) (status : Status) : Type 0 where
  pub none : NoneFailed old new
  pub told : ¬ Failed diag diag'
  pub memory : status ≢ Told.NoMemory

-- a call with these words, before which and after which its objects show this, may answer this status
pub record Answers (words : List (List ℕ)) (old new : Outside) (diag diag' : Device) (status : Status) : Type 0 where
  -- the outcome that was decided, and what was done
  pub decided : Outcome
  pub decides : Decides words old new decided
  -- its text was told
  pub reports : Reports decided status diag diag'
  -- unhindered it is all done and told, and is what the stages of a settled specification come to as functions on streams, whatever the order of steps
  pub headline : IsUnhindered old new diag diag' status → Headline words decides.given decided decides.effect × IsDone decides.effect old new × IsTold decided status diag diag'
