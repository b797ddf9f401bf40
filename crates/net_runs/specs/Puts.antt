-- The files that a run replaces; it serves the inside.
use Rattle.std.specs.Prelude.{◌≡◌, ℕ, ◌<◌, true, if◌then◌else◌, List, [], ◌∷◌, length, map}
use Rattle.std.specs.List.{All}
use Rattle.std.specs.Option.{option_map_or}
use Rattle.std.specs.declared.option.Option.TheVariants.{Some}
use Rattle.pipe_model.specs.declared.net.Strand.{Strand}
use Rattle.pipe_model.specs.Event.{taken_from}
use Rattle.pipe_model.specs.Form.{is_filed}
use Rattle.pipe_model.specs.Records.{text}
use Rattle.pipe_model.specs.Reply.{FileText, file_part}
use Rattle.pipe_model.specs.State.{Who, nothing_yet, past, strand_at}
use Rattle.pipe_model.specs.Keys.{is_less}
use Rattle.pipe_model.specs.Table.{form}
use Rattle.core_machine.specs.Machine.{Machine, state_of}
use Rattle.outside.specs.Faults.{Rose}
use Rattle.call_meaning.specs.declared.status.Outcome.{Outcome}
use Rattle.call_meaning.specs.declared.status.Outcome.TheVariants.{ShelfFault, NoMemory}
use Rattle.net_runs.specs.declared.replace.Put.{Put}
use Rattle.call_meaning.specs.Devices.{Store}
use Rattle.call_meaning.specs.Effects.{ArePartReplaced, AreReplaced}
use Rattle.call_meaning.specs.Status.{text_of}

-- the files of a run that are to be replaced, in the order of their names, each with the strand whose text it is and the text of its fault
abbrev pub put_text : Machine → Put → FileText
put_text core put = (put.name, text (taken_from 0 (past (state_of core) put.strand)))

pub record IsPut (core : Machine) (put : Put) : Type 0 where
  pub strand : put.strand < length core.net.strands
  pub kept : (p : Strand) → strand_at core.net nothing_yet put.strand ≡ Some p → is_filed (form p).keeping ≡ true
  pub fault : put.fault ≡ text_of (ShelfFault put.name)

-- they are these files
pub record ArePuts (core : Machine) (files : List FileText) (puts : List Put) : Type 0 where
  pub each : All (IsPut core) puts
  pub files_are : map (put_text core) puts ≡ files

-- the file that a strand keeps, if it keeps one and saw the end of its input
abbrev pub file_at : Machine → Who → List FileText
file_at core s = option_map_or (λ (p : Strand). file_part (form p).keeping (past (state_of core) s)) (strand_at core.net nothing_yet s) []

-- one more file, behind those of lesser names and of its own
abbrev pub with_put : Put → List Put → List Put
with_put put [] = put ∷ []
with_put put (other ∷ rest) = if is_less put.name other.name then put ∷ (other ∷ rest) else other ∷ with_put put rest

-- the files were replaced
pub record AreStored (files : List FileText) (old new : Store) : Type 0 where
  pub replaced : AreReplaced files old.files new.files
  pub steady : new.faults ≡ old.faults
  pub wants : new.wants ≡ old.wants

-- a fault, or want of memory, ended the replacements at a file
abbrev pub StopsStoring : List ℕ → Store → Store → Outcome → Type 0
StopsStoring name old new (ShelfFault other) = (other ≡ name) × Rose old.faults new.faults
StopsStoring name old new NoMemory = (new.faults ≡ old.faults) × Rose old.wants new.wants
StopsStoring name old new _ = ⊥

pub record AreStoredPart (files : List FileText) (old new : Store) (outcome : Outcome) : Type 0 where
  pub name : List ℕ
  pub part : ArePartReplaced name files old.files new.files
  pub stops : StopsStoring name old new outcome
