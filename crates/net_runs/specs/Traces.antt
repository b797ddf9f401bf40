-- The file of a journal; it serves the inside.
use Rattle.std.specs.Prelude.{◌≡◌, ℕ, List, []}
use Rattle.std.specs.declared.option.Option.{Option}
use Rattle.std.specs.declared.option.Option.TheVariants.{Some, None}
use Rattle.pipe_model.specs.Reply.{FileText}
use Rattle.call_meaning.specs.declared.status.Outcome.{Outcome}
use Rattle.call_meaning.specs.declared.status.Outcome.TheVariants.{ShelfFault}
use Rattle.net_runs.specs.declared.trace.Trace.{Trace}
use Rattle.call_meaning.specs.Devices.{Store}
use Rattle.call_meaning.specs.Effects.{AreReplaced, AreReplacedBut, no_effect, replaced_by}
use Rattle.call_meaning.specs.Status.{text_of}
use Rattle.net_runs.specs.Puts.{StopsStoring}

-- the file of a journal
abbrev pub trace_file : Option Trace → Option FileText
trace_file None = None
trace_file (Some trace) = Some (trace.name, trace.text)

-- its fault has the text that tells it
abbrev pub IsTrace : Trace → Type 0
IsTrace trace = trace.fault ≡ text_of (ShelfFault trace.name)

-- the file of the journal was replaced, if there is one
pub record IsTraceStored (trace : Option FileText) (old new : Store) : Type 0 where
  pub replaced : AreReplaced (replaced_by (record no_effect { trace = trace })) old.files new.files
  pub steady : new.faults ≡ old.faults
  pub wants : new.wants ≡ old.wants

-- a fault, or want of memory, ended its replacement
pub record IsTraceTorn (trace : Option FileText) (old new : Store) (outcome : Outcome) : Type 0 where
  pub name : List ℕ
  pub text : List ℕ
  pub some : trace ≡ Some (name, text)
  pub others : AreReplacedBut name [] old.files new.files
  pub stops : StopsStoring name old new outcome
