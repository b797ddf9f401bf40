-- How far the effect of a run that is ready was carried out.
use Rattle.std.proofs.Common.{◌≡◌, ℕ, true, List, ◌++◌, refl, sym, ◌∙◌, subst, Option}
use Rattle.pipe_model.specs.Reply.{FileText}
use Rattle.std.specs.Result.{MatchResult, is_err}
use Rattle.std.specs.declared.result.Result.{Result}
use Rattle.std.specs.declared.result.Result.TheVariants.{Ok, Err}
use Rattle.outside.specs.Device.{Device}
use Rattle.outside.specs.Faults.{Rose}
use Rattle.pipe_model.specs.declared.net.Net.{Net}
use Rattle.net_runs.specs.declared.ready_run.Ready.{Ready}
use Rattle.call_meaning.specs.declared.status.Outcome.{Outcome}
use Rattle.call_meaning.specs.declared.status.Outcome.TheVariants.{NoMemory, ShelfFault, WriteFault}
use Rattle.call_meaning.specs.Devices.{Store}
use Rattle.call_meaning.specs.Effects.{ArePartReplaced, Effect, as_files, no_effect, replaced_by}
use Rattle.net_runs.specs.Puts.{AreStored, AreStoredPart, StopsStoring}
use Rattle.net_runs.specs.ReadyRuns.{IsReady, PutsOut, ready_effect}
use Rattle.net_runs.specs.Traces.{IsTraceStored, IsTraceTorn, trace_file}
use Rattle.call_streams.specs.Written.{IsPartWritten, IsWritten}
use Rattle.net_runs.specs.Ran.{run_effect}
use Rattle.net_runs.specs.ReadyRuns.PutsOut.{put_all, put_part, put_torn}
use Rattle.call_streams.proofs.Replacements.{part_further, part_last, replaced_after}
use Rattle.net_runs.proofs.RunEffects.{effect_is}

-- why a replacement ended, where those before left the counts as they were
pub stops_from : (name : List ℕ) (old now new : Store) (outcome : Outcome) → now.faults ≡ old.faults → now.wants ≡ old.wants → StopsStoring name now new outcome → StopsStoring name old new outcome
stops_from name old now new (ShelfFault other) steady wants stops = (stops.0, subst (λ n. Rose n new.faults) steady stops.1)
stops_from name old now new NoMemory steady wants stops = (stops.0 ∙ steady, subst (λ n. Rose n new.wants) wants stops.1)
stops_from name old now new _ steady wants stops = absurd stops

module _ {S : Type 0} (ready : Ready S) (is : (net : Net) × (steps : ℕ) × (workers : ℕ) × (trace : Option (List ℕ)) × IsReady net steps workers trace ready) (output output' : Device) (shelf : Store) where
  -- the effect but for the journal's file
  abbrev run : Effect
  run = run_effect ready.core ready.told.outcome

  abbrev whole : Effect
  whole = record run { trace = trace_file ready.trace }

  abbrev Puts : Effect → Store → Outcome → Type 0
  Puts effect shelf' told = PutsOut effect output output' shelf shelf' ready.told.outcome told

  as_ready : (shelf' : Store) (told : Outcome) → Puts whole shelf' told → Puts (ready_effect ready) shelf' told
  as_ready shelf' told puts = subst (λ effect. Puts effect shelf' told) (sym (effect_is is.0 is.1 is.2 is.3 ready is.4)) puts

  -- the output wasn't written whole
  pub out_unwritten : (wrote : Result (Unit {0}) Outcome) (P : Type 0) → is_err wrote ≡ true → MatchResult wrote (λ _. P) (λ fault. IsPartWritten run.output output output' fault) → (told : Outcome) → told ≡ WriteFault →
      Puts (ready_effect ready) shelf told
  out_unwritten (Ok _) P failed did told is = cc
  out_unwritten (Err fault) P failed part told is = as_ready shelf told (put_part (subst (λ outcome. IsPartWritten run.output output output' outcome) (part.fault ∙ sym is) part) refl)

  module _ (wrote : IsWritten run.output output output') where
    -- a file of a stage wasn't replaced
    pub out_file : (shelf' : Store) (told : Outcome) → AreStoredPart run.files shelf shelf' told → Puts (ready_effect ready) shelf' told
    out_file shelf' told part = as_ready shelf' told (put_torn part.name wrote (part_further part.name run.files (as_files (trace_file ready.trace)) shelf.files shelf'.files part.part) part.stops)

    module _ (now shelf' : Store) (stored : AreStored run.files shelf now) where
      -- the journal's wasn't
      pub out_torn : (told : Outcome) → IsTraceTorn (trace_file ready.trace) now shelf' told → Puts (ready_effect ready) shelf' told
      out_torn told torn = as_ready shelf' told
          (put_torn torn.name wrote
          (subst (λ (trace : Option FileText). ArePartReplaced torn.name (run.files ++ as_files trace) shelf.files shelf'.files) (sym torn.some)
          (part_last run.files torn.name torn.text shelf.files now.files shelf'.files stored.replaced torn.others))
          (stops_from torn.name shelf now shelf' told stored.steady stored.wants torn.stops))

      -- all were
      pub out_all : IsTraceStored (trace_file ready.trace) now shelf' → Puts (ready_effect ready) shelf' ready.told.outcome
      out_all traced = as_ready shelf' ready.told.outcome
          (put_all wrote
          (record {
            replaced = replaced_after run.files (replaced_by (record no_effect { trace = trace_file ready.trace })) shelf.files now.files shelf'.files stored.replaced traced.replaced;
            steady = traced.steady ∙ stored.steady;
            wants = traced.wants ∙ stored.wants;
          })
          refl)
