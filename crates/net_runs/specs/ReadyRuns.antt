-- A run of which nothing has been written, and how far its effect was carried out.
use Rattle.std.specs.Prelude.{◌≡◌, ℕ, ◌≤◌, List, length}
use Rattle.std.specs.Option.{IfSome, option_map_or}
use Rattle.std.specs.declared.option.Option.{Option}
use Rattle.std.specs.declared.option.Option.TheVariants.{Some, None}
use Rattle.pipe_model.specs.declared.net.Net.{Net}
use Rattle.outside.specs.Device.{Device}
use Rattle.call_meaning.specs.declared.status.Outcome.{Outcome}
use Rattle.call_meaning.specs.declared.status.Outcome.TheVariants.{NoMemory}
use Rattle.net_runs.specs.declared.ready_run.Ready.{Ready}
use Rattle.net_runs.specs.declared.trace.Trace.{Trace}
use Rattle.call_meaning.specs.Devices.{Store}
use Rattle.call_meaning.specs.Effects.{ArePartReplaced, Effect, no_effect, replaced_by, traced}
use Rattle.call_streams.specs.Texts.{IsTelling}
use Rattle.call_streams.specs.Written.{IsPartWritten, IsWritten}
use Rattle.net_runs.specs.Ran.{IsRun, run_effect}
use Rattle.net_runs.specs.Puts.{ArePuts, AreStored, StopsStoring}
use Rattle.net_runs.specs.Traces.{IsTrace, trace_file}

-- all that is done of a run is ready to be
pub record IsReady {S : Type 0} (net : Net) (steps workers : ℕ) (trace : Option (List ℕ)) (ready : Ready S) : Type 0 where
  pub run : IsRun net steps workers ready.core ready.told.outcome
  pub few : length ready.core.net.strands ≤ 65536
  pub telling : IsTelling ready.told
  pub puts : ArePuts ready.core (run_effect ready.core ready.told.outcome).files ready.puts.items
  pub trace_is : trace_file ready.trace ≡ (traced trace ready.core.journal no_effect).trace
  pub trace_fault : IfSome ready.trace IsTrace

-- the effect of a run that is ready
abbrev pub ready_effect : {S : Type 0} → Ready S → Effect
ready_effect ready = traced (option_map_or (λ (trace : Trace). Some trace.name) ready.trace None) ready.core.journal (run_effect ready.core ready.told.outcome)

-- an effect was carried out, after which this outcome is told; or its output couldn't be written whole, or not all its files were replaced
pub data PutsOut (effect : Effect) (output output' : Device) (shelf shelf' : Store) (outcome decided : Outcome) : Type 0 where
  put_all : IsWritten effect.output output output' → AreStored (replaced_by effect) shelf shelf' → decided ≡ outcome → PutsOut effect output output' shelf shelf' outcome decided
  put_part : IsPartWritten effect.output output output' decided → shelf' ≡ shelf → PutsOut effect output output' shelf shelf' outcome decided
  put_torn : (name : List ℕ) → IsWritten effect.output output output' → ArePartReplaced name (replaced_by effect) shelf.files shelf'.files → StopsStoring name shelf shelf' decided → PutsOut effect output output' shelf shelf' outcome decided

-- an outcome and an effect of this meaning were come to, and the effect was carried out; or memory was wanted for them, and nothing was written
pub data CarriesOut (Means : Outcome → Effect → Type 0) (output output' : Device) (shelf shelf' : Store) (decided : Outcome) : Type 0 where
  carried : (outcome : Outcome) (effect : Effect) → Means outcome effect → PutsOut effect output output' shelf shelf' outcome decided → CarriesOut Means output output' shelf shelf' decided
  unmade : output' ≡ output → shelf' ≡ shelf → decided ≡ NoMemory → CarriesOut Means output output' shelf shelf' decided
