-- What is done of a run.
use Rattle.std.proofs.Common.{◌≡◌, ℕ, List, [], ◌∷◌, refl, sym, ◌∙◌, ap, Option, Some, None, zero, pos, ℤ}
use Rattle.std.specs.Option.{option_map_or}
use Rattle.pipe_model.specs.declared.net.Net.{Net}
use Rattle.pipe_model.specs.declared.step.Entry.{Entry}
use Rattle.pipe_model.specs.Reply.{FileText, WaitLine, reply}
use Rattle.core_machine.specs.Machine.{Machine, state_of}
use Rattle.net_runs.specs.declared.ready_run.Ready.{Ready}
use Rattle.call_meaning.specs.declared.status.Outcome.{Outcome}
use Rattle.call_meaning.specs.declared.status.Outcome.TheVariants.{Spent}
use Rattle.net_runs.specs.declared.trace.Trace.{Trace}
use Rattle.call_meaning.specs.Effects.{Effect, effect_of, no_effect, traced}
use Rattle.call_meaning.specs.Meaning.{outcome_by, outcome_of}
use Rattle.net_runs.specs.ReadyRuns.{IsReady, ready_effect}
use Rattle.net_runs.specs.Ran.{run_effect}
use Rattle.net_runs.specs.Traces.{trace_file}

-- the effect of its reply, where there were steps enough
pub unspent_effect : (core : Machine) (outcome : Outcome) → ((steps : ℕ) → outcome ≡ Spent steps → ⊥) → run_effect core outcome ≡ effect_of (reply core.net (state_of core))
unspent_effect core (Spent steps) unspent = absurd (unspent steps refl)
unspent_effect core _ unspent = refl

-- a reply tells no want of steps
reply_unspent : (net : Net) (waits : List WaitLine) (code : ℤ) (steps : ℕ) → outcome_by net waits code ≡ Spent steps → ⊥
reply_unspent net (w ∷ ws) code steps is = cc
reply_unspent net [] (pos zero) steps is = cc
reply_unspent net [] _ steps is = cc

-- so the effect of a run that tells its reply is that of the reply
pub replied_effect : (core : Machine) (outcome : Outcome) → outcome ≡ outcome_of core.net (reply core.net (state_of core)) → run_effect core outcome ≡ effect_of (reply core.net (state_of core))
replied_effect core outcome of =
    let answer = reply core.net (state_of core) in
    unspent_effect core outcome (λ steps is. reply_unspent core.net answer.waits answer.code steps (sym of ∙ is))

-- the journal's file is no part of it
run_untraced : (core : Machine) (outcome : Outcome) → (run_effect core outcome).trace ≡ None
run_untraced core (Spent steps) = refl
run_untraced core _ = refl

-- The effect of a run that is ready

-- the name of the journal's file
abbrev name_of : Option Trace → Option (List ℕ)
name_of made = option_map_or (λ (trace : Trace). Some trace.name) made None

module _ (journal : List Entry) where
  -- it is the one that was asked for
  name_same : (made : Option Trace) (trace : Option (List ℕ)) → trace_file made ≡ (traced trace journal no_effect).trace → name_of made ≡ trace
  name_same None None is = refl
  name_same None (Some name) is = cc
  name_same (Some made) None is = cc
  name_same (Some made) (Some name) is = ap (λ (file : Option FileText). option_map_or (λ (f : FileText). Some f.0) file None) is

  -- and the file is the journal's
  with_trace : (made : Option Trace) (trace : Option (List ℕ)) (effect : Effect) → effect.trace ≡ None → trace_file made ≡ (traced trace journal no_effect).trace → traced (name_of made) journal effect ≡ record effect { trace = trace_file made }
  with_trace None trace effect none is = ap (λ file. record effect { trace = file }) none
  with_trace (Some made) None effect none is = cc
  with_trace (Some made) (Some name) effect none is =
      ap (λ (file : Option FileText). record effect { trace = Some (made.name, option_map_or (λ (f : FileText). f.1) file []) }) (sym is)

module _ {S : Type 0} (net : Net) (steps workers : ℕ) (trace : Option (List ℕ)) (ready : Ready S) (is : IsReady net steps workers trace ready) where
  -- it is that of the run, with the file of the journal
  pub traced_effect : traced trace ready.core.journal (run_effect ready.core ready.told.outcome) ≡ ready_effect ready
  traced_effect = ap (λ name. traced name ready.core.journal (run_effect ready.core ready.told.outcome)) (sym (name_same ready.core.journal ready.trace trace is.trace_is))

  pub effect_is : ready_effect ready ≡ record (run_effect ready.core ready.told.outcome) { trace = trace_file ready.trace }
  effect_is = with_trace ready.core.journal ready.trace trace (run_effect ready.core ready.told.outcome) (run_untraced ready.core ready.told.outcome) is.trace_is
