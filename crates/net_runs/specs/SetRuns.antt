-- How sets ended.
use Rattle.std.specs.Prelude.{◌≡◌, ℕ, List, [], ◌∷◌, ◌++◌}
use Rattle.std.specs.List.{AllZip}
use Rattle.std.specs.declared.option.Option.{Option}
use Rattle.std.specs.declared.option.Option.TheVariants.{None, Some}
use Rattle.pipe_model.specs.declared.net.Net.{Net}
use Rattle.pipe_model.specs.WellFormed.{IsWellFormed}
use Rattle.core_machine.specs.declared.job.RunEnd.{RunEnd}
use Rattle.core_machine.specs.Machine.{Machine, IsLawful, started}
use Rattle.core_machine.specs.Answered.{Ends, HasRun}
use Rattle.workers.specs.Driven.{HasAdvanced}
use Rattle.call_meaning.specs.declared.nets.Set.{Set}
use Rattle.call_meaning.specs.declared.nets.Set.TheVariants.{Whole, Refused}
use Rattle.call_meaning.specs.declared.status.Outcome.{Outcome}
use Rattle.call_meaning.specs.Effects.{Effect, no_effect}
use Rattle.call_meaning.specs.Meaning.{RunMeans}
use Rattle.call_meaning.specs.Sets.{SetEnd, effect_of_sets, outcome_of_sets}
use Rattle.call_streams.specs.declared.text.Told.{Told}
use Rattle.call_streams.specs.Feeding.{nets_in}
use Rattle.call_streams.specs.Texts.{IsTelling}
use Rattle.net_runs.specs.declared.sets_run.Ended.{Ended}
use Rattle.net_runs.specs.declared.sets_run.Ended.TheVariants.{Ran, Unread}
use Rattle.net_runs.specs.ReadyRuns.{IsReady, ready_effect}

-- a set whose stages are fed came to this end: its net was run by itself in so many steps at most, or it is refused
abbrev pub EndsSo : ℕ → ℕ → Set → SetEnd → Type 0
EndsSo steps workers (Whole net) end = RunMeans net steps workers None end.outcome end.effect
EndsSo steps workers (Refused outcome) end = (end.outcome ≡ outcome) × (end.effect ≡ no_effect)

-- what all of them came to
pub record SetsMean (steps workers : ℕ) (sets : List Set) (outcome : Outcome) (effect : Effect) : Type 0 where
  pub ends : List SetEnd
  pub each : AllZip (λ set end. EndsSo steps workers set end) sets ends
  pub outcome_is : outcome ≡ outcome_of_sets ends
  pub effect_is : effect ≡ effect_of_sets ends

-- Before anything of them is written

-- how a set ended, and what is to be done of it
abbrev pub end_of : {S : Type 0} → Ended S → SetEnd
end_of (Ran ready) = record { outcome = ready.told.outcome; effect = ready_effect ready }
end_of (Unread told) = record { outcome = told.outcome; effect = no_effect }

-- a set whose stages are fed ended so: its net was run by itself in so many steps at most, or it is refused; its text is that of its outcome
abbrev pub HasEnded : {S : Type 0} → ℕ → ℕ → Set → Ended S → Type 0
HasEnded steps workers (Whole net) (Ran ready) = IsReady net steps workers None ready
HasEnded steps workers (Refused outcome) (Unread told) = (told.outcome ≡ outcome) × IsTelling told
HasEnded steps workers (Whole net) (Unread told) = ⊥
HasEnded steps workers (Refused outcome) (Ran ready) = ⊥

-- what is to be done of a set is ready to be
abbrev pub IsWritable : {S : Type 0} → Ended S → Type 0
IsWritable (Ran ready) = (net : Net) × (steps : ℕ) × (workers : ℕ) × IsReady net steps workers None ready
IsWritable (Unread told) = IsTelling told

-- Before a set has ended

-- what is told of a set before the runs: its refusal, with its text, and nothing of a net that is to be run
abbrev pub IsToldOf : Set → Option Told → Type 0
IsToldOf (Whole net) None = Unit {0}
IsToldOf (Refused outcome) (Some told) = (told.outcome ≡ outcome) × IsTelling told
IsToldOf (Whole net) (Some told) = ⊥
IsToldOf (Refused outcome) None = ⊥

-- a core was started with a net that stands, for so many steps at most
abbrev pub HasStarted : ℕ → Net → Machine → Type 0
HasStarted steps net core = IsWellFormed net × (core ≡ started net steps)

-- what was begun of a set: its core is behind those before it, or its refusal is told
abbrev pub HasBegun : ℕ → Set → Option Told → List Machine → List Machine → Type 0
HasBegun steps (Whole net) None old new = (core : Machine) × HasStarted steps net core × (new ≡ old ++ core ∷ [])
HasBegun steps (Refused outcome) (Some told) old new = ((told.outcome ≡ outcome) × IsTelling told) × (new ≡ old)
HasBegun steps (Whole net) (Some told) old new = ⊥
HasBegun steps (Refused outcome) None old new = ⊥

-- the core of a net was run by so many workers, and ended so
pub record HasGone (steps workers : ℕ) (net : Net) (one : Machine × RunEnd) : Type 0 where
  pub whole : IsWellFormed net
  pub advances : HasAdvanced (started net steps) one.0
  pub alone : workers ≡ 1 → HasRun (started net steps) one.0
  pub lawful : IsLawful one.0
  pub ends : Ends one.1 one.0

-- of sets that are left this is told, and of their nets these cores were run
pub record AreLeft (steps workers : ℕ) (sets : List Set) (begun : List (Option Told)) (ran : List (Machine × RunEnd)) : Type 0 where
  pub told : AllZip IsToldOf sets begun
  pub gone : AllZip (λ net one. HasGone steps workers net one) (nets_in sets) ran
