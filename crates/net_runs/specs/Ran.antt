-- What a core did in a run; it serves the inside.
use Rattle.std.specs.Prelude.{◌≡◌, ℕ, ◌≤◌, [], length}
use Rattle.pipe_model.specs.declared.net.Net.{Net}
use Rattle.pipe_model.specs.declared.step.Entry.{Entry}
use Rattle.pipe_model.specs.Play.{IsLegal, IsLicensed}
use Rattle.pipe_model.specs.Reply.{reply}
use Rattle.core_machine.specs.Machine.{Machine, HasStopped, state_of}
use Rattle.call_meaning.specs.declared.status.Outcome.{Outcome}
use Rattle.call_meaning.specs.declared.status.Outcome.TheVariants.{Spent}
use Rattle.call_meaning.specs.Effects.{Effect, effect_of, no_effect}
use Rattle.call_meaning.specs.Meaning.{AreLeast, outcome_of}

-- how the run of a core ended, in so many steps at most
pub data EndsAs (steps : ℕ) (core : Machine) (outcome : Outcome) : Type 0 where
  -- no strand can go on, and the outcome is its reply's
  completes : HasStopped core → outcome ≡ outcome_of core.net (reply core.net (state_of core)) → EndsAs steps core outcome
  -- or as many steps were taken, and one more may be
  spends : outcome ≡ Spent steps → length core.journal ≡ steps → (e : Entry) × IsLicensed core.net (state_of core) e → EndsAs steps core outcome

-- a core ran a net so
pub record IsRun (net : Net) (steps workers : ℕ) (core : Machine) (outcome : Outcome) : Type 0 where
  pub net_is : core.net ≡ net
  pub legal : IsLegal core.net core.journal
  pub home : core.out ≡ []
  pub within : length core.journal ≤ steps
  -- one worker took the least step each time
  pub least : workers ≡ 1 → AreLeast core.net core.journal
  pub ends : EndsAs steps core outcome

-- what is done of a run with this outcome, but for its journal's file
abbrev pub run_effect : Machine → Outcome → Effect
run_effect core (Spent steps) = no_effect
run_effect core _ = effect_of (reply core.net (state_of core))
