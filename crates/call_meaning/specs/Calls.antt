-- What the words of a call come to; it serves the inside.
use Rattle.std.specs.Prelude.{◌≡◌, ◌⊎◌, ◌<◌, ◌≤◌, ℕ, List}
use Rattle.std.specs.declared.option.Option.TheVariants.{Some}
use Rattle.pipe_model.specs.WellFormed.{IsWellFormed}
use Rattle.net_graph.specs.Fed.{AreUnfiled}
use Rattle.call_meaning.specs.declared.status.Outcome.{Outcome}
use Rattle.call_meaning.specs.declared.status.Outcome.TheVariants.{NoMemory}
use Rattle.call_meaning.specs.declared.calls.Call.{Call}
use Rattle.call_meaning.specs.declared.calls.Call.TheVariants.{Run, Check, Lint, Sample, Sets}
use Rattle.call_meaning.specs.declared.nets.Set.{Set}
use Rattle.call_meaning.specs.declared.nets.Set.TheVariants.{Whole, Refused}
use Rattle.call_words.specs.declared.command.Command.TheVariants as Said
use Rattle.call_words.specs.Command.{command_of}
use Rattle.call_meaning.specs.Meaning.{ChecksNet, IsNetOf, IsUnrun, LintsNet, RunsNet, SamplesNet}
use Rattle.call_meaning.specs.Refusals.{IsRefusal}

-- the words ask for this
abbrev pub IsCall : List (List ℕ) → Call → Type 0
IsCall words (Run net workers steps trace) = (runs : RunsNet words net steps trace) × (runs.run.workers ≡ workers)
IsCall words (Check net name) = ChecksNet words net name
IsCall words (Lint net) = LintsNet words net
IsCall words (Sample net count workers steps) = (samples : SamplesNet words net count steps) × (samples.workers ≡ workers)
IsCall words (Sets name workers steps) = command_of words ≡ Some (Said.Sets name workers steps)

-- the net of a call is whole, with nothing fed, and its numbers are within their ranges
abbrev pub IsSound : Call → Type 0
IsSound (Run net workers steps trace) = IsWellFormed net × AreUnfiled net × ((0 < workers) × (workers ≤ 64)) × (steps ≤ 50000000)
IsSound (Check net name) = IsWellFormed net × AreUnfiled net
IsSound (Lint net) = IsWellFormed net
IsSound (Sample net count workers steps) = IsWellFormed net × ((0 < workers) × (workers ≤ 64)) × (steps ≤ 50000000)
IsSound (Sets name workers steps) = ((0 < workers) × (workers ≤ 64)) × ((0 < steps) × (steps ≤ 50000000))

-- why the words of a call aren't carried out, in words, or in want of memory
abbrev pub StopsWords : List (List ℕ) → Outcome → Type 0
StopsWords words outcome = (outcome ≡ NoMemory) ⊎ IsUnrun words outcome

-- what a line of a file of sets is: a specification with this net, or one that is refused
abbrev pub IsSetOf : List ℕ → Set → Type 0
IsSetOf spec (Whole net) = IsNetOf spec net
IsSetOf spec (Refused outcome) = IsRefusal spec outcome

-- its net is whole, with nothing fed
abbrev pub IsSoundSet : Set → Type 0
IsSoundSet (Whole net) = IsWellFormed net × AreUnfiled net
IsSoundSet (Refused outcome) = Unit {0}
