-- Words that aren't carried out.
use Rattle.std.proofs.Common.{◌≡◌, inl, inr, ℕ, List, Some}
use Rattle.call_meaning.specs.declared.status.Outcome.{Outcome}
use Rattle.call_words.specs.declared.command.Command.{Command}
use Rattle.call_words.specs.Command.{command_of}
use Rattle.call_meaning.specs.Meaning.{spec_of}
use Rattle.call_meaning.specs.Meaning.IsUnrun.{refused}
use Rattle.call_meaning.specs.Refusals.{IsTextOutcome}
use Rattle.call_meaning.specs.Calls.{StopsWords}

-- a specification is refused
pub stops_text : (words : List (List ℕ)) (command : Command) (spec : List ℕ) (outcome : Outcome) → command_of words ≡ Some command → spec_of command ≡ Some spec → IsTextOutcome spec outcome → StopsWords words outcome
stops_text words command spec outcome read is (inl memory) = inl memory.0
stops_text words command spec outcome read is (inr refusal) =
    inr (refused refusal.fault (record { command = command; command_is = read; spec = spec; spec_is = is; refused = refusal.least }) refusal.outcome_is)
