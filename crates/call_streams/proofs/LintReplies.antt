-- From the line of a lint to what it decides.
use Rattle.std.proofs.Common.{ℕ, List, refl}
use Rattle.outside.specs.Device.{Device}
use Rattle.pipe_model.specs.declared.net.Net.{Net}
use Rattle.call_meaning.specs.declared.status.Outcome.{Outcome}
use Rattle.call_meaning.specs.Answer.{Decides}
use Rattle.call_meaning.specs.Devices.{Store, outside}
use Rattle.call_meaning.specs.Effects.{output_of}
use Rattle.call_meaning.specs.Meaning.{LintMeans, LintsNet}
use Rattle.call_meaning.specs.Meaning.ComesTo.{linted}
use Rattle.call_streams.specs.Written.{HasGiven}
use Rattle.call_streams.proofs.Replies.{decides_text}

-- the line was written, or couldn't be whole
pub decides_lint : (words : List (List ℕ)) (input output output' : Device) (shelf : Store) (net : Net) → LintsNet words net → (text : List ℕ) (outcome : Outcome) → LintMeans net outcome (output_of text) →
    (decided : Outcome) → HasGiven text outcome output output' decided → Decides words (outside input output shelf) (outside input output' shelf) decided
decides_lint words input output output' shelf net lints text outcome means = decides_text words input output shelf text outcome (linted (record { net = net; lints = lints; means = means })) refl output'
