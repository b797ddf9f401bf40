-- What was read of the input; it serves the inside.
use Rattle.std.specs.Prelude.{◌≡◌, ℕ, ◌<◌, ◌≤◌, true, false, List, [], length}
use Rattle.pipe_model.specs.declared.net.Net.{Net}
use Rattle.std.specs.Io.KnownBytes.{Consumes}
use Rattle.outside.specs.Device.{Device}
use Rattle.net_graph.specs.Fed.{reads_any}
use Rattle.call_meaning.specs.declared.status.Outcome.{Outcome}
use Rattle.call_meaning.specs.declared.status.Outcome.TheVariants.{ReadFault, NoMemory, InputTooLarge}
use Rattle.call_meaning.specs.Devices.{Failed, IsRead, Steady}

-- the input was read to its end, so many bytes at most
pub record IsWhole (limit : ℕ) (input input' : Device) (bytes : List ℕ) : Type 0 where
  pub gave : Consumes input.bytes input'.bytes bytes
  pub fits : length bytes ≤ limit
  pub ended : IsRead input'
  pub steady : Steady input input'

-- why the reading of the input ended before
abbrev pub StopsReading : ℕ → Device → Device → List ℕ → Outcome → Type 0
StopsReading limit input input' given ReadFault = (length given ≤ limit) × Failed input input'
StopsReading limit input input' given InputTooLarge = (limit < length given) × Steady input input'
StopsReading limit input input' given NoMemory = Steady input input'
StopsReading limit input input' given _ = ⊥

-- the reading of the input ended before its end
pub record IsPart (limit : ℕ) (input input' : Device) (outcome : Outcome) : Type 0 where
  pub given : List ℕ
  pub gave : Consumes input.bytes input'.bytes given
  pub stops : StopsReading limit input input' given outcome

-- what a net takes of the input was read
pub record IsTaken (limit : ℕ) (net : Net) (input input' : Device) (bytes : List ℕ) : Type 0 where
  pub gave : Consumes input.bytes input'.bytes bytes
  pub fits : length bytes ≤ limit
  pub reads : reads_any net ≡ true → IsRead input'
  pub leaves : reads_any net ≡ false → bytes ≡ []
  pub steady : Steady input input'

-- it wasn't, which only a net that reads the input meets
abbrev pub IsTakenPart : ℕ → Net → Device → Device → Outcome → Type 0
IsTakenPart limit net input input' outcome = (reads_any net ≡ true) × IsPart limit input input' outcome
