-- What the stages of a net were fed; it serves the inside.
use Rattle.std.specs.Prelude.{◌≡◌, ◌⊎◌, ◌<◌, ◌≤◌, Bool, true, false, List, [], ◌∷◌}
use Rattle.std.specs.Option.{IfSome}
use Rattle.pipe_model.specs.declared.net.Net.{Net}
use Rattle.pipe_model.specs.declared.net.Strand.{Strand}
use Rattle.pipe_model.specs.WellFormed.{IsWellFormed}
use Rattle.std.specs.Io.KnownBytes.{Consumes}
use Rattle.outside.specs.Faults.{Rose}
use Rattle.net_graph.specs.Fed.{reads_any}
use Rattle.call_meaning.specs.declared.nets.Set.{Set}
use Rattle.call_meaning.specs.declared.nets.Set.TheVariants.{Whole, Refused}
use Rattle.call_meaning.specs.declared.status.Outcome.{Outcome}
use Rattle.call_meaning.specs.declared.status.Outcome.TheVariants.{ReadFault, ShelfFault, NoMemory, InputTooLarge}
use Rattle.call_streams.specs.declared.fetch.Found.{Found}
use Rattle.call_meaning.specs.Devices.{AllSteady, Failed, Outside, Steady}
use Rattle.call_meaning.specs.Effects.{Before}
use Rattle.call_meaning.specs.Meaning.{IsNextFile, fed_size, input_limit, net_on}
use Rattle.call_meaning.specs.Answer.{IsUsed}
use Rattle.call_streams.specs.Fetched.{AreOf}

-- what the stages of a net are fed was fetched and read, where these files were fetched before
pub record IsFed (net : Net) (before : List Found) (old new : Outside) (after : Net) : Type 0 where
  -- the bytes that the input gave, and the files that there were
  pub given : Before
  pub gave : Consumes old.input.bytes new.input.bytes given.input
  pub found : IfSome old.shelf.files (λ there. given.files ≡ there)
  pub of : AreOf given.files before
  pub kept : new.shelf.files ≡ old.shelf.files
  pub fits : fed_size given net ≤ input_limit
  pub used : IsUsed net given new.input
  pub steady : AllSteady old new
  pub wants : new.shelf.wants ≡ old.shelf.wants
  pub after_is : after ≡ net_on given net

-- why it wasn't: a file failed, the input failed, they gave too much, or memory was wanted
abbrev pub StopsFeeding : Net → Outside → Outside → Before → Outcome → Type 0
StopsFeeding net old new given (ShelfFault name) = IsNextFile net given.files name × (given.input ≡ []) × Steady old.input new.input × Rose old.shelf.faults new.shelf.faults
StopsFeeding net old new given ReadFault = (reads_any net ≡ true) × (fed_size given net ≤ input_limit) × Failed old.input new.input × (new.shelf.faults ≡ old.shelf.faults)
StopsFeeding net old new given InputTooLarge = (input_limit < fed_size given net) × AllSteady old new
StopsFeeding net old new given NoMemory = ((given.input ≡ []) ⊎ (reads_any net ≡ true)) × AllSteady old new
StopsFeeding net old new given _ = ⊥

pub record IsFedPart (net : Net) (before : List Found) (old new : Outside) (outcome : Outcome) : Type 0 where
  pub given : Before
  pub gave : Consumes old.input.bytes new.input.bytes given.input
  pub found : IfSome old.shelf.files (λ there. given.files ≡ there)
  pub of : AreOf given.files before
  pub kept : new.shelf.files ≡ old.shelf.files
  pub stops : StopsFeeding net old new given outcome

-- the nets of the sets that aren't refused
abbrev pub nets_in : List Set → List Net
nets_in [] = []
nets_in (Whole net ∷ sets) = net ∷ nets_in sets
nets_in (Refused outcome ∷ sets) = nets_in sets

-- a set whose net is changed
abbrev pub set_with : (Net → Net) → Set → Set
set_with change (Whole net) = Whole (change net)
set_with change (Refused outcome) = Refused outcome

-- a set with what its stages are fed
abbrev pub set_on : Before → Set → Set
set_on given set = set_with (net_on given) set

-- the strands of a set
abbrev pub strands_in : Set → List Strand
strands_in (Whole net) = net.strands
strands_in (Refused outcome) = []

-- a stage of the set reads the input
abbrev pub set_reads : Set → Bool
set_reads (Whole net) = reads_any net
set_reads (Refused outcome) = false

-- its net is whole
abbrev pub IsWholeSet : Set → Type 0
IsWholeSet (Whole net) = IsWellFormed net
IsWholeSet (Refused outcome) = Unit {0}
