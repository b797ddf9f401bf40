-- What a call decides by the feeding of its net: where that ended before, and where memory is wanted behind it.
use Rattle.std.proofs.Common.{◌≡◌, ◌⊎◌, inl, inr, ℕ, Bool, true, false, List, [], refl, sym, ap, subst}
use Rattle.std.specs.Io.KnownBytes.{Appends}
use Rattle.std.proofs.KnownBytes.{Appends-nil}
use Rattle.outside.specs.Device.{Device}
use Rattle.outside.specs.Files.{Files}
use Rattle.pipe_model.specs.declared.net.Net.{Net}
use Rattle.net_graph.specs.Fed.{reads_any}
use Rattle.call_streams.specs.declared.fetch.Found.{Found}
use Rattle.call_meaning.specs.declared.status.Outcome.{Outcome}
use Rattle.call_meaning.specs.declared.status.Outcome.TheVariants.{ReadFault, ShelfFault, NoMemory, InputTooLarge}
use Rattle.call_meaning.specs.Effects.{Before, no_effect}
use Rattle.call_meaning.specs.Devices.{IsDone, Outside, Steady}
use Rattle.call_meaning.specs.Meaning.{FeedsNet}
use Rattle.call_meaning.specs.Answer.{Decides, HasCause, MayRead}
use Rattle.call_meaning.specs.Answer.HasCause.{too_large, fetch_failed, read_failed, no_memory}
use Rattle.call_meaning.specs.Answer.HasDone.{whole}
use Rattle.call_meaning.specs.Answer.IsFetching.{of_stage}
use Rattle.call_meaning.specs.Answer.MayRead.{nothing_read, of_net}
use Rattle.call_streams.specs.Fetched.{AreOf}
use Rattle.call_streams.specs.Feeding.{IsFed, IsFedPart, StopsFeeding}
use Rattle.call_streams.proofs.Replies.{unreplaced}

module _ (words : List (List ℕ)) (net : Net) (found : List Found) (old new : Outside) (same : new.output ≡ old.output) (feeds : (files : Files) → AreOf files found → FeedsNet words files net) where
  -- nothing was written
  undone : new.shelf.files ≡ old.shelf.files → IsDone no_effect old new
  undone kept = record {
    output = subst (λ (d : Device). Appends old.output.bytes d.bytes []) (sym same) (Appends-nil old.output.bytes);
    files = unreplaced old.shelf.files new.shelf.files kept;
  }

  unwritten : Steady old.output new.output
  unwritten = ap (λ (d : Device). d.faults) same

  -- the input was read where the net reads it
  may_read : (given : Before) → AreOf given.files found → (given.input ≡ []) ⊎ (reads_any net ≡ true) → MayRead words given
  may_read given of (inl none) = nothing_read none
  may_read given of (inr reads) = of_net net (feeds given.files of) reads

  read_or_not : (fed : (after : Net) × IsFed net found old new after) → (fed.1.given.input ≡ []) ⊎ (reads_any net ≡ true)
  read_or_not fed = by (reads_any net) refl
    where
      by : (b : Bool) → reads_any net ≡ b → (fed.1.given.input ≡ []) ⊎ (reads_any net ≡ true)
      by true is = inr is
      by false is = inl (fed.1.used.leaves is)

  -- the feeding ended before
  unfed : (given : Before) (outcome : Outcome) → AreOf given.files found → StopsFeeding net old new given outcome → HasCause words old new given no_effect outcome
  unfed given (ShelfFault name) of stops = fetch_failed name (of_stage net (feeds given.files of) stops.0) stops.1 refl refl stops.2 unwritten stops.3
  unfed given ReadFault of stops = read_failed (record { net = net; feeds = feeds given.files of; reads = stops.0; fits = stops.1 }) refl refl stops.2 unwritten stops.3
  unfed given InputTooLarge of stops = too_large (record { net = net; feeds = feeds given.files of; large = stops.0 }) refl refl stops.1
  unfed given NoMemory of stops = no_memory refl refl (may_read given of stops.0) stops.1
  unfed given _ of stops = absurd stops

  pub decides_unfed : (outcome : Outcome) → IsFedPart net found old new outcome → Decides words old new outcome
  decides_unfed outcome part = record {
    given = part.given;
    effect = no_effect;
    gave = part.gave;
    found = part.found;
    done = whole (undone part.kept) (unfed part.given outcome part.of part.stops);
  }

  -- memory was wanted behind it
  pub decides_no_memory : (after : Net) → IsFed net found old new after → Decides words old new NoMemory
  decides_no_memory after fed = record {
    given = fed.given;
    effect = no_effect;
    gave = fed.gave;
    found = fed.found;
    done = whole (undone fed.kept) (no_memory refl refl (may_read fed.given fed.of (read_or_not (after, fed))) fed.steady);
  }
