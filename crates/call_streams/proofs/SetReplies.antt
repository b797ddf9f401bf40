-- From what the file of sets and the feeding of all sets came to, to what the call decides.
use Rattle.std.proofs.Common.{◌≡◌, ℕ, List, [], ◌∷◌, refl, sym, ap, subst, Some}
use Rattle.std.proofs.KnownBytes.{Appends-nil, Consumes-nil}
use Rattle.std.specs.List.{AllZip}
use Rattle.outside.specs.Device.{Device}
use Rattle.outside.specs.Files.{Files}
use Rattle.pipe_model.specs.Records.{lines}
use Rattle.pipe_model.specs.declared.net.Net.{Net}
use Rattle.call_words.specs.Command.{command_of}
use Rattle.call_words.specs.declared.command.Command.TheVariants.{Sets}
use Rattle.call_meaning.specs.declared.nets.Set.{Set}
use Rattle.call_meaning.specs.declared.nets.Set.TheVariants.{Whole, Refused}
use Rattle.call_meaning.specs.declared.status.Outcome.{Outcome}
use Rattle.call_meaning.specs.declared.status.Outcome.TheVariants.{ShelfFault, NoMemory, SetsAbsent, SetsLine}
use Rattle.call_meaning.specs.Calls.{IsSetOf}
use Rattle.call_meaning.specs.Devices.{Outside, Store, outside, store}
use Rattle.call_meaning.specs.Effects.{no_effect}
use Rattle.call_meaning.specs.Meaning.{AreNetsOf, FeedsNet}
use Rattle.call_meaning.specs.Meaning.AreNetsOf.{no_line, line_refused, line_read}
use Rattle.call_meaning.specs.Meaning.FeedsNet.{of_sets}
use Rattle.call_meaning.specs.Meaning.IsUnfit.{sets_absent, sets_many}
use Rattle.call_meaning.specs.Sets.{all_of}
use Rattle.call_meaning.specs.Answer.{Decides, HasCause}
use Rattle.call_meaning.specs.Answer.HasCause.{unfit, fetch_failed, no_memory}
use Rattle.call_meaning.specs.Answer.HasDone.{whole}
use Rattle.call_meaning.specs.Answer.IsFetching.{of_sets_file}
use Rattle.call_meaning.specs.Answer.MayRead.{nothing_read}
use Rattle.call_streams.specs.declared.fetch.Found.{Found}
use Rattle.call_streams.specs.Fetched.{AreOf, HasNoSets, HasSets, StopsListing, files_known}
use Rattle.call_streams.specs.Feeding.{IsFed, IsFedPart, nets_in}
use Rattle.call_streams.proofs.Feedings.{decides_unfed}
use Rattle.call_streams.proofs.Fetches.{known_there}
use Rattle.call_streams.proofs.Replies.{unreplaced}

-- the nets of the lines that aren't refused are those of the sets
pub nets_of_sets : (specs : List (List ℕ)) (sets : List Set) → AllZip IsSetOf specs sets → AreNetsOf specs (nets_in sets)
nets_of_sets [] [] are = no_line
nets_of_sets [] (set ∷ sets) are = absurd are
nets_of_sets (spec ∷ specs) [] are = absurd are
nets_of_sets (spec ∷ specs) (Whole net ∷ sets) are = line_read spec net are.0 specs (nets_in sets) (nets_of_sets specs sets are.1)
nets_of_sets (spec ∷ specs) (Refused outcome ∷ sets) are = line_refused spec are.0.fault are.0.least specs (nets_in sets) (nets_of_sets specs sets are.1)

module _ (words : List (List ℕ)) (name : List ℕ) (workers steps : ℕ) (command : command_of words ≡ Some (Sets name workers steps)) (shelf middle : Store) where
  -- the stages of all sets are fed
  pub feeds_sets : (found : List Found) (text : List ℕ) → HasSets name steps shelf middle found text → (sets : List Set) → AllZip IsSetOf (lines text) sets →
      (files : Files) → AreOf files found → FeedsNet words files (all_of (nets_in sets))
  feeds_sets found text has sets are files of =
      of_sets (lines text) steps workers (nets_in sets)
      (record { name = name; command = command; text = text; stored = has.stored files of; lines_are = refl; few = has.few })
      (nets_of_sets (lines text) sets are) refl

  module _ (input output : Device) where
    abbrev old : Outside
    old = outside input output shelf

    abbrev listed : Outside
    listed = outside input output middle

    -- The file gave no sets.

    unlisted : (files : Files) (outcome : Outcome) → StopsListing name steps files shelf middle outcome → HasCause words old listed (record { input = []; files = files }) no_effect outcome
    unlisted files (ShelfFault other) stops = fetch_failed name (of_sets_file workers steps command) refl (ap ShelfFault stops.0) refl refl refl stops.1
    unlisted files SetsAbsent stops = unfit (sets_absent name workers steps command stops.0 refl) refl refl (record { input = refl; output = refl; shelf = stops.1 })
    unlisted files (SetsLine number) stops =
        let many = stops.0.2 in
        unfit (sets_many name stops.0.0 workers steps many.few command stops.0.1 many.past many.fits many.most (ap SetsLine many.number_is)) refl refl
        (record { input = refl; output = refl; shelf = stops.1 })
    unlisted files NoMemory stops = no_memory refl refl (nothing_read refl) (record { input = refl; output = refl; shelf = stops })
    unlisted files _ stops = absurd stops

    pub decides_unlisted : (outcome : Outcome) → HasNoSets name steps shelf middle outcome → Decides words old listed outcome
    decides_unlisted outcome none = record {
      given = record { input = []; files = none.files };
      effect = no_effect;
      gave = Consumes-nil input.bytes;
      found = none.found;
      done = whole (record { output = Appends-nil output.bytes; files = unreplaced shelf.files middle.files none.kept }) (unlisted none.files outcome none.stops);
    }

    module _ (found : List Found) (text : List ℕ) (has : HasSets name steps shelf middle found text) where
      -- memory was wanted before the feeding
      pub decides_listed_no_memory : (told : Outcome) → told ≡ NoMemory → Decides words old listed told
      decides_listed_no_memory told wants = subst (λ o. Decides words old listed o) (sym wants) (record {
        given = record { input = []; files = files_known shelf.files found };
        effect = no_effect;
        gave = Consumes-nil input.bytes;
        found = known_there shelf.files found;
        done = whole (record { output = Appends-nil output.bytes; files = unreplaced shelf.files middle.files has.kept })
            (no_memory refl refl (nothing_read refl) (record { input = refl; output = refl; shelf = has.steady }));
      })

      -- the fetching of the file shows in no object
      pub listed_before : listed ≡ old
      listed_before = λ i. outside input output (store (has.kept i) (has.steady i) (has.wants i))

      module _ (sets : List Set) (are : AllZip IsSetOf (lines text) sets) (input' : Device) (shelf' : Store) where
        abbrev nets : Net
        nets = all_of (nets_in sets)

        abbrev fed : Outside
        fed = outside input' output shelf'

        -- the feeding ended before
        pub sets_unfed : (outcome : Outcome) → IsFedPart nets found listed fed outcome → Decides words old fed outcome
        sets_unfed outcome part =
            decides_unfed words nets found old fed refl (feeds_sets found text has sets are) outcome (subst (λ z. IsFedPart nets found z fed outcome) listed_before part)
