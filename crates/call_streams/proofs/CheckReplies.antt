-- From what the parts of a check did to what it decides.
use Rattle.std.proofs.Common.{◌≡◌, ◌⊎◌, inl, inr, ℕ, Bool, true, List, [], length, refl, sym, ◌∙◌, ap, subst, Option, Some, None}
use Rattle.std.proofs.KnownBytes.{Appends-nil, Consumes-nil}
use Rattle.std.proofs.lemmas.List.Elements.{All-nil}
use Rattle.outside.specs.Device.{Device}
use Rattle.outside.specs.Files.{Files}
use Rattle.pipe_model.specs.declared.net.Net.{Net}
use Rattle.pipe_model.specs.declared.step.Entry.{Entry}
use Rattle.pipe_model.specs.Table.Feed.{OfFile}
use Rattle.journal_file.specs.declared.checking.Checked.{Checked}
use Rattle.journal_file.specs.declared.checking.Checked.TheVariants.{Legal, Illegal}
use Rattle.journal_file.specs.declared.reading.JournalFault.{JournalFault}
use Rattle.journal_file.specs.declared.reading.JournalFault.TheVariants.{Line}
use Rattle.journal_file.specs.Faults.{IsFaultOf, IsFirstFault}
use Rattle.journal_file.specs.Judged.{Judges}
use Rattle.call_streams.specs.declared.fetch.Found.{Found}
use Rattle.call_meaning.specs.declared.status.Outcome.{Outcome}
use Rattle.call_meaning.specs.declared.status.Outcome.TheVariants.{Done, ShelfFault, NoMemory, JournalAbsent, JournalLine, JournalEntry}
use Rattle.call_streams.specs.declared.text.Told.{Told}
use Rattle.call_meaning.specs.Effects.{no_effect, output_of}
use Rattle.call_meaning.specs.Devices.{Outside, Store, outside, store}
use Rattle.call_meaning.specs.Meaning.{CheckMeans, ChecksJournal, ChecksNet, FeedsNet, HasChecked, legal_line}
use Rattle.call_meaning.specs.Meaning.CheckMeans.{legal, illegal}
use Rattle.call_meaning.specs.Meaning.ComesTo.{checked}
use Rattle.call_meaning.specs.Meaning.FeedsNet.{of_check}
use Rattle.call_meaning.specs.Meaning.IsUnfit.{absent, unread}
use Rattle.call_meaning.specs.Answer.{Decides, HasCause}
use Rattle.call_meaning.specs.Answer.HasCause.{unfit, came, fetch_failed, write_failed, no_memory}
use Rattle.call_meaning.specs.Answer.HasDone.{whole}
use Rattle.call_meaning.specs.Answer.IsFetching.{of_journal}
use Rattle.call_meaning.specs.Answer.MayRead.{nothing_read}
use Rattle.call_streams.specs.Fetched.{AreOf, HasJournal, HasNoJournal, IsGiven, IsUngiven, StopsFinding, StopsGiving, files_known}
use Rattle.call_streams.specs.Written.{HasGiven}
use Rattle.call_streams.specs.Feeding.{IsFed, IsFedPart}
use Rattle.call_streams.specs.Texts.{IsToldAs, wants_memory}
use Rattle.call_streams.specs.Written.HasGiven.{gave, gave_part}
use Rattle.call_streams.proofs.Feedings.{decides_no_memory, decides_unfed}
use Rattle.call_streams.proofs.Fetches.{known_there}
use Rattle.call_streams.proofs.Replies.{unreplaced}

-- The file of the journal was fetched.

-- nothing was fetched before
pub none_known : (old : Option Files) (empty : List Found) → empty ≡ [] → AreOf (files_known old empty) empty
none_known old empty none = subst (λ (found : List Found). AreOf (files_known old found) found) (sym none) (All-nil (λ (file : Found). files_known old [] file.name ≡ file.bytes))

module _ (name : List ℕ) (old new : Store) where
  -- the file wasn't given
  stops_finding : (files : Files) (outcome : Outcome) → StopsGiving (OfFile name) old new outcome → StopsFinding name files old new outcome
  stops_finding files (ShelfFault other) stops = (name_of stops.0, stops.1)
    where
      name_of : {other : List ℕ} → OfFile name ≡ OfFile other → other ≡ name
      name_of is = cc
  stops_finding files NoMemory stops = stops
  stops_finding files _ stops = absurd stops

  pub none_found : (outcome : Outcome) → IsUngiven (OfFile name) old new outcome → HasNoJournal name old new outcome
  none_found outcome ungiven = record {
    files = files_known old.files [];
    found = known_there old.files [];
    kept = ungiven.kept;
    stops = stops_finding (files_known old.files []) outcome ungiven.stops;
  }

  module _ (empty : List Found) (none : empty ≡ []) (found : List Found) (bytes : Option (List ℕ)) (given : IsGiven (OfFile name) old new empty found bytes) where
    abbrev there : Files
    there = files_known old.files found

    there_of : AreOf there found
    there_of = given.known (none_known old.files empty none)

    there_is : bytes ≡ there name
    there_is = given.file there there_of

    not_found : (outcome : Outcome) → StopsFinding name there old new outcome → HasNoJournal name old new outcome
    not_found outcome stops = record { files = there; found = known_there old.files found; kept = given.kept; stops = stops }

    -- the same by an equation
    not_found_as : (outcome told : Outcome) → told ≡ outcome → StopsFinding name there old new outcome → HasNoJournal name old new told
    not_found_as outcome told is stops = not_found told (subst (StopsFinding name there old new) (sym is) stops)

    -- it was, but memory was wanted to read it
    pub no_memory_found : (told : Outcome) → told ≡ NoMemory → HasNoJournal name old new told
    no_memory_found told is = not_found_as NoMemory told is given.steady

    -- it was found not to be there
    pub absent_found : (told : Told) → IsToldAs JournalAbsent told → bytes ≡ None → HasNoJournal name old new told.outcome
    absent_found told is gone = by is.1
      where
        by : (told.outcome ≡ JournalAbsent) ⊎ ((wants_memory JournalAbsent ≡ true) × (told.outcome ≡ NoMemory)) → HasNoJournal name old new told.outcome
        by (inl same) = not_found_as JournalAbsent told.outcome same (sym there_is ∙ gone, given.steady)
        by (inr wants) = no_memory_found told.outcome wants.1

    -- it has a line that isn't of the format
    pub unread_found : (told : Told) (text shown : List ℕ) (fault : JournalFault) (number : ℕ) → IsToldAs (JournalLine number) told → bytes ≡ Some text → shown ≡ text → fault ≡ Line number →
        IsFaultOf shown fault → HasNoJournal name old new told.outcome
    unread_found told text shown fault number is some same line first = by is.1
      where
        first_fault : IsFirstFault text number
        first_fault = subst (λ z. IsFaultOf z (Line number)) same (subst (λ z. IsFaultOf shown z) line first)

        by : (told.outcome ≡ JournalLine number) ⊎ ((wants_memory (JournalLine number) ≡ true) × (told.outcome ≡ NoMemory)) → HasNoJournal name old new told.outcome
        by (inl same_line) = not_found_as (JournalLine number) told.outcome same_line ((text, sym there_is ∙ some, first_fault), given.steady)
        by (inr wants) = no_memory_found told.outcome wants.1

-- The journal was played.

pub judged_legal : (net : Net) (journal : List Entry) (was : Checked) (complete : Bool) (text : List ℕ) (told : Outcome) → Judges net journal was → was ≡ Legal complete →
    text ≡ legal_line (length journal) complete → told ≡ Done → CheckMeans net journal told (output_of text)
judged_legal net journal was complete text told judges is text_is told_is = legal complete (subst (Judges net journal) is judges) told_is (ap output_of text_is)

pub judged_illegal : (net : Net) (journal : List Entry) (was : Checked) (place : ℕ) (text : List ℕ) (told : Outcome) → Judges net journal was → was ≡ Illegal place → text ≡ [] →
    told ≡ JournalEntry place → CheckMeans net journal told (output_of text)
judged_illegal net journal was place text told judges is text_is told_is = illegal place (subst (Judges net journal) is judges) told_is (ap output_of text_is)

-- What the check decides

module _ (words : List (List ℕ)) (net : Net) (name : List ℕ) (checks : ChecksNet words net name) (input output : Device) (shelf middle : Store) where
  abbrev old : Outside
  old = outside input output shelf

  -- there is no journal
  unfound : (files : Files) (outcome : Outcome) → StopsFinding name files shelf middle outcome → HasCause words old (outside input output middle) (record { input = []; files = files }) no_effect outcome
  unfound files (ShelfFault other) stops = fetch_failed name (of_journal net checks) refl (ap ShelfFault stops.0) refl refl refl stops.1
  unfound files JournalAbsent stops = unfit (absent net name checks stops.0 refl) refl refl (record { input = refl; output = refl; shelf = stops.1 })
  unfound files (JournalLine number) stops =
      unfit (unread net name stops.0.0 number checks stops.0.1 stops.0.2 refl) refl refl (record { input = refl; output = refl; shelf = stops.1 })
  unfound files NoMemory stops = no_memory refl refl (nothing_read refl) (record { input = refl; output = refl; shelf = stops })
  unfound files _ stops = absurd stops

  pub decides_unfound : (outcome : Outcome) → HasNoJournal name shelf middle outcome → Decides words old (outside input output middle) outcome
  decides_unfound outcome none = record {
    given = record { input = []; files = none.files };
    effect = no_effect;
    gave = Consumes-nil input.bytes;
    found = none.found;
    done = whole (record { output = Appends-nil output.bytes; files = unreplaced shelf.files middle.files none.kept }) (unfound none.files outcome none.stops);
  }

  module _ (found : List Found) (journal : List Entry) (has : HasJournal name shelf middle found journal) (input' : Device) (shelf' : Store) where
    -- the fetching of the journal shows in no object
    as_before : outside input output middle ≡ old
    as_before = λ i. outside input output (store (has.kept i) (has.steady i) (has.wants i))

    abbrev fed : Outside
    fed = outside input' output shelf'

    checks_journal : (files : Files) → AreOf files found → ChecksJournal words files net journal
    checks_journal files are = record { name = name; checks = checks; is_journal = has.is_journal; stored = has.stored files are }

    feeds : (files : Files) → AreOf files found → FeedsNet words files net
    feeds files are = of_check journal (checks_journal files are)

    -- the feeding ended before
    pub checks_unfed : (outcome : Outcome) → IsFedPart net found (outside input output middle) fed outcome → Decides words old fed outcome
    checks_unfed outcome part = decides_unfed words net found old fed refl feeds outcome (subst (λ z. IsFedPart net found z fed outcome) as_before part)

    module _ (after : Net) (is : IsFed net found (outside input output middle) fed after) where
      abbrev now_fed : IsFed net found old fed after
      now_fed = subst (λ z. IsFed net found z fed after) as_before is

      -- memory was wanted behind it
      pub checks_no_memory : (told : Outcome) → told ≡ NoMemory → Decides words old fed told
      checks_no_memory told wants = subst (λ o. Decides words old fed o) (sym wants) (decides_no_memory words net found old fed refl feeds after now_fed)

      module _ (outcome : Outcome) (text : List ℕ) (means : CheckMeans after journal outcome (output_of text)) (output' : Device) where
        -- The journal was judged, and the text was given to the output.

        abbrev comes : (was : IsFed net found old fed after) → HasChecked words was.given outcome (output_of text)
        comes was = record {
          net = net;
          journal = journal;
          checks = checks_journal was.given.files was.of;
          fits = was.fits;
          means = subst (λ n. CheckMeans n journal outcome (output_of text)) was.after_is means;
        }

        decides_by : (was : IsFed net found old fed after) (decided : Outcome) → HasGiven text outcome output output' decided → Decides words old (outside input' output' shelf') decided
        decides_by was decided (gave wrote told) = subst (λ o. Decides words old (outside input' output' shelf') o) (sym told) (record {
          given = was.given;
          effect = output_of text;
          gave = was.gave;
          found = was.found;
          done = whole (record { output = wrote.gained; files = unreplaced shelf.files shelf'.files was.kept })
              (came (checked (comes was)) was.used (record { input = was.steady.input; output = wrote.steady; shelf = was.steady.shelf }));
        })
        decides_by was decided (gave_part part) = record {
          given = was.given;
          effect = output_of part.wrote;
          gave = was.gave;
          found = was.found;
          done = whole (record { output = part.gained; files = unreplaced shelf.files shelf'.files was.kept })
              (write_failed
              (record { outcome = outcome; whole = output_of text; comes = checked (comes was); used = was.used; wrote = part.wrote; cut = part.cut; effect_is = refl })
              part.fault was.steady.input part.failed was.steady.shelf);
        }

        pub decides_checked : (decided : Outcome) → HasGiven text outcome output output' decided → Decides words old (outside input' output' shelf') decided
        decides_checked decided given = decides_by now_fed decided given
