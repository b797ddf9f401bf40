-- The file of sets was fetched, and its lines were counted.
use Rattle.std.proofs.Common.{◌≡◌, ◌⊎◌, inl, inr, ℕ, true, List, [], length, sym, ◌∙◌, subst, Option, Some, None}
use Rattle.outside.specs.Files.{Files}
use Rattle.pipe_model.specs.Records.{lines}
use Rattle.pipe_model.specs.Table.Feed.{OfFile}
use Rattle.call_meaning.specs.declared.status.Outcome.{Outcome}
use Rattle.call_meaning.specs.declared.status.Outcome.TheVariants.{ShelfFault, NoMemory, SetsAbsent, SetsLine}
use Rattle.call_meaning.specs.Devices.{Store}
use Rattle.call_meaning.specs.Sets.{AreFew}
use Rattle.call_streams.specs.declared.fetch.Found.{Found}
use Rattle.call_streams.specs.declared.text.Told.{Told}
use Rattle.call_streams.specs.Fetched.{AreOf, HasManyLines, HasNoSets, HasSets, IsGiven, IsUngiven, StopsGiving, StopsListing, files_known}
use Rattle.call_streams.specs.Texts.{IsToldAs, wants_memory}
use Rattle.call_streams.proofs.CheckReplies.{none_known}
use Rattle.call_streams.proofs.Fetches.{known_there}

module _ (name : List ℕ) (steps : ℕ) (old new : Store) where
  -- the file wasn't given
  stops_listing : (files : Files) (outcome : Outcome) → StopsGiving (OfFile name) old new outcome → StopsListing name steps files old new outcome
  stops_listing files (ShelfFault other) stops = (name_of stops.0, stops.1)
    where
      name_of : {other : List ℕ} → OfFile name ≡ OfFile other → other ≡ name
      name_of is = cc
  stops_listing files NoMemory stops = stops
  stops_listing files _ stops = absurd stops

  pub none_listed : (outcome : Outcome) → IsUngiven (OfFile name) old new outcome → HasNoSets name steps old new outcome
  none_listed outcome ungiven = record {
    files = files_known old.files [];
    found = known_there old.files [];
    kept = ungiven.kept;
    stops = stops_listing (files_known old.files []) outcome ungiven.stops;
  }

  module _ (empty : List Found) (none : empty ≡ []) (found : List Found) (bytes : Option (List ℕ)) (given : IsGiven (OfFile name) old new empty found bytes) where
    abbrev there : Files
    there = files_known old.files found

    there_of : AreOf there found
    there_of = given.known (none_known old.files empty none)

    there_is : bytes ≡ there name
    there_is = given.file there there_of

    not_listed_as : (outcome told : Outcome) → told ≡ outcome → StopsListing name steps there old new outcome → HasNoSets name steps old new told
    not_listed_as outcome told is stops = record { files = there; found = known_there old.files found; kept = given.kept; stops = subst (StopsListing name steps there old new) (sym is) stops }

    -- it was found not to be there
    pub absent_listed : (told : Told) → IsToldAs SetsAbsent told → bytes ≡ None → HasNoSets name steps old new told.outcome
    absent_listed told is gone = by is.1
      where
        by : (told.outcome ≡ SetsAbsent) ⊎ ((wants_memory SetsAbsent ≡ true) × (told.outcome ≡ NoMemory)) → HasNoSets name steps old new told.outcome
        by (inl same) = not_listed_as SetsAbsent told.outcome same (sym there_is ∙ gone, given.steady)
        by (inr wants) = not_listed_as NoMemory told.outcome wants.1 given.steady

    module _ (text shown : List ℕ) (some : bytes ≡ Some text) (same : shown ≡ text) where
      -- it has too many lines
      pub many_listed : (told : Told) (number : ℕ) → IsToldAs (SetsLine number) told → HasManyLines steps shown number → HasNoSets name steps old new told.outcome
      many_listed told number is many = by is.1
        where
          by : (told.outcome ≡ SetsLine number) ⊎ ((wants_memory (SetsLine number) ≡ true) × (told.outcome ≡ NoMemory)) → HasNoSets name steps old new told.outcome
          by (inl line) = not_listed_as (SetsLine number) told.outcome line ((text, sym there_is ∙ some, subst (λ z. HasManyLines steps z number) same many), given.steady)
          by (inr wants) = not_listed_as NoMemory told.outcome wants.1 given.steady

      -- or few
      pub listed : AreFew steps (length (lines shown)) → HasSets name steps old new found text
      listed few = record {
        kept = given.kept;
        steady = given.steady;
        wants = given.wants;
        stored = λ files are. sym (given.file files are) ∙ some;
        few = subst (λ z. AreFew steps (length (lines z))) same few;
        known = there_of;
      }
