-- From the files that were fetched and the input that was read to what the stages of a net are fed.
use Rattle.std.proofs.Common.{◌≡◌, ◌⊎◌, inl, inr, ℕ, ◌+◌, ◌-◌, ◌≤◌, ◌<◌, Bool, true, false, cond, List, [], length, refl, sym, ◌∙◌, ap, subst, arith, zero-add}
use Rattle.std.proofs.KnownBytes.{Consumes-nil}
use Rattle.outside.specs.Device.{Device}
use Rattle.outside.specs.Files.{Files}
use Rattle.pipe_model.specs.declared.net.Net.{Net}
use Rattle.net_graph.specs.Fed.{filed, reads_any, with_input}
use Rattle.net_graph.proofs.Filings.{input_of_filed, reads_filed}
use Rattle.call_streams.specs.declared.fetch.Found.{Found}
use Rattle.call_meaning.specs.declared.status.Outcome.{Outcome}
use Rattle.call_meaning.specs.declared.status.Outcome.TheVariants.{ReadFault, ShelfFault, NoMemory, InputTooLarge}
use Rattle.call_streams.specs.declared.text.Told.{Told}
use Rattle.call_meaning.specs.Effects.{Before}
use Rattle.call_meaning.specs.Devices.{Outside, Store, outside}
use Rattle.call_meaning.specs.Meaning.{IsNextFile, fed_size, files_size, input_limit}
use Rattle.call_streams.specs.Fetched.{AreFetched, AreFetchedPart, AreOf, IsNextBehind, StopsFetching, files_known}
use Rattle.call_streams.specs.Feeding.{IsFed, IsFedPart, StopsFeeding}
use Rattle.call_streams.specs.Taken.{IsTaken, IsTakenPart, StopsReading}
use Rattle.call_streams.specs.Texts.{IsToldAs, wants_memory}
use Rattle.call_streams.proofs.Fetches.{known_there}

-- how many bytes are fed to a net that reads so many, and files besides
fed_fits : (reads : Bool) (bytes size : ℕ) → size ≤ input_limit → bytes ≤ input_limit - size → cond reads bytes 0 + size ≤ input_limit
fed_fits true bytes size within fits = omega (arith, within, fits)
fed_fits false bytes size within fits = omega (arith, within)

more_files : (reads : Bool) (size : ℕ) → input_limit < 0 + size → input_limit < cond reads 0 0 + size
more_files true size large = omega (arith, large)
more_files false size large = omega (arith, large)

module _ (net : Net) (before : List Found) (input output : Device) (shelf shelf' : Store) where
  abbrev given : List ℕ → Files → Before
  given bytes files = record { input = bytes; files = files }

  abbrev old : Outside
  old = outside input output shelf

  -- The fetching ended before the last file.

  next_file : (files : Files) (name : List ℕ) → IsNextBehind net.strands 0 files name → IsNextFile net files name
  next_file files name next =
      let within = next.fits in
      record { before = next.before; strand = next.strand; behind = next.behind; strands = next.strands_are; fed_is = next.fed_is; fits = omega (arith, within) }

  stops_feeding : (files : Files) (outcome : Outcome) → StopsFetching net.strands 0 shelf shelf' files outcome → StopsFeeding net old (outside input output shelf') (given [] files) outcome
  stops_feeding files (ShelfFault name) stops = (next_file files name stops.0, refl, refl, stops.1)
  stops_feeding files InputTooLarge stops = (more_files (reads_any net) (files_size files net) stops.0, record { input = refl; output = refl; shelf = stops.1 })
  stops_feeding files NoMemory stops = (inl refl, record { input = refl; output = refl; shelf = stops })
  stops_feeding files _ stops = absurd stops

  pub unfetched : (outcome : Outcome) → AreFetchedPart net.strands 0 before shelf shelf' outcome → IsFedPart net before old (outside input output shelf') outcome
  unfetched outcome part = record {
    given = given [] part.files;
    gave = Consumes-nil input.bytes;
    found = part.found;
    of = part.of;
    kept = part.kept;
    stops = stops_feeding part.files outcome part.stops;
  }

  module _ (size : ℕ) (found : List Found) (fetched : AreFetched net.strands 0 size before found shelf shelf') (filed_net : Net) (filed_is : (files : Files) → AreOf files found → filed_net ≡ filed files net) (input' : Device) where
    -- the files that there are
    abbrev there : Files
    there = files_known shelf.files found

    abbrev new : Outside
    new = outside input' output shelf'

    reads_same : reads_any filed_net ≡ reads_any net
    reads_same = ap reads_any (filed_is there fetched.known) ∙ reads_filed there net

    size_is : size ≡ files_size there net
    size_is = fetched.sized there fetched.known ∙ zero-add (files_size there net)

    all_fits : (bytes : List ℕ) → length bytes ≤ input_limit - size → fed_size (given bytes there) net ≤ input_limit
    all_fits bytes fits =
        let within = fetched.fits in
        fed_fits (reads_any net) (length bytes) (files_size there net) (omega (arith, within, size_is)) (omega (arith, fits, size_is))

    -- The reading of the input ended before its end.

    stops_taking : (reads : reads_any net ≡ true) (bytes : List ℕ) (outcome : Outcome) → StopsReading (input_limit - size) input input' bytes outcome → StopsFeeding net old new (given bytes there) outcome
    stops_taking reads bytes ReadFault stops = (reads, all_fits bytes stops.0, stops.1, fetched.steady)
    stops_taking reads bytes InputTooLarge stops =
        let fits = fetched.fits in
        let past = stops.0 in
        let all : cond (reads_any net) (length bytes) 0 ≡ length bytes = ap (λ b. cond b (length bytes) 0) reads in
        (omega (arith, fits, past, all, size_is), record { input = stops.1; output = refl; shelf = fetched.steady })
    stops_taking reads bytes NoMemory stops = (inr reads, record { input = stops; output = refl; shelf = fetched.steady })
    stops_taking reads bytes _ stops = absurd stops

    untaken : (outcome : Outcome) → IsTakenPart (input_limit - size) filed_net input input' outcome → IsFedPart net before old new outcome
    untaken outcome part = record {
      given = given part.1.given there;
      gave = part.1.gave;
      found = known_there shelf.files found;
      of = fetched.more there fetched.known;
      kept = fetched.kept;
      stops = stops_taking (sym reads_same ∙ part.0) part.1.given outcome part.1.stops;
    }

    -- the texts of such outcomes want no memory
    fixed : (outcome : Outcome) (bytes : List ℕ) → StopsReading (input_limit - size) input input' bytes outcome → wants_memory outcome ≡ true → ⊥
    fixed ReadFault bytes stops wants = cc
    fixed InputTooLarge bytes stops wants = cc
    fixed NoMemory bytes stops wants = cc
    fixed _ bytes stops wants = absurd stops

    pub untaken_told : (outcome : Outcome) (told : Told) → IsTakenPart (input_limit - size) filed_net input input' outcome → IsToldAs outcome told → IsFedPart net before old new told.outcome
    untaken_told outcome told part is = by is.1
      where
        by : (told.outcome ≡ outcome) ⊎ ((wants_memory outcome ≡ true) × (told.outcome ≡ NoMemory)) → IsFedPart net before old new told.outcome
        by (inl same) = subst (λ o. IsFedPart net before old new o) (sym same) (untaken outcome part)
        by (inr wants) = absurd (fixed outcome part.1.given part.1.stops wants.0)

    -- Both went to their ends.

    pub taken_fed : (bytes : List ℕ) (after : Net) → IsTaken (input_limit - size) filed_net input input' bytes → after ≡ with_input bytes filed_net →
        (fed : IsFed net before old new after) × (fed.given ≡ record { input = bytes; files = files_known shelf.files found })
    taken_fed bytes after took is = (
      record {
        given = given bytes there;
        gave = took.gave;
        found = known_there shelf.files found;
        of = fetched.more there fetched.known;
        kept = fetched.kept;
        fits = all_fits bytes took.fits;
        used = record { reads = λ some. took.reads (reads_same ∙ some); leaves = λ none. took.leaves (reads_same ∙ none) };
        steady = record { input = took.steady; output = refl; shelf = fetched.steady };
        wants = fetched.wants;
        after_is = is ∙ ap (with_input bytes) (filed_is there fetched.known) ∙ input_of_filed bytes there net;
      },
      refl,
    )
