-- The files that strands read, while they are fetched.
use Rattle.std.proofs.Common.{◌≡◌, ◌⊎◌, inl, inr, ℕ, zero, suc, ◌+◌, ◌<◌, ◌≤◌, ◌||◌, Bool, true, false, cond, List, [], ◌∷◌, ◌++◌, length, take, drop, refl, sym, ◌∙◌, ap, subst, arith, append_assoc, Option, Some, None, slice_get, get_or, add-one, add-zero}
use Rattle.std.specs.Prelude.{Ok, Err, MatchResult, OnOk}
use Rattle.std.specs.declared.result.Result.{Result}
use Rattle.std.specs.List.{All, find}
use Rattle.std.specs.Option.{IfSome, option_and_then, option_map_or}
use Rattle.std.proofs.Math.Seq.{drop-cons, take-suc}
use Rattle.std.proofs.lemmas.List.{take-append-drop, take_all}
use Rattle.std.proofs.lemmas.List.Elements.{All-nil, All-cons, All-head, All-tail, All-push}
use Rattle.std.proofs.lemmas.List.Sums.{sum_by-append}
use Rattle.std.proofs.lemmas.Option.{get_or_from_slice_get, slice_get-get_or, slice_get_within}
use Rattle.std.proofs.lemmas.Slice.Eq.{bytes_eq-Decides}
use Rattle.outside.specs.Faults.{Rose}
use Rattle.outside.specs.Files.{Files}
use Rattle.pipe_model.specs.declared.kind.Kind.{Kind}
use Rattle.pipe_model.specs.declared.kind.Kind.TheVariants.{ConsoleIn, FileIn}
use Rattle.pipe_model.specs.declared.net.Net.{Net}
use Rattle.pipe_model.specs.declared.net.Strand.{Strand}
use Rattle.pipe_model.specs.Table.{Feed, line_of}
use Rattle.pipe_model.specs.Table.Feed.{Unfed, Input, OfFile}
use Rattle.stage_syntax.specs.Files.{is_unfiled}
use Rattle.net_graph.specs.Fed.{AreUnfiled, filed, filed_kind, reads_file, reads_input, with_bytes, with_kind}
use Rattle.call_streams.specs.declared.fetch.Found.{Found}
use Rattle.call_meaning.specs.declared.status.Outcome.{Outcome}
use Rattle.call_meaning.specs.declared.status.Outcome.TheVariants.{ShelfFault, NoMemory, InputTooLarge}
use Rattle.call_streams.specs.declared.text.Told.{Told}
use Rattle.call_meaning.specs.Devices.{Store}
use Rattle.call_meaning.specs.Meaning.{file_size, input_limit, strands_size}
use Rattle.call_streams.specs.Fetched.{AreFetched, AreFetchedPart, AreOf, IsGiven, IsNextBehind, IsUngiven, StopsFetching, StopsGiving, fetched_files, file_for, files_known, has_name}
use Rattle.call_streams.specs.Texts.{IsToldAs, wants_memory}
use Rattle.call_streams.proofs.Feds.{net_with, with_all, with_at, with_length, with_more, with_same}

-- Files that were fetched

-- a file that is found has the bytes of the name
found_bytes : (files : Files) (found : List Found) (name : List ℕ) (file : Found) → AreOf files found → find (has_name name) found ≡ Some file → file.bytes ≡ files name
found_bytes files [] name file are is = cc
found_bytes files (first ∷ rest) name file are is =
    (elim (has_name name first) as (λ b. has_name name first ≡ b → cond b (Some first) (find (has_name name) rest) ≡ Some file → file.bytes ≡ files name) [
      | true ↦ λ same is. (let one : first ≡ file = cc in
          ap (λ (f : Found). f.bytes) (sym one) ∙ sym (All-head (λ (f : Found). files f.name ≡ f.bytes) first rest are) ∙ ap files ((bytes_eq-Decides first.name name).0 same))
      | false ↦ λ same is. found_bytes files rest name file (All-tail (λ (f : Found). files f.name ≡ f.bytes) first rest are) is
    ]) refl is

-- each that was fetched is found by its name
finds : (found : List Found) (k : ℕ) (d : Found) → k < length found → (file : Found) × (find (has_name (get_or found k d).name) found ≡ Some file)
finds [] k d lt = absurd (omega (arith, lt))
finds (first ∷ rest) zero d lt = (first, ap (λ b. cond b (Some first) (find (has_name first.name) rest)) ((bytes_eq-Decides first.name first.name).1 refl))
finds (first ∷ rest) (suc k) d lt = by (has_name (get_or rest k d).name first) refl (finds rest k d (omega (arith, lt)))
  where
    by : (b : Bool) → has_name (get_or rest k d).name first ≡ b → (file : Found) × (find (has_name (get_or rest k d).name) rest ≡ Some file) → (file : Found) × (find (has_name (get_or rest k d).name) (first ∷ rest) ≡ Some file)
    by true same later = (first, ap (λ b. cond b (Some first) (find (has_name (get_or rest k d).name) rest)) same)
    by false same later = (later.0, ap (λ b. cond b (Some first) (find (has_name (get_or rest k d).name) rest)) same ∙ later.1)

module _ (last : Found) where
  -- one more file stands behind those that are found
  still_found : (found : List Found) (name : List ℕ) (file : Found) → find (has_name name) found ≡ Some file → find (has_name name) (found ++ last ∷ []) ≡ Some file
  still_found [] name file is = cc
  still_found (first ∷ rest) name file is =
      (elim (has_name name first) as (λ b. cond b (Some first) (find (has_name name) rest) ≡ Some file → cond b (Some first) (find (has_name name) (rest ++ last ∷ [])) ≡ Some file) [
        | true ↦ λ is. is
        | false ↦ λ is. still_found rest name file is
      ]) is

  -- and is found where none was
  last_found : (found : List Found) → find (has_name last.name) found ≡ None → find (has_name last.name) (found ++ last ∷ []) ≡ Some last
  last_found [] none = ap (λ b. cond b (Some last) None) ((bytes_eq-Decides last.name last.name).1 refl)
  last_found (first ∷ rest) none =
      (elim (has_name last.name first) as (λ b. cond b (Some first) (find (has_name last.name) rest) ≡ None → cond b (Some first) (find (has_name last.name) (rest ++ last ∷ [])) ≡ Some last) [
        | true ↦ λ none. cc
        | false ↦ λ none. last_found rest none
      ]) none

  -- what all have, those before it have, and it
  front_of : (P : Found → Type 0) (found : List Found) → All P (found ++ last ∷ []) → All P found
  front_of P [] all = All-nil P
  front_of P (first ∷ rest) all = All-cons P first rest (All-head P first (rest ++ last ∷ []) all) (front_of P rest (All-tail P first (rest ++ last ∷ []) all))

  last_of : (P : Found → Type 0) (found : List Found) → All P (found ++ last ∷ []) → P last
  last_of P [] all = All-head P last [] all
  last_of P (first ∷ rest) all = last_of P rest (All-tail P first (rest ++ last ∷ []) all)

  -- what is known is what was fetched, with one file more
  known_more : (old : Option Files) (found : List Found) → find (has_name last.name) found ≡ None → IfSome old (λ files. files last.name ≡ last.bytes) →
      AreOf (files_known old found) found → AreOf (files_known old (found ++ last ∷ [])) (found ++ last ∷ [])
  known_more (Some files) found none has are = All-push (λ (f : Found). files f.name ≡ f.bytes) found last are has
  known_more None found none has are =
      All-push (λ (f : Found). fetched_files (found ++ last ∷ []) f.name ≡ f.bytes) found last
      (λ k d lt. (let is = finds found k d lt in
      ap (option_and_then (λ (f : Found). f.bytes)) (still_found found (get_or found k d).name is.0 is.1 ∙ sym is.1) ∙ are k d lt))
      (ap (option_and_then (λ (f : Found). f.bytes)) (last_found found none))

-- What a stage was given

-- a file that was fetched before
given_again : (shelf : Store) (found : List Found) (name : List ℕ) (file : Found) → find (has_name name) found ≡ Some file → IsGiven (OfFile name) shelf shelf found found file.bytes
given_again shelf found name file is = record {
  kept = refl;
  steady = refl;
  wants = refl;
  file = λ files are. found_bytes files found name file are is;
  more = λ files are. are;
  known = λ are. are;
}

-- one that wasn't
given_new : (old new : Store) (found : List Found) (name : List ℕ) (bytes : Option (List ℕ)) → find (has_name name) found ≡ None → new.files ≡ old.files → new.faults ≡ old.faults → new.wants ≡ old.wants →
    IfSome old.files (λ files. files name ≡ bytes) → IsGiven (OfFile name) old new found (found ++ record { name = name; bytes = bytes } ∷ []) bytes
given_new old new found name bytes none kept steady wants has =
    let last : Found = record { name = name; bytes = bytes } in
    record {
      kept = kept;
      steady = steady;
      wants = wants;
      file = λ files are. sym (last_of last (λ (f : Found). files f.name ≡ f.bytes) found are);
      more = λ files are. front_of last (λ (f : Found). files f.name ≡ f.bytes) found are;
      known = known_more last old.files found none has;
    }

-- as the call answers it, which keeps the file
pub fetched : (old new : Store) (found found' : List Found) (name called : List ℕ) (bytes : Option (List ℕ)) (kept : Result (Option (List ℕ)) Told) → find (has_name name) found ≡ None →
    called ≡ name → new.files ≡ old.files → new.faults ≡ old.faults → new.wants ≡ old.wants → IfSome old.files (λ files. files called ≡ bytes) →
    MatchResult kept (λ same. same ≡ bytes) (λ told. told.outcome ≡ NoMemory) → OnOk kept (found' ≡ found ++ record { name = name; bytes = bytes } ∷ []) →
    MatchResult kept (λ given. IsGiven (OfFile name) old new found found' given) (λ told. IsUngiven (OfFile name) old new told.outcome)
fetched old new found found' name called bytes (Ok given) none same files faults wants has is more =
    rw (is, more) (given_new old new found name bytes none files faults wants (subst (λ z. IfSome old.files (λ files. files z ≡ bytes)) same has))
fetched old new found found' name called bytes (Err told) none same files faults wants has is more = record { kept = files; stops = subst (StopsGiving (OfFile name) old new) (sym is) faults }

pub fetched_again : (shelf : Store) (found : List Found) (kind : Kind) (name : List ℕ) (bytes : Option (List ℕ)) (file : Found) (copied : Result (Option (List ℕ)) Told) →
    kind ≡ FileIn name bytes → find (has_name name) found ≡ Some file → MatchResult copied (λ copy. copy ≡ file.bytes) (λ told. told.outcome ≡ NoMemory) →
    MatchResult copied (λ given. IsGiven (line_of kind).feed shelf shelf found found given) (λ told. IsUngiven (line_of kind).feed shelf shelf told.outcome)
fetched_again shelf found kind name bytes file (Ok copy) is finds same =
    subst (λ (k : Kind). IsGiven (line_of k).feed shelf shelf found found copy) (sym is) (rw same (given_again shelf found name file finds))
fetched_again shelf found kind name bytes file (Err told) is finds same = record { kept = refl; stops = subst (StopsGiving (line_of kind).feed shelf shelf) (sym same) refl }

-- One kind

-- a kind that is given a file reads one
kind_reads : (files : Files) (kind : Kind) (bytes : List ℕ) → Some bytes ≡ file_for files (line_of kind).feed → (reads_input kind || reads_file kind) ≡ true
kind_reads files (FileIn name old) bytes is = refl
kind_reads files (ConsoleIn old) bytes is = refl
kind_reads files _ bytes is = cc

given_kind : (files : Files) (kind : Kind) (bytes : List ℕ) → Some bytes ≡ file_for files (line_of kind).feed → with_bytes bytes kind ≡ filed_kind files kind
given_kind files (FileIn name old) bytes is = ap (λ file. FileIn name file) is
given_kind files (ConsoleIn old) bytes is = cc
given_kind files _ bytes is = refl

absent_kind : (files : Files) (kind : Kind) → is_unfiled kind ≡ true → None ≡ file_for files (line_of kind).feed → filed_kind files kind ≡ kind
absent_kind files (FileIn name None) unfiled is = ap (λ file. FileIn name file) (sym is)
absent_kind files (FileIn name (Some bytes)) unfiled is = cc
absent_kind files _ unfiled is = refl

given_size : (files : Files) (feed : Feed) (bytes : List ℕ) → Some bytes ≡ file_for files feed → file_size files feed ≡ length bytes
given_size files Unfed bytes is = cc
given_size files Input bytes is = cc
given_size files (OfFile name) bytes is = ap (λ file. option_map_or (λ (bytes : List ℕ). length bytes) file 0) (sym is)

absent_size : (files : Files) (feed : Feed) → None ≡ file_for files feed → file_size files feed ≡ 0
absent_size files Unfed is = refl
absent_size files Input is = refl
absent_size files (OfFile name) is = ap (λ file. option_map_or (λ (bytes : List ℕ). length bytes) file 0) (sym is)

-- what is known is what there is, where it is told
pub known_there : (old : Option Files) (found : List Found) → IfSome old (λ there. files_known old found ≡ there)
known_there None found = tt
known_there (Some files) found = refl

-- Lists about one element

module _ {A : Type 0} (xs : List A) (k : ℕ) (x : A) (at : slice_get xs k ≡ Some x) where
  within : k < length xs
  within = slice_get_within xs k x at

  read_at : get_or xs k x ≡ x
  read_at = get_or_from_slice_get xs k x x at

  pub taken_more : take k xs ++ x ∷ [] ≡ take (k + 1) xs
  taken_more = sym (ap (λ n. take n xs) (add-one k) ∙ take-suc xs k x within ∙ ap (λ y. take k xs ++ y ∷ []) read_at)

  pub parted_at : take k xs ++ x ∷ drop (suc k) xs ≡ xs
  parted_at = sym (ap (λ z. take k xs ++ z) (drop-cons xs k x within ∙ ap (λ y. y ∷ drop (suc k) xs) read_at)) ∙ take-append-drop k xs

-- The files of no strand

pub fetched_none : (size : ℕ) (found : List Found) (shelf : Store) → size ≤ input_limit → AreOf (files_known shelf.files found) found → AreFetched [] size size found found shelf shelf
fetched_none size found shelf fits known = record {
  kept = refl;
  steady = refl;
  wants = refl;
  sized = λ files are. sym (add-zero size);
  fits = fits;
  more = λ files are. are;
  known = known;
}

-- The file of one strand

module _ (p : Strand) (size : ℕ) (found : List Found) (old new : Store) (known : AreOf (files_known old.files found) found) where
  module _ (found' : List Found) where
    -- it is given none
    fetched_absent : size ≤ input_limit → IsGiven (line_of p.kind).feed old new found found' None → AreFetched (p ∷ []) size size found found' old new
    fetched_absent fits given = record {
      kept = given.kept;
      steady = given.steady;
      wants = given.wants;
      sized = λ files are. (let none = absent_size files (line_of p.kind).feed (given.file files are) in omega (arith, none));
      fits = fits;
      more = given.more;
      known = given.known known;
    }

    module _ (bytes : List ℕ) (given : IsGiven (line_of p.kind).feed old new found found' (Some bytes)) where
      -- it is given one, which fits
      fetched_more : size + length bytes ≤ input_limit → AreFetched (p ∷ []) size (size + length bytes) found found' old new
      fetched_more fits = record {
        kept = given.kept;
        steady = given.steady;
        wants = given.wants;
        sized = λ files are. (let len = given_size files (line_of p.kind).feed bytes (given.file files are) in omega (arith, len));
        fits = fits;
        more = given.more;
        known = given.known known;
      }

      -- or doesn't
      stopped_full : input_limit < size + length bytes → AreFetchedPart (p ∷ []) size found old new InputTooLarge
      stopped_full large =
          let there = files_known old.files found' in
          let of = given.known known in
          let len = given_size there (line_of p.kind).feed bytes (given.file there of) in
          record {
            files = there;
            found = known_there old.files found';
            of = given.more there of;
            kept = given.kept;
            stops = (omega (arith, large, len), given.steady);
          }

  -- it isn't fetched
  stops_at : (files : Files) (outcome : Outcome) → size ≤ input_limit → StopsGiving (line_of p.kind).feed old new outcome → StopsFetching (p ∷ []) size old new files outcome
  stops_at files (ShelfFault name) fits stops = (record { before = []; strand = p; behind = []; strands_are = refl; fed_is = stops.0; fits = omega (arith, fits) }, stops.1)
  stops_at files NoMemory fits stops = stops
  stops_at files InputTooLarge fits stops = absurd stops
  stops_at files _ fits stops = absurd stops

  stopped_at : (outcome : Outcome) → size ≤ input_limit → IsUngiven (line_of p.kind).feed old new outcome → AreFetchedPart (p ∷ []) size found old new outcome
  stopped_at outcome fits ungiven = record {
    files = files_known old.files found;
    found = known_there old.files found;
    of = known;
    kept = ungiven.kept;
    stops = stops_at (files_known old.files found) outcome fits ungiven.stops;
  }

-- The files of some strands and then of others

module _ {xs : List Strand} {size size' : ℕ} {before found : List Found} {old middle : Store} (first : AreFetched xs size size' before found old middle) where
  -- what both give
  both_size : (files : Files) (ys : List Strand) → AreOf files found → size' + strands_size files ys ≡ size + strands_size files (xs ++ ys)
  both_size files ys are =
      let one = first.sized files are in
      let both = sum_by-append (λ (p : Strand). file_size files (line_of p.kind).feed) xs ys in
      omega (arith, one, both)

  module _ (ys : List Strand) (new : Store) where
    pub fetched_then : (size'' : ℕ) (found' : List Found) → AreFetched ys size' size'' found found' middle new → AreFetched (xs ++ ys) size size'' before found' old new
    fetched_then size'' found' next = record {
      kept = next.kept ∙ first.kept;
      steady = next.steady ∙ first.steady;
      wants = next.wants ∙ first.wants;
      sized = λ files are. next.sized files are ∙ both_size files ys (next.more files are);
      fits = next.fits;
      more = λ files are. first.more files (next.more files are);
      known = subst (λ (there : Option Files). AreOf (files_known there found') found') first.kept next.known;
    }

    -- the fetching ends among the others
    next_then : (files : Files) (name : List ℕ) → AreOf files found → IsNextBehind ys size' files name → IsNextBehind (xs ++ ys) size files name
    next_then files name are next = record {
      before = xs ++ next.before;
      strand = next.strand;
      behind = next.behind;
      strands_are = ap (λ z. xs ++ z) next.strands_are ∙ sym (append_assoc xs next.before (next.strand ∷ next.behind));
      fed_is = next.fed_is;
      fits = subst (λ n. n ≤ input_limit) (both_size files next.before are) next.fits;
    }

    stops_then : (files : Files) (outcome : Outcome) → AreOf files found → StopsFetching ys size' middle new files outcome → StopsFetching (xs ++ ys) size old new files outcome
    stops_then files (ShelfFault name) are stops = (next_then files name are stops.0, subst (λ n. Rose n new.faults) first.steady stops.1)
    stops_then files InputTooLarge are stops = (subst (λ n. input_limit < n) (both_size files ys are) stops.0, stops.1 ∙ first.steady)
    stops_then files NoMemory are stops = stops ∙ first.steady
    stops_then files _ are stops = absurd stops

    pub stopped_then : (outcome : Outcome) → AreFetchedPart ys size' found middle new outcome → AreFetchedPart (xs ++ ys) size before old new outcome
    stopped_then outcome part = record {
      files = part.files;
      found = subst (λ (told : Option Files). IfSome told (λ there. part.files ≡ there)) first.kept part.found;
      of = first.more part.files part.of;
      kept = part.kept ∙ first.kept;
      stops = stops_then part.files outcome part.of part.stops;
    }

-- it ends before other strands
module _ (xs ys : List Strand) (size : ℕ) (old new : Store) where
  next_before : (files : Files) (name : List ℕ) → IsNextBehind xs size files name → IsNextBehind (xs ++ ys) size files name
  next_before files name next = record {
    before = next.before;
    strand = next.strand;
    behind = next.behind ++ ys;
    strands_are = ap (λ z. z ++ ys) next.strands_are ∙ append_assoc next.before (next.strand ∷ next.behind) ys;
    fed_is = next.fed_is;
    fits = next.fits;
  }

  stops_before : (files : Files) (outcome : Outcome) → StopsFetching xs size old new files outcome → StopsFetching (xs ++ ys) size old new files outcome
  stops_before files (ShelfFault name) stops = (next_before files name stops.0, stops.1)
  stops_before files InputTooLarge stops =
      let large = stops.0 in
      let both = sum_by-append (λ (p : Strand). file_size files (line_of p.kind).feed) xs ys in
      (omega (arith, large, both), stops.1)
  stops_before files NoMemory stops = stops
  stops_before files _ stops = absurd stops

  pub stopped_before : (before : List Found) (outcome : Outcome) → AreFetchedPart xs size before old new outcome → AreFetchedPart (xs ++ ys) size before old new outcome
  stopped_before before outcome part = record { files = part.files; found = part.found; of = part.of; kept = part.kept; stops = stops_before part.files outcome part.stops }

-- A net of which the first strands are given their files

pub record IsFilling (net : Net) (k : ℕ) (now : Net) (size size' : ℕ) (before found : List Found) (old new : Store) : Type 0 where
  pub fetched : AreFetched (take k net.strands) size size' before found old new
  pub filed : (files : Files) → AreOf files found → now ≡ net_with (filed_kind files) k net

-- none are
pub filling_none : (net : Net) (size : ℕ) (found : List Found) (shelf : Store) → size ≤ input_limit → AreOf (files_known shelf.files found) found → IsFilling net 0 net size size found found shelf shelf
filling_none net size found shelf fits known = record { fetched = fetched_none size found shelf fits known; filed = λ files are. refl }

-- all are
pub filling_all : {net : Net} {k : ℕ} {now : Net} {size size' : ℕ} {before found : List Found} {old new : Store} → IsFilling net k now size size' before found old new → k ≡ length net.strands →
    AreFetched net.strands size size' before found old new × ((files : Files) → AreOf files found → now ≡ filed files net)
filling_all {net} {k} {now} {size} {size'} {before} {found} {old} {new} filling all = (
  subst (λ strands. AreFetched strands size size' before found old new) (take_all k net.strands (omega (arith, all))) filling.fetched,
  λ files are. filling.filed files are ∙ ap (λ n. net_with (filed_kind files) n net) all ∙ with_all (filed_kind files) net,
)

module _ {net : Net} {k : ℕ} {now : Net} {size size' : ℕ} {before found : List Found} {old middle : Store} (filling : IsFilling net k now size size' before found old middle) where
  -- the strands are as many as they were
  pub as_long : length now.strands ≡ length net.strands
  as_long = with_length (filed_kind (files_known old.files found)) k net now (filling.filed (files_known old.files found) filling.fetched.known)

  -- the next strand, as it is read
  pub next_at : (shown : List Strand) (d : Strand) → shown ≡ now.strands → k < length net.strands → slice_get now.strands k ≡ Some (get_or shown k d)
  next_at shown d same within =
      let seen = ap (λ (z : List Strand). length z) same in
      let long = as_long in
      subst (λ z. slice_get z k ≡ Some (get_or shown k d)) same (slice_get-get_or shown k d (omega (arith, seen, long, within)))

  known_now : AreOf (files_known middle.files found) found
  known_now = subst (λ (there : Option Files). AreOf (files_known there found) found) (sym filling.fetched.kept) filling.fetched.known

  module _ (p : Strand) (at : slice_get now.strands k ≡ Some p) where
    -- it is as it was
    strand_was : slice_get net.strands k ≡ Some p
    strand_was = with_at (filed_kind (files_known old.files found)) k net now p (filling.filed (files_known old.files found) filling.fetched.known) at

    module _ (new : Store) where
      stopped_there : (outcome : Outcome) → AreFetchedPart (p ∷ []) size' found middle new outcome → AreFetchedPart net.strands size before old new outcome
      stopped_there outcome part = subst (λ strands. AreFetchedPart strands size before old new outcome) (parted_at net.strands k p strand_was)
          (stopped_then filling.fetched (p ∷ drop (suc k) net.strands) new outcome (stopped_before (p ∷ []) (drop (suc k) net.strands) size' middle new found outcome part))

      -- it isn't fetched
      pub filling_stopped : (outcome : Outcome) → IsUngiven (line_of p.kind).feed middle new outcome → AreFetchedPart net.strands size before old new outcome
      filling_stopped outcome ungiven = stopped_there outcome (stopped_at p size' found middle new known_now outcome filling.fetched.fits ungiven)

      module _ (found' : List Found) where
        fetched_next : (size'' : ℕ) → AreFetched (p ∷ []) size' size'' found found' middle new → AreFetched (take (k + 1) net.strands) size size'' before found' old new
        fetched_next size'' next = subst (λ strands. AreFetched strands size size'' before found' old new) (taken_more net.strands k p strand_was) (fetched_then filling.fetched (p ∷ []) new size'' found' next)

        -- it is given no file
        pub filling_absent : AreUnfiled net → IsGiven (line_of p.kind).feed middle new found found' None → IsFilling net (k + 1) now size size' before found' old new
        filling_absent unfiled given = record {
          fetched = fetched_next size' (fetched_absent p size' found middle new known_now found' filling.fetched.fits given);
          filed = λ files are. with_same (filed_kind files) k net now p (filling.filed files (given.more files are)) at (absent_kind files p.kind (unfiled k p strand_was) (given.file files are))
              ∙ ap (λ n. net_with (filed_kind files) n net) (sym (add-one k));
        }

        module _ (bytes : List ℕ) (given : IsGiven (line_of p.kind).feed middle new found found' (Some bytes)) where
          -- it has one
          pub given_reads : (reads_input p.kind || reads_file p.kind) ≡ true
          given_reads = kind_reads (files_known middle.files found') p.kind bytes (given.file (files_known middle.files found') (given.known known_now))

          module _ (shown : List ℕ) (same : shown ≡ bytes) where
            -- which is too large
            pub filling_full : (outcome : Outcome) → outcome ≡ InputTooLarge → input_limit < size' + length shown → AreFetchedPart net.strands size before old new outcome
            filling_full outcome is large = subst (λ o. AreFetchedPart net.strands size before old new o) (sym is)
                (stopped_there InputTooLarge (stopped_full p size' found middle new known_now found' bytes given (subst (λ (z : List ℕ). input_limit < size' + length z) same large)))

            -- or is given it
            pub filling_more : (after : Net) → size' + length shown ≤ input_limit → after ≡ with_kind now k (with_bytes bytes p.kind) → IsFilling net (k + 1) after size (size' + length shown) before found' old new
            filling_more after fits is = record {
              fetched = fetched_next (size' + length shown) (subst (λ (z : List ℕ). AreFetched (p ∷ []) size' (size' + length z) found found' middle new) (sym same)
                  (fetched_more p size' found middle new known_now found' bytes given (subst (λ (z : List ℕ). size' + length z ≤ input_limit) same fits)));
              filed = λ files are. is
                  ∙ with_more (filed_kind files) k net now p (filling.filed files (given.more files are)) at (with_bytes bytes p.kind) (given_kind files p.kind bytes (given.file files are))
                  ∙ ap (λ n. net_with (filed_kind files) n net) (sym (add-one k));
            }

-- that the files are too large wants no memory to be told
pub told_too_large : (told : Told) → IsToldAs InputTooLarge told → told.outcome ≡ InputTooLarge
told_too_large told is = by is.1
  where
    by : (told.outcome ≡ InputTooLarge) ⊎ ((wants_memory InputTooLarge ≡ true) × (told.outcome ≡ NoMemory)) → told.outcome ≡ InputTooLarge
    by (inl same) = same
    by (inr wants) = (let no = wants.0 in cc)
