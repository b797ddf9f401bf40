-- Sets of which the first are given their files, or the input.
use Rattle.std.proofs.Common.{◌≡◌, ℕ, suc, ◌+◌, ◌<◌, List, [], ◌∷◌, ◌++◌, length, map, take, drop, refl, sym, ◌∙◌, ap, subst, arith, Some, slice_get, slice_set, get_or, add-one}
use Rattle.std.specs.List.{All, flat_map}
use Rattle.std.proofs.lemmas.List.{drop_all, flat_map_more, take-append-le, take_all}
use Rattle.std.proofs.lemmas.List.Concat.{flat_map-append}
use Rattle.std.proofs.lemmas.List.Elements.{All-get_or, All-set}
use Rattle.std.proofs.lemmas.Option.{get_or_from_slice_get, slice_get-get_or}
use Rattle.outside.specs.Files.{Files}
use Rattle.net_graph.specs.Fed.{filed}
use Rattle.call_meaning.specs.declared.nets.Set.{Set}
use Rattle.call_meaning.specs.declared.nets.Set.TheVariants.{Whole, Refused}
use Rattle.call_meaning.specs.declared.status.Outcome.{Outcome}
use Rattle.call_meaning.specs.Calls.{IsSoundSet}
use Rattle.call_meaning.specs.Devices.{Store}
use Rattle.call_streams.specs.declared.fetch.Found.{Found}
use Rattle.call_streams.specs.Fetched.{AreFetched, AreFetchedPart, AreOf, files_known}
use Rattle.call_streams.specs.Feeding.{IsWholeSet, set_with, strands_in}
use Rattle.call_streams.proofs.Feds.{front_all, front_at, front_length, front_set, front_with}
use Rattle.call_streams.proofs.Fetches.{fetched_none, fetched_then, parted_at, stopped_before, stopped_then, taken_more}

-- sets that are sound are whole
all_whole : (sets : List Set) → All IsSoundSet sets → All IsWholeSet sets
all_whole sets sound = λ k d lt. whole_of (get_or sets k d) (sound k d lt)
  where
    whole_of : (set : Set) → IsSoundSet set → IsWholeSet set
    whole_of (Whole net) sound = sound.0
    whole_of (Refused outcome) sound = tt

-- one more set of these is changed
module _ (change : Set → Set) (sets : List Set) (k : ℕ) (now : List Set) (is : now ≡ front_with change k sets) where
  now_length : length now ≡ length sets
  now_length = ap (λ z. length z) is ∙ front_length change k sets

  -- the next one is as it was
  pub set_was : (d : Set) → k < length sets → slice_get sets k ≡ Some (get_or now k d)
  set_was d within =
      let long = now_length in
      sym (front_at change k sets) ∙ ap (λ z. slice_get z k) (sym is) ∙ slice_get-get_or now k d (omega (arith, long, within))

  pub set_changed : (set set' : Set) → slice_get sets k ≡ Some set → set' ≡ change set → slice_set now k set' ≡ front_with change (k + 1) sets
  set_changed set set' at same =
      ap (λ z. slice_set now k z) same ∙ ap (λ z. slice_set z k (change set)) is ∙ front_set change k sets set at ∙ ap (λ n. front_with change n sets) (sym (add-one k))

  -- all are, and they are written back
  pub all_changed : (len : ℕ) → len ≡ length sets → k ≡ length sets → take len (now ++ drop (length now) sets) ≡ map change sets
  all_changed len same all =
      let long = now_length in
      ap (λ z. take len (now ++ z)) (drop_all (length now) sets (omega (arith, long)))
      ∙ take-append-le len now [] (omega (arith, same, long))
      ∙ take_all len now (omega (arith, same, long))
      ∙ is ∙ ap (λ n. front_with change n sets) all ∙ front_all change sets

-- The files

-- the files of the first sets were fetched and given to them
pub record AreFilling (sets : List Set) (k : ℕ) (now : List Set) (size : ℕ) (before found : List Found) (old new : Store) : Type 0 where
  pub fetched : AreFetched (flat_map strands_in (take k sets)) 0 size before found old new
  pub filed : (files : Files) → AreOf files found → now ≡ front_with (set_with (filed files)) k sets
  pub whole : All IsWholeSet now

-- none were
pub filling_none : (sets : List Set) (found : List Found) (shelf : Store) → All IsSoundSet sets → AreOf (files_known shelf.files found) found → AreFilling sets 0 sets 0 found found shelf shelf
filling_none sets found shelf sound known = record { fetched = fetched_none 0 found shelf (omega arith) known; filed = λ files are. refl; whole = all_whole sets sound }

module _ {sets : List Set} {k : ℕ} {now : List Set} {size : ℕ} {before found : List Found} {old middle : Store} (filling : AreFilling sets k now size before found old middle) where
  there_filed : now ≡ front_with (set_with (filed (files_known old.files found))) k sets
  there_filed = filling.filed (files_known old.files found) filling.fetched.known

  -- all were
  pub fetched_all : k ≡ length sets → AreFetched (flat_map strands_in sets) 0 size before found old middle
  fetched_all all = subst (λ z. AreFetched (flat_map strands_in z) 0 size before found old middle) (take_all k sets (omega (arith, all))) filling.fetched

  module _ (d : Set) (within : k < length sets) where
    abbrev set : Set
    set = get_or now k d

    was : slice_get sets k ≡ Some set
    was = set_was (set_with (filed (files_known old.files found))) sets k now there_filed d within

    -- the next one is sound
    pub sound_now : All IsSoundSet sets → IsSoundSet (get_or now k d)
    sound_now sound = subst IsSoundSet (get_or_from_slice_get sets k (get_or now k d) set was) (All-get_or IsSoundSet sets k set within sound)

    -- its files aren't fetched
    pub filling_stopped : (new : Store) (outcome : Outcome) → AreFetchedPart (strands_in (get_or now k d)) size found middle new outcome → AreFetchedPart (flat_map strands_in sets) 0 before old new outcome
    filling_stopped new outcome part =
        let behind = flat_map strands_in (drop (suc k) sets) in
        subst (λ strands. AreFetchedPart strands 0 before old new outcome)
        (sym (flat_map-append strands_in (take k sets) (set ∷ drop (suc k) sets)) ∙ ap (flat_map strands_in) (parted_at sets k set was))
        (stopped_then filling.fetched (strands_in set ++ behind) new outcome (stopped_before (strands_in set) behind size middle new found outcome part))

    -- or are
    pub filling_more : (new : Store) (size' : ℕ) (found' : List Found) (set' : Set) → AreFetched (strands_in (get_or now k d)) size size' found found' middle new →
        ((files : Files) → AreOf files found' → set' ≡ set_with (filed files) (get_or now k d)) → IsWholeSet set' → AreFilling sets (k + 1) (slice_set now k set') size' before found' old new
    filling_more new size' found' set' next gives whole = record {
      fetched = subst (λ strands. AreFetched strands 0 size' before found' old new)
          (flat_map_more strands_in [] (take k sets) set ∙ ap (flat_map strands_in) (taken_more sets k set was)) (fetched_then filling.fetched (strands_in set) new size' found' next);
      filed = λ files are. set_changed (set_with (filed files)) sets k now (filling.filed files (next.more files are)) set set' was (gives files are);
      whole = All-set IsWholeSet now k set' whole filling.whole;
    }
