-- Sets whose stages are fed, seen as one net of all their strands.
use Rattle.std.proofs.Common.{◌≡◌, ℕ, ◌-◌, ◌||◌, false, List, [], ◌∷◌, ◌++◌, map, refl, sym, ◌∙◌, ap, ap₂, subst}
use Rattle.std.specs.List.{flat_map, list_any}
use Rattle.std.proofs.lemmas.List.{map-append}
use Rattle.std.proofs.lemmas.List.Folds.{list_any-append}
use Rattle.outside.specs.Device.{Device}
use Rattle.outside.specs.Files.{Files}
use Rattle.pipe_model.specs.declared.net.Net.{Net}
use Rattle.pipe_model.specs.declared.net.Strand.{Strand}
use Rattle.pipe_model.proofs.Truths.{neither}
use Rattle.net_graph.specs.Fed.{filed, filed_kind, reads_any, reads_input, with_input}
use Rattle.net_graph.proofs.Filings.{input_of_filed}
use Rattle.call_meaning.specs.declared.nets.Set.{Set}
use Rattle.call_meaning.specs.declared.nets.Set.TheVariants.{Whole, Refused}
use Rattle.call_meaning.specs.declared.status.Outcome.{Outcome}
use Rattle.call_meaning.specs.Devices.{Outside, Store, outside}
use Rattle.call_meaning.specs.Effects.{Before}
use Rattle.call_meaning.specs.Meaning.{input_limit}
use Rattle.call_meaning.specs.Sets.{all_of}
use Rattle.call_streams.specs.declared.fetch.Found.{Found}
use Rattle.call_streams.specs.declared.text.Told.{Told}
use Rattle.call_streams.specs.Fetched.{AreFetched, AreFetchedPart, AreOf, files_known}
use Rattle.call_streams.specs.Feeding.{IsFed, IsFedPart, nets_in, set_on, set_reads, set_with, strands_in}
use Rattle.call_streams.specs.Taken.{IsTaken, IsTakenPart}
use Rattle.call_streams.specs.Texts.{IsToldAs}
use Rattle.call_streams.proofs.FedNets.{taken_fed, unfetched, untaken_told}
use Rattle.call_streams.proofs.Feds.{input_none}

-- the strands of all sets are those of the net
pub all_strands : (sets : List Set) → flat_map strands_in sets ≡ flat_map (λ (net : Net). net.strands) (nets_in sets)
all_strands [] = refl
all_strands (Whole net ∷ sets) = ap (λ z. net.strands ++ z) (all_strands sets)
all_strands (Refused outcome ∷ sets) = all_strands sets

-- a set reads the input where the net does
pub all_read : (sets : List Set) → list_any set_reads sets ≡ reads_any (all_of (nets_in sets))
all_read [] = refl
all_read (Whole net ∷ sets) = ap (λ b. reads_any net || b) (all_read sets) ∙ sym (list_any-append (λ (p : Strand). reads_input p.kind) net.strands (all_of (nets_in sets)).strands)
all_read (Refused outcome ∷ sets) = all_read sets

-- sets that read nothing are given nothing
all_unread : (input : List ℕ) (sets : List Set) → list_any set_reads sets ≡ false → sets ≡ map (set_with (with_input input)) sets
all_unread input [] none = refl
all_unread input (Whole net ∷ sets) none =
    let both = neither (reads_any net) (list_any set_reads sets) none in
    ap₂ (λ (set : Set) (rest : List Set). set ∷ rest) (ap Whole (input_none input net both.0)) (all_unread input sets both.1)
all_unread input (Refused outcome ∷ sets) none = ap (λ (rest : List Set). Refused outcome ∷ rest) (all_unread input sets none)

pub none_fed : (input : List ℕ) (sets : List Set) → reads_any (all_of (nets_in sets)) ≡ false → sets ≡ map (set_with (with_input input)) sets
none_fed input sets none = all_unread input sets (all_read sets ∙ none)

-- the net is given the files that the sets are
module _ (files : Files) where
  strands_filed : (sets : List Set) → (all_of (nets_in (map (set_with (filed files)) sets))).strands ≡ (filed files (all_of (nets_in sets))).strands
  strands_filed [] = refl
  strands_filed (Whole net ∷ sets) =
      ap (λ z. (filed files net).strands ++ z) (strands_filed sets)
      ∙ sym (map-append (λ (p : Strand). record p { kind = filed_kind files p.kind }) net.strands (all_of (nets_in sets)).strands)
  strands_filed (Refused outcome ∷ sets) = strands_filed sets

  pub all_filed : (sets : List Set) → all_of (nets_in (map (set_with (filed files)) sets)) ≡ filed files (all_of (nets_in sets))
  all_filed sets = ap (λ (strands : List Strand). record (all_of []) { strands = strands }) (strands_filed sets)

  -- first the files and then the input
  pub all_fed : (input : List ℕ) (sets : List Set) → map (set_with (with_input input)) (map (set_with (filed files)) sets) ≡ map (set_on (record { input = input; files = files })) sets
  all_fed input [] = refl
  all_fed input (Whole net ∷ sets) = ap₂ (λ (set : Set) (rest : List Set). set ∷ rest) (ap Whole (input_of_filed input files net)) (all_fed input sets)
  all_fed input (Refused outcome ∷ sets) = ap (λ (rest : List Set). Refused outcome ∷ rest) (all_fed input sets)

-- What was done for all sets is what was done for the net

module _ (sets : List Set) (before : List Found) (input output : Device) (shelf shelf' : Store) where
  abbrev nets : Net
  nets = all_of (nets_in sets)

  abbrev old : Outside
  old = outside input output shelf

  -- the fetching ended before the last file
  pub all_unfetched : (outcome : Outcome) → AreFetchedPart (flat_map strands_in sets) 0 before shelf shelf' outcome → IsFedPart nets before old (outside input output shelf') outcome
  all_unfetched outcome part =
      unfetched nets before input output shelf shelf' outcome (subst (λ strands. AreFetchedPart strands 0 before shelf shelf' outcome) (all_strands sets) part)

  module _ (size : ℕ) (found : List Found) (fetched : AreFetched (flat_map strands_in sets) 0 size before found shelf shelf') (filed_sets : List Set)
      (filed_are : (files : Files) → AreOf files found → filed_sets ≡ map (set_with (filed files)) sets) (input' : Device) where
    abbrev new : Outside
    new = outside input' output shelf'

    all_fetched : AreFetched nets.strands 0 size before found shelf shelf'
    all_fetched = subst (λ strands. AreFetched strands 0 size before found shelf shelf') (all_strands sets) fetched

    filed_is : (files : Files) → AreOf files found → all_of (nets_in filed_sets) ≡ filed files nets
    filed_is files are = ap (λ (sets : List Set). all_of (nets_in sets)) (filed_are files are) ∙ all_filed files sets

    -- the reading of the input ended before its end
    pub all_untaken : (outcome : Outcome) (told : Told) → IsTakenPart (input_limit - size) (all_of (nets_in filed_sets)) input input' outcome → IsToldAs outcome told → IsFedPart nets before old new told.outcome
    all_untaken outcome told part is = untaken_told nets before input output shelf shelf' size found all_fetched (all_of (nets_in filed_sets)) filed_is input' outcome told part is

    -- both went to their ends
    pub all_taken : (bytes : List ℕ) (after : List Set) → IsTaken (input_limit - size) (all_of (nets_in filed_sets)) input input' bytes → after ≡ map (set_with (with_input bytes)) filed_sets →
        (net : Net) × (fed : IsFed nets before old new net) × (after ≡ map (set_on fed.given) sets)
    all_taken bytes after took is =
        let net = with_input bytes (all_of (nets_in filed_sets)) in
        let there = files_known shelf.files found in
        let fed = taken_fed nets before input output shelf shelf' size found all_fetched (all_of (nets_in filed_sets)) filed_is input' bytes net took refl in
        (net, fed.0, is ∙ ap (map (set_with (with_input bytes))) (filed_are there fetched.known) ∙ all_fed there bytes sets ∙ ap (λ (given : Before). map (set_on given) sets) (sym fed.1))
