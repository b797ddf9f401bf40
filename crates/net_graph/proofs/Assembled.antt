-- The strands that are made are those of the net.
use Rattle.std.proofs.Common.{◌≡◌, ℕ, suc, ◌+◌, ◌*◌, ◌<◌, ◌≤◌, ◌⊎◌, if◌then◌else◌, Bool, true, false, List, [], ◌∷◌, ◌++◌, ◌∙◌, length, length-drop, get_or, take, drop, map, refl, ap, ap₂, sym, arith, append_assoc, slice_get, count_by, subst, Option, Some, None, inl, inr}
use Rattle.std.specs.Prelude.{All, Ok, sum_by}
use Rattle.std.specs.declared.result.Result.{Result}
use Rattle.std.specs.List.{range_with_len}
use Rattle.std.proofs.lemmas.List.{append-nil, length-map, get_or-drop, get_or-take, get_or_past, length-take-le, map-append}
use Rattle.std.proofs.lemmas.List.Elements.{All-map, All-same, filter-append}
use Rattle.std.proofs.lemmas.List.FromFn.{fill_by_all, get_or-map-range_with_len, length-map-range_with_len}
use Rattle.std.proofs.lemmas.List.Sums.{sum_by-cons}
use Rattle.std.proofs.lemmas.Option.{slice_get_cases, get_or_from_slice_get, slice_get_within}
use Rattle.pipe_model.specs.declared.kind.Kind.{Kind}
use Rattle.pipe_model.specs.declared.net.Link.{Link}
use Rattle.pipe_model.specs.declared.net.Net.{Net}
use Rattle.pipe_model.specs.declared.net.Strand.{Strand}
use Rattle.pipe_model.specs.Table.{line_of}
use Rattle.pipe_model.specs.Form.{Parting, inputs_by, most_of}
use Rattle.pipe_model.specs.Form.Parting.{Whole, Queued, Streamed}
use Rattle.pipe_model.specs.WellFormed.{places_of}
use Rattle.pipe_model.specs.Shape.{Shape, Width}
use Rattle.pipe_model.specs.Shape.Shape.{Absent, Sources, Lists, Sinks, Firsts, Turns, Rounds, Gates, Dams, Queues}
use Rattle.stage_syntax.specs.declared.fault.KindFault.{KindFault}
use Rattle.spec_scanner.specs.declared.piece.Piece.{Piece}
use Rattle.spec_scanner.specs.declared.piece.PieceKind.{PieceKind}
use Rattle.spec_scanner.specs.declared.piece.PieceKind.TheVariants.{Stage, Reference, Connector}
use Rattle.net_graph.specs.Flags.{AreFlags}
use Rattle.net_graph.specs.Faults.{faults_of}
use Rattle.net_graph.specs.Nets.{AreOutcomes, StageSize, first_number, inputs_of, is_linked_in, is_linked_out, joins_of, links_of, net_of, outputs_of, parting_of, sizes_of, strand_of, strands_from, width_of}
use Rattle.net_graph.specs.Numbered.{AreNumbered, AreScanned, pieces_of, uses_after}
use Rattle.net_graph.specs.Stands.{Stand, is_label, is_of_stage, is_stage, refers_to, stage_of, stages_of, stands_in, stands_of, streams_of}
use Rattle.net_graph.specs.Searches.{stand}
use Rattle.net_graph.specs.declared.layout.Parts.{Parts}
use Rattle.net_graph.specs.Partings.{AreParts, IsWithin, sizes_by}
use Rattle.net_graph.specs.Strands.{parts_by, row_by, strand_by, strands_by}
use Rattle.net_graph.specs.Uses.{later_by, later_of, more_streams, uses_past}
use Rattle.net_graph.specs.Joins.{AreSmall, links_by_all}
use Rattle.net_graph.proofs.FormedFaults.{few_stages}
use Rattle.net_graph.proofs.FormedFits.{few_streams_of}
use Rattle.net_graph.proofs.Joined.{all_links_same}
use Rattle.net_graph.proofs.JoinStages.{joins_within}
use Rattle.net_graph.proofs.Laid.{sizes_count}
use Rattle.net_graph.proofs.Searched.{outcomes_of_all}
use Rattle.net_graph.proofs.Widths.{few_widths}
use Rattle.net_graph.proofs.FormedPositions.{position_finds}
use Rattle.net_graph.proofs.Usages.{later_both}
use Rattle.std.proofs.Math.Nat.{min-le_right}
use Rattle.net_graph.proofs.FormedLabels.{Told, pieces_are, told_more, told_nothing, none_referred}

-- at the end of all stands the labels have their uses
told_all : (done rest : List Stand) (uses : List ℕ) → Told done uses → AreNumbered uses (map (λ (s : Stand). s.piece) rest) → Told (done ++ rest) (uses_past uses (map (λ (s : Stand). s.piece) rest))
told_all done [] uses told numbered = subst (λ (xs : List Stand). Told xs uses) (sym (append-nil done)) told
told_all done (s ∷ rest) uses told numbered =
    let next = uses_after uses s.piece.kind s.piece.label in
    subst (λ (xs : List Stand). Told xs (uses_past next (map (λ (s : Stand). s.piece) rest))) (append_assoc done (s ∷ []) rest)
    (told_all (done ++ s ∷ []) rest next (told_more done uses told s s.piece.kind refl numbered.0) numbered.1)

pub told_whole : (pipelines : List (List Piece)) → AreScanned pipelines → Told (stands_of pipelines) (uses_past [] (pieces_of pipelines))
told_whole pipelines scanned =
    subst (λ (pieces : List Piece). Told (stands_of pipelines) (uses_past [] pieces)) (pieces_are pipelines)
    (told_all [] (stands_of pipelines) [] told_nothing (subst (AreNumbered []) (sym (pieces_are pipelines)) scanned))

-- the later uses of a label are counted
counted_uses : (stands : List Stand) (uses : List ℕ) → Told stands uses → (label : ℕ) → get_or uses label 0 ≡ count_by (refers_to (Some label)) stands
counted_uses stands uses told label = by (slice_get_cases uses label).1 where
  by : ((c : ℕ) × (label < length uses) × (slice_get uses label ≡ Some c) × (get_or uses label c ≡ c)) ⊎ ((length uses ≤ label) × (slice_get uses label ≡ None)) →
      get_or uses label 0 ≡ count_by (refers_to (Some label)) stands
  by (inl here) = get_or_from_slice_get uses label here.0 0 here.2 ∙ sym (told.counted label here.0 here.2)
  by (inr past) = get_or_past uses label 0 past.0 ∙ sym (told.unused label past.0)

module _ (stands : List Stand) (uses : List ℕ) (counts : (label : ℕ) → get_or uses label 0 ≡ count_by (refers_to (Some label)) stands) where
  of_label : (label : Option ℕ) → later_of uses Stage label ≡ count_by (refers_to label) stands ∷ []
  of_label None = ap (λ (n : ℕ). n ∷ []) (sym (none_referred stands))
  of_label (Some label) = ap (λ (n : ℕ). n ∷ []) (counts label)

  later_front : (s : Stand) (rest : List Stand) (more : List ℕ) → more ≡ map (more_streams stands) (stages_of rest) →
      later_of uses s.piece.kind s.piece.label ++ more ≡ map (more_streams stands) (stages_of (s ∷ rest))
  later_front s rest more is = by s.piece.kind where
    by : (kind : PieceKind) → later_of uses kind s.piece.label ++ more ≡ map (more_streams stands) (if is_of_stage kind then s ∷ stages_of rest else stages_of rest)
    by Stage = ap (λ (front : List ℕ). front ++ more) (of_label s.piece.label) ∙ ap (λ (left : List ℕ). more_streams stands s ∷ left) is
    by Reference = is
    by Connector = is

  later_in : (first : Bool) (pieces : List Piece) → later_by uses pieces ≡ map (more_streams stands) (stages_of (stands_in first pieces))
  later_in first [] = refl
  later_in first (piece ∷ []) = later_front (stand piece first true) [] [] refl
  later_in first (piece ∷ (next ∷ pieces)) = later_front (stand piece first false) (stands_in false (next ∷ pieces)) (later_by uses (next ∷ pieces)) (later_in false (next ∷ pieces))

  later_all : (pipelines : List (List Piece)) → later_by uses (pieces_of pipelines) ≡ map (more_streams stands) (stages_of (stands_of pipelines))
  later_all [] = refl
  later_all (pieces ∷ pipelines) =
      later_both uses pieces (pieces_of pipelines)
      ∙ (rw (later_in true pieces, later_all pipelines) (sym (map-append (more_streams stands) (stages_of (stands_in true pieces)) (stages_of (stands_of pipelines))))
      ∙ ap (map (more_streams stands)) (sym (filter-append is_stage (stands_in true pieces) (stands_of pipelines))))

-- the later uses of each stage
pub later_is : (pipelines : List (List Piece)) → AreScanned pipelines →
    later_by (uses_past [] (pieces_of pipelines)) (pieces_of pipelines) ≡ map (more_streams (stands_of pipelines)) (stages_of (stands_of pipelines))
later_is pipelines scanned =
    let uses = uses_past [] (pieces_of pipelines) in
    later_all (stands_of pipelines) uses (counted_uses (stands_of pipelines) uses (told_whole pipelines scanned)) pipelines

few_of : (width : Width) → most_of width ≤ 64
few_of Width.Two = omega arith
few_of Width.All = omega arith

few_by : (shape : Shape) → inputs_by shape ≤ 64
few_by Absent = omega arith
few_by (Sources pairs) = omega arith
few_by (Lists order t) = omega arith
few_by (Sinks keeping) = omega arith
few_by (Firsts width outs) = few_of width
few_by (Turns width t) = few_of width
few_by (Rounds width t) = few_of width
few_by Gates = omega arith
few_by Dams = omega arith
few_by Queues = omega arith

few_inputs : (kind : Kind) → inputs_of kind ≤ 64
few_inputs kind = few_by (line_of kind).shape

few_outputs : (kind : Kind) → outputs_of kind ≤ 64
few_outputs kind = min-le_right (line_of kind).outputs 64

row_size : (flags : List Bool) (count : ℕ) → length flags ≡ 64 * count → (stage places : ℕ) → stage < count → places ≤ 64 → length (row_by flags stage places) ≡ places
row_size flags count size stage places below few = length-take-le places (drop (64 * stage) flags) (omega (arith, length-drop (64 * stage) flags, size))

row_same : (flags : List Bool) (count : ℕ) (is_linked : ℕ → ℕ → Bool) → AreFlags flags count is_linked → (stage places : ℕ) → stage < count → places ≤ 64 →
    row_by flags stage places ≡ map (is_linked stage) (range_with_len 0 places)
row_same flags count is_linked are stage places below few =
    fill_by_all (is_linked stage) (row_by flags stage places) places false
    (row_size flags count are.size stage places below few)
    (λ k within. get_or-take places (drop (64 * stage) flags) k false within ∙ (get_or-drop (64 * stage) flags k false ∙ are.told stage k below (omega arith)))

few_places : (parting : Parting) (greatest streams : ℕ) → greatest ≤ 64 → places_of parting greatest streams ≤ 64
few_places Whole greatest streams few = omega (arith, few, min-le_right streams greatest)
few_places Queued greatest streams few = omega arith
few_places Streamed greatest streams few = omega arith

-- lists of strands that agree at each number
strands_agree : (f g : ℕ → Strand) (count : ℕ) → ((part : ℕ) → part < count → f part ≡ g part) → map f (range_with_len 0 count) ≡ map g (range_with_len 0 count)
strands_agree f g count same =
    fill_by_all g (map f (range_with_len 0 count)) count (f 0) (length-map-range_with_len f 0 count)
    (λ part below. get_or-map-range_with_len f 0 count part part (f 0) below (omega arith) ∙ same part below)

module _ (links : List Link) (count : ℕ) (inputs outputs : List Bool) (are_in : AreFlags inputs count (is_linked_in links)) (are_out : AreFlags outputs count (is_linked_out links)) where
  part_same : (stage first : ℕ) (size : StageSize) (part : ℕ) → first + part < count → strand_by inputs outputs stage first size part ≡ strand_of links stage first size part
  part_same stage first size part below =
      let places_in = places_of (parting_of size) (inputs_of size.kind) size.streams in
      let places_out = places_of (parting_of size) (outputs_of size.kind) size.streams in
      let few_in = few_places (parting_of size) (inputs_of size.kind) size.streams (few_inputs size.kind) in
      let few_out = few_places (parting_of size) (outputs_of size.kind) size.streams (few_outputs size.kind) in
      let row_in = row_same inputs count (is_linked_in links) are_in (first + part) places_in below few_in in
      let row_out = row_same outputs count (is_linked_out links) are_out (first + part) places_out below few_out in
      let size_in : length (row_by inputs (first + part) places_in) ≡ places_in = row_size inputs count are_in.size (first + part) places_in below few_in in
      let size_out : length (row_by outputs (first + part) places_out) ≡ places_out = row_size outputs count are_out.size (first + part) places_out below few_out in
      rw (size_in, size_out, row_in, row_out) refl

  parts_same : (stage first : ℕ) (size : StageSize) → first + width_of size ≤ count → parts_by inputs outputs stage first size ≡ map (strand_of links stage first size) (range_with_len 0 (width_of size))
  parts_same stage first size few =
      strands_agree (strand_by inputs outputs stage first size) (strand_of links stage first size) (width_of size) (λ part below. part_same stage first size part (omega arith))

  strands_same : (sizes : List StageSize) (stage first : ℕ) (more : List StageSize) → ((k : ℕ) → first_number sizes (stage + k) ≡ first + sum_by width_of (take k more)) → first + sum_by width_of more ≤ count →
      strands_by inputs outputs stage first more ≡ strands_from sizes links stage more
  strands_same sizes stage first [] starts few = refl
  strands_same sizes stage first (size ∷ more) starts few =
      let at : stage ≡ stage + 0 = omega arith in
      let here : first_number sizes stage ≡ first = ap (first_number sizes) at ∙ (starts 0 ∙ omega arith) in
      let left = sum_by-cons width_of size more in
      let next : (k : ℕ) → first_number sizes (suc stage + k) ≡ (first + width_of size) + sum_by width_of (take k more) = λ k.
      let on : suc stage + k ≡ stage + suc k = omega arith in
      ap (first_number sizes) on ∙ (starts (suc k) ∙ omega (arith, sum_by-cons width_of size (take k more))) in
      ap₂ (λ (strands more : List Strand). strands ++ more)
      (parts_same stage first size (omega (arith, left, few)) ∙ ap (λ (n : ℕ). map (strand_of links stage n size) (range_with_len 0 (width_of size))) (sym here))
      (strands_same sizes (suc stage) (first + width_of size) more next (omega (arith, left, few)))

-- the numbers of few stages are small
pub small_table : (stands : List Stand) (table : List ℕ) → ((label : ℕ) → slice_get table label ≡ stage_of stands (Some label)) → length (stages_of stands) ≤ 1024 → AreSmall table
small_table stands table labelled few i = by (slice_get_cases table i).1 where
  by : ((stage : ℕ) × (i < length table) × (slice_get table i ≡ Some stage) × (get_or table i stage ≡ stage)) ⊎ ((length table ≤ i) × (slice_get table i ≡ None)) → get_or table i 0 < 65536
  by (inl here) =
      let found = position_finds (λ (s : Stand). is_label (Some i) s.piece.label) (stages_of stands) here.0 (sym (labelled i) ∙ here.2) in
      let below = slice_get_within (stages_of stands) here.0 found.0 found.1 in
      rw (get_or_from_slice_get table i here.0 0 here.2) (omega arith)
  by (inr past) = rw (get_or_past table i 0 past.0) (omega arith)

-- the sizes of the stages are those of the definition
sizes_same : (stands stages : List Stand) (kinds : List Kind) → sizes_by (map (more_streams stands) stages) kinds ≡ sizes_of stands stages kinds
sizes_same stands [] kinds = refl
sizes_same stands (stand ∷ stages) [] = refl
sizes_same stands (stand ∷ stages) (kind ∷ kinds) =
    ap (λ (more : List StageSize). let size : StageSize = record { kind = kind; streams = streams_of stands stand.piece.label } in size ∷ more) (sizes_same stands stages kinds)

pub sizes_made : (pipelines : List (List Piece)) (kinds : List Kind) (later : List ℕ) → later ≡ map (more_streams (stands_of pipelines)) (stages_of (stands_of pipelines)) →
    sizes_by later kinds ≡ sizes_of (stands_of pipelines) (stages_of (stands_of pipelines)) kinds
sizes_made pipelines kinds later is = ap (λ (counts : List ℕ). sizes_by counts kinds) is ∙ sizes_same (stands_of pipelines) (stages_of (stands_of pipelines)) kinds

-- the joins that are made are those of the definition
pub joins_made : (pipelines : List (List Piece)) (table : List ℕ) → ((label : ℕ) → slice_get table label ≡ stage_of (stands_of pipelines) (Some label)) →
    (joins : List Link) → joins ≡ links_by_all table 0 pipelines → joins ≡ joins_of pipelines
joins_made pipelines table labelled joins is = is ∙ all_links_same (stands_of pipelines) table labelled 0 pipelines

-- how few the stages, their later uses and their strands are
pub record AreFew (whole : List Stand) (kinds : List Kind) (later : List ℕ) : Type 0 where
  pub stages : length whole ≤ 1024
  pub counted : length later ≡ length whole
  pub each : length later ≡ length kinds
  pub uses : All (λ (count : ℕ). count < 65535) later
  pub strands : sum_by width_of (sizes_by later kinds) ≤ 65536

-- so few are they where there is no fault
pub few_of_all : (pipelines : List (List Piece)) (kinds : List Kind) (later : List ℕ) → AreScanned pipelines
    → AreOutcomes (stages_of (stands_of pipelines)) (map (λ (kind : Kind). Ok kind) kinds) → faults_of pipelines (map (λ (kind : Kind). Ok kind) kinds) ≡ []
    → later ≡ map (more_streams (stands_of pipelines)) (stages_of (stands_of pipelines)) → AreFew (stages_of (stands_of pipelines)) kinds later
few_of_all pipelines kinds later scanned read good is =
    let stands = stands_of pipelines in
    let outcome : Kind → Result Kind KindFault = λ kind. Ok kind in
    let counted : length later ≡ length (stages_of stands) = ap (length {A = ℕ}) is ∙ length-map (stages_of stands) (more_streams stands) in
    let all = outcomes_of_all (stages_of stands) (map outcome kinds) read in
    record {
      stages = few_stages pipelines kinds good;
      counted = counted;
      each = omega (arith, counted, all, length-map kinds outcome);
      uses = All-same (λ (count : ℕ). count < 65535) later (map (more_streams stands) (stages_of stands)) is
          (All-map (λ (count : ℕ). count < 65535) (more_streams stands) (stages_of stands)
          (λ k d below. omega (arith, few_streams_of pipelines kinds scanned read good (get_or (stages_of stands) k d).piece.label)));
      strands = omega (arith, ap (sum_by width_of) (sizes_made pipelines kinds later is), few_widths pipelines kinds scanned read good);
    }

-- the stages of the joins are among those that are laid out
pub joins_laid : (pipelines : List (List Piece)) (kinds : List Kind) (later : List ℕ) (joins : List Link) (parts : List Parts) → AreFew (stages_of (stands_of pipelines)) kinds later → joins ≡ joins_of pipelines →
    AreParts parts (sizes_by later kinds) → All (IsWithin (length parts)) joins
joins_laid pipelines kinds later joins parts few is laid =
    let count : length (stages_of (stands_of pipelines)) ≡ length parts = omega (arith, laid.count, sizes_count later kinds few.each, few.each, few.counted) in
    subst (λ (n : ℕ). All (IsWithin n) joins) count (All-same (IsWithin (length (stages_of (stands_of pipelines)))) joins (joins_of pipelines) is (joins_within pipelines))

-- the net that is put together
pub assembled : (pipelines : List (List Piece)) (kinds : List Kind) (joins links : List Link) (later : List ℕ) (inputs outputs : List Bool) (count : ℕ) (strands : List Strand) →
    joins ≡ joins_of pipelines → later ≡ map (more_streams (stands_of pipelines)) (stages_of (stands_of pipelines)) → links ≡ links_of (sizes_by later kinds) joins → count ≡ sum_by width_of (sizes_by later kinds) →
    AreFlags inputs count (is_linked_in links) → AreFlags outputs count (is_linked_out links) → strands ≡ strands_by inputs outputs 0 0 (sizes_by later kinds) →
    ◌≡◌ {A = Net} (record { strands = strands; links = links }) (net_of pipelines kinds)
assembled pipelines kinds joins links later inputs outputs count strands joins_is counted links_is count_is are_in are_out strands_is =
    let sizes = sizes_of (stands_of pipelines) (stages_of (stands_of pipelines)) kinds in
    let made : sizes_by later kinds ≡ sizes = sizes_made pipelines kinds later counted in
    let few : 0 + sum_by width_of sizes ≤ count = omega (arith, count_is, ap (sum_by width_of) made) in
    let starts : (k : ℕ) → first_number sizes (0 + k) ≡ 0 + sum_by width_of (take k sizes) = λ k.
    let at : 0 + k ≡ k = omega arith in
    let first : first_number sizes k ≡ 0 + sum_by width_of (take k sizes) = omega arith in
    ap (first_number sizes) at ∙ first in
    let same : strands ≡ strands_from sizes links 0 sizes =
    strands_is ∙ (ap (strands_by inputs outputs 0 0) made ∙ strands_same links count inputs outputs are_in are_out sizes 0 0 sizes starts few) in
    ap (λ (strands : List Strand). let net : Net = record { strands = strands; links = links } in net) same
    ∙ ap (λ (links : List Link). let net : Net = record { strands = strands_from sizes links 0 sizes; links = links } in net) (links_is ∙ ap₂ links_of made joins_is)
