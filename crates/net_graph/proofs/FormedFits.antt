-- The stream that a stand is for is one that its stage has.
use Rattle.std.proofs.Common.{◌≡◌, ◌⊎◌, inl, inr, ℕ, zero, suc, ◌≤◌, ◌<◌, Bool, true, false, List, [], ◌∷◌, ◌++◌, refl, sym, ◌∙◌, ap, subst, arith, Option, Some, None, slice_get, length, map}
use Rattle.std.proofs.lemmas.Bool.{eqb-true}
use Rattle.std.specs.Prelude.{Ok, codes}
use Rattle.std.specs.Str.{bytes_eq}
use Rattle.std.specs.List.{count_by}
use Rattle.pipe_model.specs.declared.kind.Kind.{Kind}
use Rattle.pipe_model.specs.Table.{line_of}
use Rattle.pipe_model.proofs.Truths.{both}
use Rattle.pipe_model.proofs.Lists.{get_seam}
use Rattle.stage_syntax.proofs.TypedKinds.{reader_named, typed_kind}
use Rattle.stage_syntax.specs.Files.{is_of_file}
use Rattle.stage_syntax.specs.Kinds.{IsKind}
use Rattle.spec_scanner.specs.declared.piece.Piece.{Piece}
use Rattle.spec_scanner.specs.declared.piece.PieceKind.{PieceKind}
use Rattle.spec_scanner.specs.declared.piece.PieceKind.TheVariants.{Stage, Reference, Connector}
use Rattle.net_graph.specs.Stands.{Spot, Stand, is_label, is_of_reference, refers_to, stage_of, stages_of, stands_of, streams_of}
use Rattle.net_graph.specs.Nets.{AreOutcomes, inputs_of, outputs_of}
use Rattle.net_graph.specs.Numbered.{AreScanned, IsNumbered}
use Rattle.net_graph.specs.Faults.{faults_of, is_file_reader}
use Rattle.net_graph.proofs.FormedFaults.{few_streams, input_there, later_reader, output_there}
use Rattle.net_graph.proofs.FormedKinds.{kind_here}
use Rattle.net_graph.proofs.FormedLabels.{counted_with, numbered_at, reference_is, stage_is, stages_with, none_referred}
use Rattle.net_graph.proofs.FormedLists.{last_counted}
use Rattle.net_graph.proofs.FormedPositions.{position_finds}
use Rattle.net_graph.proofs.FormedSpots.{Defines, Refers, StandsFor, found_whole, told_of}

-- the label passes the test
label_found : (l : ℕ) (label : Option ℕ) → is_label (Some l) label ≡ true → label ≡ Some l
label_found l None is = cc
label_found l (Some m) is = ap Some (sym (eqb-true l m is))

reference_kind : (kind : PieceKind) → is_of_reference kind ≡ true → kind ≡ Reference
reference_kind Stage is = cc
reference_kind Reference is = refl
reference_kind Connector is = cc

-- a stage that isn't named `<` is fed no file
fed_none : (stand : Stand) (kind : Kind) → IsKind stand.piece.name stand.piece.arg stand.first kind → is_file_reader stand.piece ≡ false → is_of_file (line_of kind).feed ≡ false
fed_none stand kind is other = by (is_of_file (line_of kind).feed) refl where
  by : (file : Bool) → is_of_file (line_of kind).feed ≡ file → file ≡ false
  by false fed = refl
  by true fed =
      let reader : is_file_reader stand.piece ≡ true = ap (λ name. bytes_eq name (codes "<")) (reader_named stand.piece.name stand.piece.arg stand.first kind is fed) in
      cc

-- the stage of a stand's stream, and the kind of it
pub record Fits (whole : List Stand) (kinds : List Kind) (stand : Stand) (spot : Spot) : Type 0 where
  pub stage : Stand
  pub kind : Kind
  pub stage_there : slice_get (stages_of whole) spot.stage ≡ Some stage
  pub kind_there : slice_get kinds spot.stage ≡ Some kind
  pub stream : spot.stream < streams_of whole stage.piece.label
  pub output : stand.last ≡ false → spot.stream < outputs_of kind
  pub input : stand.first ≡ false → spot.stream < inputs_of kind

module _ (pipelines : List (List Piece)) (kinds : List Kind) (scanned : AreScanned pipelines)
    (read : AreOutcomes (stages_of (stands_of pipelines)) (map (λ (kind : Kind). Ok kind) kinds))
    (good : faults_of pipelines (map (λ (kind : Kind). Ok kind) kinds) ≡ []) where
  abbrev whole : List Stand
  whole = stands_of pipelines

  module _ (at : ℕ) (stand : Stand) (spot : Spot) (stands : StandsFor whole at stand spot) where
    fits_defined : Defines stands.done stand spot → Fits whole kinds stand spot
    fits_defined here =
        let there : slice_get (stages_of whole) spot.stage ≡ Some stand =
        ap (slice_get (stages_of whole)) here.stage
        ∙ ap (λ stages. slice_get stages (length (stages_of stands.done))) (ap stages_of stands.cut ∙ stages_with stands.done stands.rest stand (stage_is stand here.kind))
        ∙ get_seam (stages_of stands.done) stand (stages_of stands.rest) in
        let kind = kind_here (stages_of whole) kinds spot.stage stand read there in
        let typed = typed_kind stand.piece.name stand.piece.arg stand.first kind.0 kind.2 in
        record {
          stage = stand;
          kind = kind.0;
          stage_there = there;
          kind_there = kind.1;
          stream = omega (arith, here.stream);
          output = λ goes_on. omega (arith, here.stream, typed.plain.output);
          input = λ comes. omega (arith, here.stream, typed.plain.input comes (fed_none stand kind.0 kind.2 (later_reader pipelines kinds good stands.done stands.rest stand stands.cut here.kind comes)));
        }

    fits_used : Refers whole stands.done stand spot → Fits whole kinds stand spot
    fits_used here =
        let found = position_finds (λ (s : Stand). is_label (Some here.label) s.piece.label) (stages_of whole) spot.stage here.stage in
        let kind = kind_here (stages_of whole) kinds spot.stage found.0 read found.1 in
        let label : found.0.piece.label ≡ Some here.label = label_found here.label found.0.piece.label found.2 in
        let stage : stage_of whole stand.piece.label ≡ Some spot.stage = ap (stage_of whole) here.label_is ∙ here.stage in
        record {
          stage = found.0;
          kind = kind.0;
          stage_there = found.1;
          kind_there = kind.1;
          stream = omega (
            arith,
            here.stream,
            ap (streams_of whole) label,
            ap (count_by (refers_to (Some here.label))) stands.cut,
            counted_with (refers_to (Some here.label)) stands.done stands.rest stand (reference_is stand here.label here.kind here.label_is),
          );
          output = λ goes_on. omega (arith, here.uses, output_there pipelines kinds good stands.done stands.rest stand stands.cut here.kind spot.stage kind.0 stage kind.1 goes_on);
          input = λ comes. omega (arith, here.uses, input_there pipelines kinds good stands.done stands.rest stand stands.cut here.kind spot.stage kind.0 stage kind.1 comes);
        }

    pub fits : Fits whole kinds stand spot
    fits = go (told_of pipelines scanned at stand spot stands)
      where
        go : Defines stands.done stand spot ⊎ Refers whole stands.done stand spot → Fits whole kinds stand spot
        go (inl here) = fits_defined here
        go (inr here) = fits_used here

  -- a later use is one of few
  few_uses : (l : ℕ) (done rest : List Stand) (stand : Stand) → whole ≡ done ++ stand ∷ rest → refers_to (Some l) stand ≡ true → suc (count_by (refers_to (Some l)) done) < 64
  few_uses l done rest stand cut refers =
      let tests = both (is_of_reference stand.piece.kind) (is_label (Some l) stand.piece.label) refers in
      let kind : stand.piece.kind ≡ Reference = reference_kind stand.piece.kind tests.0 in
      let label : stand.piece.label ≡ Some l = label_found l stand.piece.label tests.1 in
      let r = numbered_at pipelines done rest stand scanned cut in
      let numbered : IsNumbered r.0 stand.piece Reference = subst (IsNumbered r.0 stand.piece) kind r.2 in
      let labels : Some l ≡ Some numbered.label = sym label ∙ numbered.label_is in
      let same : l ≡ numbered.label = cc in
      let defined = r.1.defined numbered.label numbered.count numbered.defined in
      let found = found_whole pipelines scanned done (stand ∷ rest) numbered.label defined.0 cut defined.1 in
      let stage = position_finds (λ (s : Stand). is_label (Some numbered.label) s.piece.label) (stages_of whole) defined.0 found in
      let there = kind_here (stages_of whole) kinds defined.0 stage.0 read stage.1 in
      let few = few_streams pipelines kinds good done rest stand cut kind defined.0 there.0 (ap (stage_of whole) numbered.label_is ∙ found) there.1 in
      omega (arith, few, numbered.uses_is, r.1.counted numbered.label numbered.count numbered.defined, ap (λ l. count_by (refers_to (Some l)) done) same)

  -- a stage has at most 64 streams
  pub few_streams_of : (label : Option ℕ) → streams_of whole label ≤ 64
  few_streams_of None = omega (arith, none_referred whole)
  few_streams_of (Some l) = go (count_by (refers_to (Some l)) whole) refl
    where
      go : (n : ℕ) → count_by (refers_to (Some l)) whole ≡ n → streams_of whole (Some l) ≤ 64
      go zero none = omega (arith, none)
      go (suc n) some =
          let r = last_counted (refers_to (Some l)) whole n some in
          omega (arith, some, r.5, few_uses l r.0 r.2 r.1 r.3 r.4)
