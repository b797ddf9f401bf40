-- The net of a specification without a fault is well-formed.
use Rattle.std.proofs.Common.{◌≡◌, ℕ, suc, List, [], sym, ◌∙◌, ap, arith, Some, slice_get, map}
use Rattle.std.specs.Prelude.{Ok}
use Rattle.pipe_model.specs.declared.kind.Kind.{Kind}
use Rattle.pipe_model.specs.declared.net.Link.{Link}
use Rattle.pipe_model.specs.Table.{line_of}
use Rattle.pipe_model.specs.WellFormed.{IsWellFormed}
use Rattle.stage_syntax.proofs.TypedKinds.{typed_kind}
use Rattle.spec_scanner.specs.declared.piece.Piece.{Piece}
use Rattle.net_graph.specs.Stands.{Stand, stages_of, stands_of}
use Rattle.net_graph.specs.Nets.{AreOutcomes, StageSize, joins_of, net_of, sizes_of}
use Rattle.net_graph.specs.Numbered.{AreScanned}
use Rattle.net_graph.specs.Faults.{faults_of}
use Rattle.net_graph.proofs.FormedFits.{few_streams_of, fits}
use Rattle.net_graph.proofs.FormedKinds.{kind_here}
use Rattle.net_graph.proofs.FormedLinks.{lead_at, leads_of}
use Rattle.net_graph.proofs.FormedLone.{lone_in, lone_out}
use Rattle.net_graph.proofs.FormedNets.{IsGoodJoin, IsGoodStage, formed_by}
use Rattle.net_graph.proofs.Parted.{size_of, size_there, size_was}
use Rattle.net_graph.proofs.Widths.{few_widths}

-- the net of kinds that the stages are of, where the pieces are scanned and there is no fault
module _ (pipelines : List (List Piece)) (kinds : List Kind) (scanned : AreScanned pipelines)
    (read : AreOutcomes (stages_of (stands_of pipelines)) (map (λ (kind : Kind). Ok kind) kinds))
    (good : faults_of pipelines (map (λ (kind : Kind). Ok kind) kinds) ≡ []) where
  abbrev whole : List Stand
  whole = stands_of pipelines

  abbrev joins : List Link
  joins = joins_of pipelines

  abbrev sizes : List StageSize
  sizes = sizes_of whole (stages_of whole) kinds

  good_stage : (stage : ℕ) (size : StageSize) → slice_get sizes stage ≡ Some size → IsGoodStage size
  good_stage stage size is =
      let r = size_was whole (stages_of whole) kinds stage size is in
      let found = kind_here (stages_of whole) kinds stage r.0 read r.2 in
      let one_kind : found.0 ≡ r.1 = cc in
      let proper = (typed_kind r.0.piece.name r.0.piece.arg r.0.first found.0 found.2).proper in
      let streams = ap (λ (size : StageSize). size.streams) r.4 in
      record {
        some = omega (arith, streams);
        few = omega (arith, streams, few_streams_of pipelines kinds scanned read good r.0.piece.label);
        proper = ap (λ (size : StageSize). (line_of size.kind).proper) r.4 ∙ ap (λ kind. (line_of kind).proper) (sym one_kind) ∙ proper;
      }

  good_join : (j : ℕ) (join : Link) → slice_get joins j ≡ Some join → IsGoodJoin sizes join
  good_join j join is =
      let it = lead_at whole 0 joins j join (leads_of pipelines) is in
      let source = fits pipelines kinds scanned read good it.at it.source (record { stage = join.from; stream = join.output }) it.source_for in
      let target = fits pipelines kinds scanned read good (suc it.at) it.target (record { stage = join.to; stream = join.input }) it.target_for in
      record {
        source = record {
          size = size_of whole source.stage source.kind;
          stage_there = size_there whole (stages_of whole) kinds join.from source.stage source.kind source.stage_there source.kind_there;
          stream_there = source.stream;
          within = source.output it.source_goes_on;
        };
        target = record {
          size = size_of whole target.stage target.kind;
          stage_there = size_there whole (stages_of whole) kinds join.to target.stage target.kind target.stage_there target.kind_there;
          stream_there = target.stream;
          within = target.input it.target_goes_on;
        };
      }

  pub formed : IsWellFormed (net_of pipelines kinds)
  formed = formed_by sizes joins (record {
    few = few_widths pipelines kinds scanned read good;
    good_stage = good_stage;
    good_join = good_join;
    lone_out = λ j k a b. lone_out pipelines scanned 0 joins j k a b (leads_of pipelines);
    lone_in = λ j k a b. lone_in pipelines scanned 0 joins j k a b (leads_of pipelines);
  })
