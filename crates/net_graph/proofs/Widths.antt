-- The stages of a specification without a fault have few strands.
use Rattle.std.proofs.Common.{◌≡◌, ℕ, suc, ◌+◌, ◌*◌, ◌≤◌, List, [], ◌∷◌, length, map, ap, sym, ◌∙◌, arith, Option, Some, add-one, slice_get}
use Rattle.std.specs.Prelude.{Ok, sum_by}
use Rattle.std.proofs.lemmas.List.Sums.{sum_by-cons, sum_by_more, sum_by-take-le}
use Rattle.std.proofs.Math.Seq.{take-length}
use Rattle.std.proofs.lemmas.Option.{get_or_from_slice_get, slice_get_within}
use Rattle.pipe_model.specs.declared.kind.Kind.{Kind}
use Rattle.pipe_model.specs.Form.{Parting}
use Rattle.pipe_model.specs.Form.Parting.{Whole, Queued, Streamed}
use Rattle.pipe_model.specs.WellFormed.{strands_of}
use Rattle.spec_scanner.specs.declared.piece.Piece.{Piece}
use Rattle.net_graph.specs.Faults.{faults_of}
use Rattle.net_graph.specs.Nets.{AreOutcomes, StageSize, first_number, parting_of, sizes_of, width_of}
use Rattle.net_graph.specs.Numbered.{AreScanned}
use Rattle.net_graph.specs.Stands.{Stand, stages_of, stands_of, streams_of}
use Rattle.net_graph.proofs.FormedFaults.{few_stages}
use Rattle.net_graph.proofs.FormedFits.{few_streams_of}

-- the strands of the next stage stand behind those of a stage
pub first_next : (sizes : List StageSize) (stage : ℕ) (size : StageSize) → slice_get sizes stage ≡ Some size → first_number sizes (suc stage) ≡ first_number sizes stage + width_of size
first_next sizes stage size there =
    ap (first_number sizes) (sym (add-one stage))
    ∙ (sum_by_more width_of sizes stage size (slice_get_within sizes stage size there)
    ∙ ap (λ (s : StageSize). first_number sizes stage + width_of s) (get_or_from_slice_get sizes stage size size there))

-- no stage begins past the last strand
pub first_within : (sizes : List StageSize) (stage : ℕ) → first_number sizes stage ≤ sum_by width_of sizes
first_within sizes stage = sum_by-take-le width_of sizes stage

-- after the last stage come no more strands
pub first_last : (sizes : List StageSize) → first_number sizes (length sizes) ≡ sum_by width_of sizes
first_last sizes = ap (sum_by width_of) (take-length sizes)

-- a stage has as many strands as its parting wants: one, two or at most as many as it has streams
few_parts : (parting : Parting) (streams : ℕ) → streams ≤ 64 → strands_of parting streams ≤ 64
few_parts Whole streams few = omega arith
few_parts Queued streams few = omega arith
few_parts Streamed streams few = few

widths : (stands stages : List Stand) (kinds : List Kind) → ((label : Option ℕ) → streams_of stands label ≤ 64) → sum_by width_of (sizes_of stands stages kinds) ≤ 64 * length stages
widths stands [] kinds few = omega arith
widths stands (stand ∷ stages) [] few = omega arith
widths stands (stand ∷ stages) (kind ∷ kinds) few =
    let size : StageSize = record { kind = kind; streams = streams_of stands stand.piece.label } in
    omega (arith, sum_by-cons width_of size (sizes_of stands stages kinds), few_parts (parting_of size) size.streams (few stand.piece.label), widths stands stages kinds few)

-- so there are few strands in all
pub few_widths : (pipelines : List (List Piece)) (kinds : List Kind) → AreScanned pipelines
    → AreOutcomes (stages_of (stands_of pipelines)) (map (λ (kind : Kind). Ok kind) kinds) → faults_of pipelines (map (λ (kind : Kind). Ok kind) kinds) ≡ []
    → sum_by width_of (sizes_of (stands_of pipelines) (stages_of (stands_of pipelines)) kinds) ≤ 65536
few_widths pipelines kinds scanned read good =
    omega (arith, widths (stands_of pipelines) (stages_of (stands_of pipelines)) kinds (few_streams_of pipelines kinds scanned read good), few_stages pipelines kinds good)
