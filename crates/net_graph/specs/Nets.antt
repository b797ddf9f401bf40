-- The net of a specification whose pieces are read.
use Rattle.std.specs.Prelude.{◌≢◌, ℕ, suc, ◌+◌, ◌==◌, ◌&&◌, Bool, true, false, if◌then◌else◌, List, [], ◌∷◌, ◌++◌, map, take, sum_by, slice_get, Ok, Err, ⊤}
use Rattle.std.specs.declared.result.Result.{Result}
use Rattle.std.specs.List.{list_any, range_with_len}
use Rattle.std.specs.Option.{option_map_or}
use Rattle.std.specs.declared.option.Option.{Option}
use Rattle.std.specs.declared.option.Option.TheVariants.{Some, None}
use Rattle.pipe_model.specs.declared.kind.Kind.{Kind}
use Rattle.pipe_model.specs.declared.net.Link.{Link}
use Rattle.pipe_model.specs.declared.net.Net.{Net}
use Rattle.pipe_model.specs.declared.net.Ports.{Ports}
use Rattle.pipe_model.specs.declared.net.Strand.{Strand}
use Rattle.pipe_model.specs.Form.{Parting, inputs_by, parting_by}
use Rattle.pipe_model.specs.Form.Parting.{Whole, Queued, Streamed}
use Rattle.pipe_model.specs.Nets.{rendezvous, net_from}
use Rattle.pipe_model.specs.Table.{line_of, outputs_by}
use Rattle.pipe_model.specs.WellFormed.{places_of, strands_of}
use Rattle.stage_syntax.specs.declared.fault.KindFault.{KindFault}
use Rattle.stage_syntax.specs.declared.fault.KindFault.TheVariants.{NoMemory}
use Rattle.stage_syntax.specs.Kinds.{IsKind, IsNoKind}
use Rattle.spec_scanner.specs.declared.piece.Piece.{Piece}
use Rattle.net_graph.specs.Stands.{Spot, Stand, is_stage, spot_of, stages_of, streams_of, stands_of}

-- the name and the argument of a stage are this kind, or none for this reason
abbrev pub IsOutcome : Stand → Result Kind KindFault → Type 0
IsOutcome stand (Ok kind) = IsKind stand.piece.name stand.piece.arg stand.first kind
IsOutcome stand (Err fault) = (fault ≢ NoMemory) × IsNoKind stand.piece.name stand.piece.arg stand.first fault

-- the outcome of each stage
abbrev pub AreOutcomes : List Stand → List (Result Kind KindFault) → Type 0
AreOutcomes [] [] = ⊤
AreOutcomes [] (outcome ∷ outcomes) = ⊥
AreOutcomes (stand ∷ stands) [] = ⊥
AreOutcomes (stand ∷ stands) (outcome ∷ outcomes) = IsOutcome stand outcome × AreOutcomes stands outcomes

-- Joins: which stream of which stage leads to which, each written as a link with the numbers of stages in place of strands and of streams in place of places

-- from one piece to the next in a pipeline, where neither is a connector
abbrev pub join_from : Option Spot → Option Spot → List Link
join_from (Some a) (Some b) = rendezvous a.stage a.stream b.stage b.stream ∷ []
join_from (Some a) None = []
join_from None b = []

-- how many stages are defined after a stand, where so many are before it
abbrev pub counted : ℕ → Piece → ℕ
counted before piece = if is_stage (record { piece = piece; first = false; last = false }) then suc before else before

-- the joins of a pipeline, in whose front so many stages are defined before it
abbrev pub joins_in : List Stand → ℕ → List Piece → List Link
joins_in stands before [] = []
joins_in stands before (piece ∷ []) = []
joins_in stands before (piece ∷ (next ∷ pieces)) =
    join_from (spot_of stands before piece) (spot_of stands (counted before piece) next) ++ joins_in stands (counted before piece) (next ∷ pieces)

-- how many are defined after these pieces
abbrev pub counted_all : ℕ → List Piece → ℕ
counted_all before [] = before
counted_all before (piece ∷ pieces) = counted_all (counted before piece) pieces

-- the joins of pipelines, before which so many stages are defined
abbrev pub joins_from : List Stand → ℕ → List (List Piece) → List Link
joins_from stands before [] = []
joins_from stands before (pipeline ∷ pipelines) = joins_in stands before pipeline ++ joins_from stands (counted_all before pipeline) pipelines

-- the joins of all pipelines
abbrev pub joins_of : List (List Piece) → List Link
joins_of pipelines = joins_from (stands_of pipelines) 0 pipelines

-- The numbers of strands

-- a stage as far as its strands go: its kind, and how many streams it has
pub record StageSize : Type 0 where
  pub kind : Kind
  pub streams : ℕ

-- the sizes of these stages, which are of these kinds
abbrev pub sizes_of : List Stand → List Stand → List Kind → List StageSize
sizes_of stands [] kinds = []
sizes_of stands (stand ∷ stages) [] = []
sizes_of stands (stand ∷ stages) (kind ∷ kinds) = record { kind = kind; streams = streams_of stands stand.piece.label } ∷ sizes_of stands stages kinds

-- how it is parted into strands
abbrev pub parting_of : StageSize → Parting
parting_of size = parting_by (line_of size.kind).shape

-- how many strands the stage has
abbrev pub width_of : StageSize → ℕ
width_of size = strands_of (parting_of size) size.streams

-- the number of a stage's first strand: as many strands have the stages before it
abbrev pub first_number : List StageSize → ℕ → ℕ
first_number sizes stage = sum_by width_of (take stage sizes)

-- the parting of the stage of this number
abbrev pub parting_at : List StageSize → ℕ → Parting
parting_at sizes stage = option_map_or parting_of (slice_get sizes stage) Whole

-- Links

-- of a stage's strands, counted from 0, the one at which a stream comes in
abbrev pub part_in : Parting → ℕ → ℕ
part_in Whole stream = 0
part_in Queued stream = 0
part_in Streamed stream = stream

-- and the one at which it goes out
abbrev pub part_out : Parting → ℕ → ℕ
part_out Whole stream = 0
part_out Queued stream = 1
part_out Streamed stream = stream

-- the place of a stream at its strand
abbrev pub stream_place : Parting → ℕ → ℕ
stream_place Whole stream = stream
stream_place Queued stream = stream
stream_place Streamed stream = 0

-- the link of a join, between strands
abbrev pub link_of : List StageSize → Link → Link
link_of sizes join =
    rendezvous
    (first_number sizes join.from + part_out (parting_at sizes join.from) join.output)
    (stream_place (parting_at sizes join.from) join.output)
    (first_number sizes join.to + part_in (parting_at sizes join.to) join.input)
    (stream_place (parting_at sizes join.to) join.input)

-- the queue of a stage of two strands, which leads from the first to the second
abbrev pub queue_of : Parting → ℕ → List Link
queue_of Whole first = []
queue_of Queued first = record { from = first; output = 0; to = suc first; input = 0; queue = true } ∷ []
queue_of Streamed first = []

-- the queues of stages from a number on
abbrev pub queues_from : List StageSize → ℕ → List StageSize → List Link
queues_from sizes stage [] = []
queues_from sizes stage (size ∷ more) = queue_of (parting_of size) (first_number sizes stage) ++ queues_from sizes (suc stage) more

-- the links of the joins, and behind them the queues
abbrev pub links_of : List StageSize → List Link → List Link
links_of sizes joins = map (link_of sizes) joins ++ queues_from sizes 0 sizes

-- Strands

-- the greatest number of inputs and of outputs of a kind
abbrev pub inputs_of : Kind → ℕ
inputs_of kind = inputs_by (line_of kind).shape

abbrev pub outputs_of : Kind → ℕ
outputs_of kind = outputs_by (line_of kind)

-- the strand has a link to an input, or from an output
abbrev pub is_linked_in : List Link → ℕ → ℕ → Bool
is_linked_in links strand input = list_any (λ (link : Link). (link.to == strand) && (link.input == input)) links

abbrev pub is_linked_out : List Link → ℕ → ℕ → Bool
is_linked_out links strand output = list_any (λ (link : Link). (link.from == strand) && (link.output == output)) links

-- so many places of a strand, each linked or not
abbrev pub ports_of : List Link → ℕ → ℕ → ℕ → Ports
ports_of links strand inputs outputs = record {
  inputs = inputs;
  outputs = outputs;
  has_input = map (is_linked_in links strand) (range_with_len 0 inputs);
  has_output = map (is_linked_out links strand) (range_with_len 0 outputs);
}

-- a strand of a stage, by the number of the stage, that of its first strand, and its own number within the stage
abbrev pub strand_of : List Link → ℕ → ℕ → StageSize → ℕ → Strand
strand_of links stage first size part = record {
  name = stage ∷ [];
  kind = size.kind;
  part = part;
  unit = 0;
  ports = ports_of links (first + part) (places_of (parting_of size) (inputs_of size.kind) size.streams) (places_of (parting_of size) (outputs_of size.kind) size.streams);
}

-- the strands of stages from a number on
abbrev pub strands_from : List StageSize → List Link → ℕ → List StageSize → List Strand
strands_from sizes links stage [] = []
strands_from sizes links stage (size ∷ more) =
    map (strand_of links stage (first_number sizes stage) size) (range_with_len 0 (width_of size)) ++ strands_from sizes links (suc stage) more

-- The net

-- of stages of these sizes, with these joins
abbrev pub net_by : List StageSize → List Link → Net
net_by sizes joins = net_from (strands_from sizes (links_of sizes joins) 0 sizes) (links_of sizes joins)

-- of pipelines whose stages are of these kinds
abbrev pub net_of : List (List Piece) → List Kind → Net
net_of pipelines kinds = net_by (sizes_of (stands_of pipelines) (stages_of (stands_of pipelines)) kinds) (joins_of pipelines)
