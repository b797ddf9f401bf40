-- Where every stage has one strand, the strands of a net are its stages and the links its joins.
use Rattle.std.proofs.Common.{◌≡◌, ℕ, zero, suc, ◌+◌, ◌≤◌, ◌<◌, false, List, [], ◌∷◌, ◌++◌, refl, sym, ◌∙◌, ap, ap₂, arith, length, map, append-nil}
use Rattle.std.specs.Prelude.{Ok, ⊤}
use Rattle.std.specs.List.{range_with_len}
use Rattle.pipe_model.specs.declared.kind.Kind.{Kind}
use Rattle.pipe_model.specs.declared.net.Link.{Link}
use Rattle.pipe_model.specs.declared.net.Net.{Net}
use Rattle.pipe_model.specs.declared.net.Strand.{Strand}
use Rattle.pipe_model.specs.Form.{parting_by}
use Rattle.pipe_model.specs.Form.Parting.{Whole}
use Rattle.pipe_model.specs.Nets.{rendezvous}
use Rattle.pipe_model.specs.Table.{line_of}
use Rattle.pipe_model.specs.WellFormed.{places_of, strands_of}
use Rattle.spec_scanner.specs.declared.piece.Piece.{Piece}
use Rattle.net_graph.specs.Nets.{AreOutcomes, StageSize, first_number, inputs_of, joins_of, link_of, links_of, net_of, outputs_of, part_in, part_out, parting_at, parting_of, stream_place, ports_of, queue_of, queues_from, sizes_of, strand_of, strands_from, width_of}
use Rattle.net_graph.specs.Stands.{Stand, stages_of, stands_of, streams_of}
use Rattle.net_graph.proofs.WholeNets.{whole_net, whole_strand, whole_strands}
use Rattle.net_graph.proofs.FormedLinks.{AreLeads, leads_of}
use Rattle.net_graph.proofs.JoinStages.{spot_within}
use Rattle.net_graph.proofs.Parted.{first_more}

-- each stage has one strand
abbrev pub AreWhole : List StageSize → Type 0
AreWhole [] = ⊤
AreWhole (size ∷ sizes) = (parting_of size ≡ Whole) × AreWhole sizes

sizes_count : (stands stages : List Stand) (kinds : List Kind) → AreOutcomes stages (map (λ kind. Ok kind) kinds) → length (sizes_of stands stages kinds) ≡ length stages
sizes_count stands [] kinds read = refl
sizes_count stands (stand ∷ stages) [] read = absurd read
sizes_count stands (stand ∷ stages) (kind ∷ kinds) read = ap suc (sizes_count stands stages kinds read.1)

one_wide : (size : StageSize) → parting_of size ≡ Whole → width_of size ≡ 1
one_wide size whole = ap (λ parting. strands_of parting size.streams) whole

-- the first strand of a stage has its number
first_whole : (sizes : List StageSize) → AreWhole sizes → (stage : ℕ) → stage ≤ length sizes → first_number sizes stage ≡ stage
first_whole [] whole zero within = refl
first_whole [] whole (suc stage) within = absurd (omega (arith, within))
first_whole (size ∷ sizes) whole zero within = refl
first_whole (size ∷ sizes) whole (suc stage) within =
    omega (arith, first_more size sizes stage, one_wide size whole.0, first_whole sizes whole.1 stage (omega (arith, within)))

parting_whole : (sizes : List StageSize) → AreWhole sizes → (stage : ℕ) → parting_at sizes stage ≡ Whole
parting_whole [] whole stage = refl
parting_whole (size ∷ sizes) whole zero = whole.0
parting_whole (size ∷ sizes) whole (suc stage) = parting_whole sizes whole.1 stage

no_queues : (sizes : List StageSize) (stage : ℕ) (more : List StageSize) → AreWhole more → queues_from sizes stage more ≡ []
no_queues sizes stage [] whole = refl
no_queues sizes stage (size ∷ more) whole = ap (λ parting. queue_of parting (first_number sizes stage) ++ queues_from sizes (suc stage) more) whole.0 ∙ no_queues sizes (suc stage) more whole.1

-- Links

module _ (sizes : List StageSize) (whole : AreWhole sizes) where
  link_same : (join : Link) → join.from < length sizes → join.to < length sizes → join.queue ≡ false → link_of sizes join ≡ join
  link_same join from_there to_there no_queue =
      let from : first_number sizes join.from + 0 ≡ join.from = omega (arith, first_whole sizes whole join.from (omega arith)) in
      let to : first_number sizes join.to + 0 ≡ join.to = omega (arith, first_whole sizes whole join.to (omega arith)) in
      ap₂ (λ parting other. rendezvous (first_number sizes join.from + part_out parting join.output) (stream_place parting join.output) (first_number sizes join.to + part_in other join.input) (stream_place other join.input)) (parting_whole sizes whole join.from) (parting_whole sizes whole join.to)
      ∙ ap₂ (λ from to. rendezvous from join.output to join.input) from to
      ∙ ap (λ queue. let link : Link = record { from = join.from; output = join.output; to = join.to; input = join.input; queue = queue } in link) (sym no_queue)

  links_same : (stands : List Stand) → length sizes ≡ length (stages_of stands) → (from : ℕ) (joins : List Link) → AreLeads stands from joins → map (link_of sizes) joins ≡ joins
  links_same stands count from [] leads = refl
  links_same stands count from (join ∷ joins) leads =
      let lead = leads.0 in
      let source = spot_within stands lead.at lead.source (record { stage = join.from; stream = join.output }) lead.source_for in
      let target = spot_within stands (suc lead.at) lead.target (record { stage = join.to; stream = join.input }) lead.target_for in
      ap₂ (λ (link : Link) (links : List Link). link ∷ links) (link_same join (omega arith) (omega arith) lead.no_queue) (links_same stands count (suc lead.at) joins leads.1)

-- Strands

module _ (stands : List Stand) (links : List Link) where
  strand_same : (stage first : ℕ) (stand : Stand) (kind : Kind) → parting_by (line_of kind).shape ≡ Whole → first ≡ stage →
      let size : StageSize = record { kind = kind; streams = streams_of stands stand.piece.label } in
      map (strand_of links stage first size) (range_with_len 0 (width_of size)) ≡ whole_strand stands links stage stand kind ∷ []
  strand_same stage first stand kind whole is =
      let size : StageSize = record { kind = kind; streams = streams_of stands stand.piece.label } in
      let number : first + 0 ≡ stage = omega (arith, is) in
      ap (λ n. map (strand_of links stage first size) (range_with_len 0 n)) (one_wide size whole)
      ∙ ap₂ (λ number parting. let strand : Strand = record {
        name = stage ∷ [];
        kind = kind;
        part = 0;
        unit = 0;
        ports = ports_of links number (places_of parting (inputs_of kind) size.streams) (places_of parting (outputs_of kind) size.streams);
      } in strand ∷ []) number whole

  module _ (sizes : List StageSize) (whole : AreWhole sizes) where
    strands_same : (stage : ℕ) (stages : List Stand) (kinds : List Kind) → AreWhole (sizes_of stands stages kinds) → stage + length (sizes_of stands stages kinds) ≤ length sizes
        → strands_from sizes links stage (sizes_of stands stages kinds) ≡ whole_strands stands links stage stages kinds
    strands_same stage [] kinds each within = refl
    strands_same stage (stand ∷ stages) [] each within = refl
    strands_same stage (stand ∷ stages) (kind ∷ kinds) each within =
        ap₂ (λ (here more : List Strand). here ++ more)
        (strand_same stage (first_number sizes stage) stand kind each.0 (first_whole sizes whole stage (omega (arith, within))))
        (strands_same (suc stage) stages kinds each.1 (omega (arith, within)))

-- The net

-- where each stage has one strand, the net is that of its stages and joins
pub whole_same : (pipelines : List (List Piece)) (kinds : List Kind) → AreWhole (sizes_of (stands_of pipelines) (stages_of (stands_of pipelines)) kinds)
    → AreOutcomes (stages_of (stands_of pipelines)) (map (λ kind. Ok kind) kinds) → net_of pipelines kinds ≡ whole_net pipelines kinds
whole_same pipelines kinds whole read =
    let stands = stands_of pipelines in
    let sizes = sizes_of stands (stages_of stands) kinds in
    let count = sizes_count stands (stages_of stands) kinds read in
    let links : links_of sizes (joins_of pipelines) ≡ joins_of pipelines =
    ap₂ (λ (links queues : List Link). links ++ queues) (links_same sizes whole stands count 0 (joins_of pipelines) (leads_of pipelines)) (no_queues sizes 0 sizes whole) ∙ append-nil (joins_of pipelines) in
    let strands : strands_from sizes (links_of sizes (joins_of pipelines)) 0 sizes ≡ whole_strands stands (joins_of pipelines) 0 (stages_of stands) kinds =
    ap (λ links. strands_from sizes links 0 sizes) links ∙ strands_same stands (joins_of pipelines) sizes whole 0 (stages_of stands) kinds whole (omega arith) in
    ap₂ (λ (strands : List Strand) (links : List Link). let net : Net = record { strands = strands; links = links } in net) strands links
