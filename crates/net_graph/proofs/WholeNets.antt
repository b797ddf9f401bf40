-- Nets in which every stage has one strand: the strands are the stages, and the links their joins.
use Rattle.std.specs.Prelude.{ℕ, suc, min, List, [], ◌∷◌}
use Rattle.pipe_model.specs.declared.kind.Kind.{Kind}
use Rattle.pipe_model.specs.declared.net.Link.{Link}
use Rattle.pipe_model.specs.declared.net.Net.{Net}
use Rattle.pipe_model.specs.declared.net.Ports.{Ports}
use Rattle.pipe_model.specs.declared.net.Strand.{Strand}
use Rattle.spec_scanner.specs.declared.piece.Piece.{Piece}
use Rattle.net_graph.specs.Nets.{inputs_of, joins_of, outputs_of, ports_of}
use Rattle.net_graph.specs.Stands.{Stand, stages_of, stands_of, streams_of}

-- the places of a stage of so many streams
abbrev pub whole_ports : List Link → ℕ → Kind → ℕ → Ports
whole_ports links stage kind streams = ports_of links stage (min streams (inputs_of kind)) (min streams (outputs_of kind))

-- the strand of a stage
abbrev pub whole_strand : List Stand → List Link → ℕ → Stand → Kind → Strand
whole_strand stands links stage stand kind = record {
  name = stage ∷ [];
  kind = kind;
  part = 0;
  unit = 0;
  ports = whole_ports links stage kind (streams_of stands stand.piece.label);
}

-- the strands of stages from a number on, of these kinds
abbrev pub whole_strands : List Stand → List Link → ℕ → List Stand → List Kind → List Strand
whole_strands stands links stage [] kinds = []
whole_strands stands links stage (stand ∷ stages) [] = []
whole_strands stands links stage (stand ∷ stages) (kind ∷ kinds) =
    whole_strand stands links stage stand kind ∷ whole_strands stands links (suc stage) stages kinds

-- the net of pipelines whose stages are of these kinds
abbrev pub whole_net : List (List Piece) → List Kind → Net
whole_net pipelines kinds = record {
  strands = whole_strands (stands_of pipelines) (joins_of pipelines) 0 (stages_of (stands_of pipelines)) kinds;
  links = joins_of pipelines;
}
