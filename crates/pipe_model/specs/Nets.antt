-- What nets are made of.
use Rattle.std.specs.Prelude.{ℕ, Bool, false, List, [], ◌∷◌, length}
use Rattle.pipe_model.specs.declared.kind.Kind.{Kind}
use Rattle.pipe_model.specs.declared.net.Link.{Link}
use Rattle.pipe_model.specs.declared.net.Net.{Net}
use Rattle.pipe_model.specs.declared.net.Strand.{Strand}

-- a strand of the k-th stage of the main specification, of this number within the stage; it has a place for each flag, which tells whether the place is connected
abbrev pub part_strand : ℕ → ℕ → Kind → List Bool → List Bool → Strand
part_strand k part kind ins outs = record {
  name = k ∷ [];
  kind = kind;
  part = part;
  unit = 0;
  ports = record { inputs = length ins; outputs = length outs; has_input = ins; has_output = outs };
}

-- the strand of the k-th stage, where it has no other
abbrev pub strand : ℕ → Kind → List Bool → List Bool → Strand
strand k kind ins outs = part_strand k 0 kind ins outs

-- the rendezvous from an output of a strand to an input of a strand
abbrev pub rendezvous : ℕ → ℕ → ℕ → ℕ → Link
rendezvous from output to input = record { from = from; output = output; to = to; input = input; queue = false }

-- the net of these strands and links
abbrev pub net_from : List Strand → List Link → Net
net_from strands links = record { strands = strands; links = links }
