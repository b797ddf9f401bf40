-- The strands of a straight line.
use Rattle.std.proofs.Common.{◌≡◌, ℕ, suc, ◌+◌, ◌<◌, true, false, List, [], ◌∷◌, length, refl, ap, ap₂, ◌∙◌, arith, Some, None}
use Rattle.pipe_model.specs.declared.kind.Kind.{Kind}
use Rattle.pipe_model.specs.declared.kind.Kind.TheVariants.{ConsoleIn, ConsoleOut, Locate}
use Rattle.pipe_model.specs.declared.net.Link.{Link}
use Rattle.pipe_model.specs.declared.net.Ports.{Ports}
use Rattle.pipe_model.specs.declared.net.Strand.{Strand}
use Rattle.pipe_model.specs.Straight.{all_columns, chain}
use Rattle.spec_scanner.proofs.StraightStages.{AreLater}
use Rattle.spec_scanner.proofs.StraightWords.{Spelled}
use Rattle.net_graph.specs.Line.{first_strand, strands_from as line_from}
use Rattle.net_graph.specs.Nets.{is_linked_in, is_linked_out}
use Rattle.net_graph.proofs.WholeNets.{whole_ports, whole_strands}
use Rattle.net_graph.specs.Stands.{Stand, stands_in, streams_of}
use Rattle.net_graph.proofs.StraightChains.{linked_in, linked_out, not_linked_out}
use Rattle.net_graph.proofs.StraightKinds.{kinds_later}
use Rattle.net_graph.proofs.StraightPieces.{pieces_of}

-- a strand of these places
abbrev placed : ℕ → Kind → Ports → Strand
placed number kind ports = record { name = number ∷ []; kind = kind; part = 0; unit = 0; ports = ports }

-- the places of the CONSOLE that reads
first_ports : (links : List Link) (number : ℕ) (bytes : List ℕ) → is_linked_out links number 0 ≡ true
    → whole_ports links number (ConsoleIn bytes) 1 ≡ record { inputs = 0; outputs = 1; has_input = []; has_output = true ∷ [] }
first_ports links number bytes out = rw out refl

-- the places of a LOCATE
locate_ports : (links : List Link) (number : ℕ) (string : List ℕ) → is_linked_in links number 0 ≡ true → is_linked_out links number 0 ≡ true
    → whole_ports links number (Locate all_columns (Some string)) 1 ≡ record { inputs = 1; outputs = 1; has_input = true ∷ []; has_output = true ∷ [] }
locate_ports links number string into out = rw into (rw out refl)

-- the places of the CONSOLE that writes
last_ports : (links : List Link) (number : ℕ) → is_linked_in links number 0 ≡ true → is_linked_out links number 0 ≡ false
    → whole_ports links number ConsoleOut 1 ≡ record { inputs = 1; outputs = 1; has_input = true ∷ []; has_output = false ∷ [] }
last_ports links number into out = rw into (rw out refl)

module _ (stands : List Stand) (count : ℕ) (single : streams_of stands None ≡ 1) where
  -- the strand of the first stage
  pub first_is : (bytes : List ℕ) → 0 < count → placed 0 (ConsoleIn bytes) (whole_ports (chain 0 count) 0 (ConsoleIn bytes) (streams_of stands None)) ≡ first_strand bytes
  first_is bytes some =
      ap (λ ports. placed 0 (ConsoleIn bytes) ports) (ap (whole_ports (chain 0 count) 0 (ConsoleIn bytes)) single ∙ first_ports (chain 0 count) 0 bytes (linked_out 0 count 0 (omega arith) (omega arith)))

  -- the strands of the stages after the first
  pub strands_later : (number : ℕ) (stages : List Spelled) (strings : List (List ℕ)) → AreLater stages strings → 0 < number → number + length strings ≡ count
      → whole_strands stands (chain 0 count) number (stands_in false (pieces_of stages)) (kinds_later strings) ≡ line_from number strings
  strands_later number [] strings later after sum = absurd later
  strands_later number (stage ∷ []) [] later after sum =
      ap (λ ports. placed number ConsoleOut ports ∷ [])
      (ap (whole_ports (chain 0 count) number ConsoleOut) single
      ∙ last_ports (chain 0 count) number (linked_in 0 count number after (omega arith)) (not_linked_out 0 count number (omega arith)))
  strands_later number (stage ∷ []) (string ∷ strings) later after sum = absurd later
  strands_later number (stage ∷ (next ∷ stages)) [] later after sum = absurd later
  strands_later number (stage ∷ (next ∷ stages)) (string ∷ strings) later after sum =
      ap₂ (λ ports strands. placed number (Locate all_columns (Some string)) ports ∷ strands)
      (ap (whole_ports (chain 0 count) number (Locate all_columns (Some string))) single
      ∙ locate_ports (chain 0 count) number string (linked_in 0 count number after (omega arith)) (linked_out 0 count number (omega arith) (omega arith)))
      (strands_later (suc number) (next ∷ stages) strings later.1 (omega arith) (omega arith))
