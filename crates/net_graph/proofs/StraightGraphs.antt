-- The pieces of a straight line are its net.
use Rattle.std.proofs.Common.{◌≡◌, ℕ, zero, suc, ◌+◌, ◌≤◌, true, List, [], ◌∷◌, length, map, refl, sym, ap, ap₂, ◌∙◌, arith, append-nil, add-one, Ok, None}
use Rattle.pipe_model.specs.declared.kind.Kind.{Kind}
use Rattle.pipe_model.specs.declared.kind.Kind.TheVariants.{ConsoleIn}
use Rattle.pipe_model.specs.declared.net.Link.{Link}
use Rattle.pipe_model.specs.declared.net.Net.{Net}
use Rattle.pipe_model.specs.declared.net.Strand.{Strand}
use Rattle.pipe_model.specs.Nets.{rendezvous}
use Rattle.pipe_model.specs.Straight.{chain}
use Rattle.spec_scanner.proofs.StraightReads.{line_read}
use Rattle.spec_scanner.proofs.StraightStages.{AreLater, IsConsoleStage}
use Rattle.spec_scanner.proofs.StraightWords.{Spelled}
use Rattle.spec_scanner.specs.declared.piece.Piece.{Piece}
use Rattle.spec_scanner.specs.Reads.{Reads}
use Rattle.spec_scanner.specs.Straight.{IsStraight}
use Rattle.spec_scanner.proofs.StraightParts.{length-locates}
use Rattle.net_graph.specs.Faults.{IsGraph}
use Rattle.net_graph.specs.Line.{first_strand, line_net, strands_from as line_from}
use Rattle.net_graph.specs.Nets.{AreOutcomes, joins_from, joins_in, sizes_of}
use Rattle.net_graph.proofs.WholeNets.{whole_net, whole_strands}
use Rattle.net_graph.specs.Stands.{Stand, stages_of, stands_in, stands_of, streams_of}
use Rattle.net_graph.proofs.StraightChains.{links_later}
use Rattle.net_graph.proofs.StraightFaults.{ReplaceNone, line_faultless}
use Rattle.net_graph.proofs.StraightKinds.{console_is, kinds_later, later_are, later_replace_none, later_whole}
use Rattle.net_graph.proofs.StraightPieces.{all_stages, one_stream, pieces_of, stands_of_one}
use Rattle.net_graph.proofs.StraightStrands.{first_is, strands_later}
use Rattle.net_graph.proofs.WholeStages.{AreWhole, whole_same}

-- the kinds of the stages
abbrev kinds_of : List (List ℕ) → List Kind
kinds_of strings = ConsoleIn [] ∷ kinds_later strings

kinds_whole : (stands stages : List Stand) (strings : List (List ℕ)) → AreWhole (sizes_of stands stages (kinds_of strings))
kinds_whole stands [] strings = tt
kinds_whole stands (stage ∷ stages) strings = (refl, later_whole stands stages strings)

replace_none : (strings : List (List ℕ)) → ReplaceNone (kinds_of strings)
replace_none strings zero = refl
replace_none strings (suc number) = later_replace_none strings number

module _ (first : Spelled) (stages : List Spelled) (strings : List (List ℕ)) (console : IsConsoleStage first) (later : AreLater stages strings) where
  -- the links are a chain
  links_are : (stands : List Stand) → joins_from stands 0 (pieces_of (first ∷ stages) ∷ []) ≡ chain 0 (length strings + 1)
  links_are stands = rw (add-one (length strings)) (append-nil (joins_in stands 0 (pieces_of (first ∷ stages))) ∙ from_first stages strings later) where
    from_first : (stages : List Spelled) (strings : List (List ℕ)) → AreLater stages strings → joins_in stands 0 (pieces_of (first ∷ stages)) ≡ chain 0 (suc (length strings))
    from_first [] strings later = absurd later
    from_first (stage ∷ stages) strings later =
        ap (λ links. rendezvous 0 0 1 0 ∷ links) (links_later stands 1 (stage ∷ stages) strings later)

  -- the strands are those of the line
  strands_are : (stands : List Stand) → stands ≡ stands_in true (pieces_of (first ∷ stages))
      → whole_strands stands (chain 0 (length strings + 1)) 0 (stands_in true (pieces_of (first ∷ stages))) (kinds_of strings) ≡ first_strand [] ∷ line_from 1 strings
  strands_are stands is = from_first stages strings later (rw is (one_stream true (first ∷ stages))) where
    from_first : (stages : List Spelled) (strings : List (List ℕ)) → AreLater stages strings → streams_of stands None ≡ 1
        → whole_strands stands (chain 0 (length strings + 1)) 0 (stands_in true (pieces_of (first ∷ stages))) (kinds_of strings) ≡ first_strand [] ∷ line_from 1 strings
    from_first [] strings later single = absurd later
    from_first (stage ∷ stages) strings later single =
        ap₂ (λ strand strands. strand ∷ strands) (first_is stands (length strings + 1) single [] (omega arith))
        (strands_later stands (length strings + 1) single 1 (stage ∷ stages) strings later (omega arith) (omega arith))

  -- the outcomes are the kinds
  outcomes_are : AreOutcomes (stands_in true (pieces_of (first ∷ stages))) (map (λ kind. Ok kind) (kinds_of strings))
  outcomes_are = from_first stages strings later where
    from_first : (stages : List Spelled) (strings : List (List ℕ)) → AreLater stages strings → AreOutcomes (stands_in true (pieces_of (first ∷ stages))) (map (λ kind. Ok kind) (kinds_of strings))
    from_first [] strings later = absurd later
    from_first (stage ∷ stages) strings later = (console_is first true console, later_are (stage ∷ stages) strings later)

  -- the net is the line's
  net_is_line : whole_net (pieces_of (first ∷ stages) ∷ []) (kinds_of strings) ≡ line_net [] strings
  net_is_line =
      let one = stands_of_one (first ∷ stages) in
      let all : stages_of (stands_of (pieces_of (first ∷ stages) ∷ [])) ≡ stands_in true (pieces_of (first ∷ stages)) = ap stages_of one ∙ all_stages true (first ∷ stages) in
      let links = links_are (stands_of (pieces_of (first ∷ stages) ∷ [])) in
      ap₂ (λ (strands : List Strand) (links : List Link). let net : Net = record { strands = strands; links = links } in net)
      (ap₂ (λ links stands. whole_strands (stands_of (pieces_of (first ∷ stages) ∷ [])) links 0 stands (kinds_of strings)) links all
      ∙ strands_are (stands_of (pieces_of (first ∷ stages) ∷ [])) one)
      links

  read_are : AreOutcomes (stages_of (stands_of (pieces_of (first ∷ stages) ∷ []))) (map (λ kind. Ok kind) (kinds_of strings))
  read_are = rw (stands_of_one (first ∷ stages)) (rw (all_stages true (first ∷ stages)) outcomes_are)

  -- a straight line of at most 1,022 LOCATEs is its net
  pub line_graph : length strings ≤ 1022 → IsGraph (pieces_of (first ∷ stages) ∷ []) (line_net [] strings)
  line_graph few =
      let one = stands_of_one (first ∷ stages) in
      record {
        kinds = kinds_of strings;
        read = read_are;
        good = rw one (line_faultless (stands_in true (pieces_of (first ∷ stages))) (kinds_of strings) (replace_none strings) first stages strings console later (omega arith));
        net_is = sym (whole_same (pieces_of (first ∷ stages) ∷ []) (kinds_of strings) (kinds_whole (stands_of (pieces_of (first ∷ stages) ∷ [])) (stages_of (stands_of (pieces_of (first ∷ stages) ∷ []))) strings) read_are ∙ net_is_line);
      }

-- the text of a straight line makes its net
pub straight_graph : (text : List ℕ) (strings : List (List ℕ)) → IsStraight text strings → (pipelines : List (List Piece)) × Reads text pipelines × IsGraph pipelines (line_net [] strings)
straight_graph text strings line =
    let read = line_read text strings line in
    let few : length strings ≤ 1022 = omega (arith, length-locates line.middle strings line.locates, line.few) in
    (pieces_of (read.first ∷ read.stages) ∷ [], read.reads, line_graph read.first read.stages strings read.console read.later few)
