-- The net of a straight line that is fed.
use Rattle.std.proofs.Common.{◌≡◌, ℕ, suc, ◌+◌, List, [], ◌∷◌, length, map, refl, ◌∙◌, ap, arith}
use Rattle.std.specs.List.{sum_by}
use Rattle.std.proofs.lemmas.List.Sums.{sum_by-cons}
use Rattle.outside.specs.Files.{Files}
use Rattle.pipe_model.specs.declared.net.Strand.{Strand}
use Rattle.net_graph.specs.Fed.{fed_strand}
use Rattle.net_graph.specs.Line.{first_strand, line_net, locate_strand, strands_from}
use Rattle.pipe_model.specs.Straight.{chain}
use Rattle.pipe_model.specs.Table.{line_of}
use Rattle.call_meaning.specs.Effects.{Before}
use Rattle.call_meaning.specs.Meaning.{fed_size, file_size, net_on}

-- its first strand reads the input, and no strand a file
others_read_no_file : (files : Files) (k : ℕ) (strings : List (List ℕ)) → sum_by (λ (p : Strand). file_size files (line_of p.kind).feed) (strands_from k strings) ≡ 0
others_read_no_file files k [] = refl
others_read_no_file files k (string ∷ strings) =
    sum_by-cons (λ (p : Strand). file_size files (line_of p.kind).feed) (locate_strand k string) (strands_from (suc k) strings) ∙ ap (λ n. 0 + n) (others_read_no_file files (suc k) strings)

pub line_size : (before : Before) (strings : List (List ℕ)) → fed_size before (line_net [] strings) ≡ length before.input
line_size before strings =
    let first = sum_by-cons (λ (p : Strand). file_size before.files (line_of p.kind).feed) (first_strand []) (strands_from 1 strings) in
    let others = others_read_no_file before.files 1 strings in
    omega (arith, first, others)

-- and no other strand is fed
others_unfed : (input : List ℕ) (files : Files) (k : ℕ) (strings : List (List ℕ)) → map (fed_strand input files) (strands_from k strings) ≡ strands_from k strings
others_unfed input files k [] = refl
others_unfed input files k (string ∷ strings) = ap (λ (rest : List Strand). locate_strand k string ∷ rest) (others_unfed input files (suc k) strings)

-- so it is the straight line that reads the bytes
pub line_fed : (before : Before) (strings : List (List ℕ)) → net_on before (line_net [] strings) ≡ line_net before.input strings
line_fed before strings = ap (λ (rest : List Strand). record { strands = first_strand before.input ∷ rest; links = chain 0 (length strings + 1) }) (others_unfed before.input before.files 1 strings)
