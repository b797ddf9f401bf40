-- The net of a straight line: CONSOLE, a LOCATE for each string, CONSOLE.
use Rattle.std.specs.Prelude.{ℕ, suc, ◌+◌, true, false, List, [], ◌∷◌, length}
use Rattle.std.specs.declared.option.Option.TheVariants.{Some}
use Rattle.pipe_model.specs.declared.net.Net.{Net}
use Rattle.pipe_model.specs.declared.net.Strand.{Strand}
use Rattle.pipe_model.specs.declared.kind.Kind.TheVariants.{ConsoleIn, ConsoleOut, Locate}
use Rattle.pipe_model.specs.Nets.{strand, net_from}
use Rattle.pipe_model.specs.Straight.{all_columns, chain}

-- the CONSOLE that reads
abbrev pub first_strand : List ℕ → Strand
first_strand bytes = strand 0 (ConsoleIn bytes) [] (true ∷ [])

-- LOCATE of a string in the whole record
abbrev pub locate_strand : ℕ → List ℕ → Strand
locate_strand k string = strand k (Locate all_columns (Some string)) (true ∷ []) (true ∷ [])

-- the CONSOLE that writes
abbrev pub last_strand : ℕ → Strand
last_strand k = strand k ConsoleOut (true ∷ []) (false ∷ [])

-- a LOCATE for each string, and the last CONSOLE, from a number on
abbrev pub strands_from : ℕ → List (List ℕ) → List Strand
strands_from k [] = last_strand k ∷ []
strands_from k (string ∷ strings) = locate_strand k string ∷ strands_from (suc k) strings

-- the net of the straight line that reads these bytes and has LOCATEs of these strings
abbrev pub line_net : List ℕ → List (List ℕ) → Net
line_net bytes strings = net_from (first_strand bytes ∷ strands_from 1 strings) (chain 0 (length strings + 1))
