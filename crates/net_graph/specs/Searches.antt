-- The search for the least fault, piece by piece: what it keeps of the pieces that it passed.
use Rattle.std.specs.Prelude.{ℕ, suc, ◌&&◌, ◌||◌, Bool, not, if◌then◌else◌, List, [], ◌∷◌, take, slice_get, option_and_then}
use Rattle.std.specs.declared.result.Result.{Result}
use Rattle.std.specs.declared.option.Option.{Option}
use Rattle.std.specs.declared.option.Option.TheVariants.{Some}
use Rattle.pipe_model.specs.declared.kind.Kind.{Kind}
use Rattle.stage_syntax.specs.declared.fault.KindFault.{KindFault}
use Rattle.spec_scanner.specs.declared.fault.Fault.{Fault}
use Rattle.spec_scanner.specs.declared.piece.Piece.{Piece}
use Rattle.spec_scanner.specs.declared.piece.PieceKind.{PieceKind}
use Rattle.spec_scanner.specs.declared.piece.PieceKind.TheVariants.{Stage, Reference, Connector}
use Rattle.spec_scanner.specs.declared.fault.SpecFaultKind.TheVariants.{SecondConsole, MisplacedConnector}
use Rattle.spec_scanner.specs.Faults.{fault, least}
use Rattle.net_graph.specs.declared.search.Search.{Search}
use Rattle.net_graph.specs.Faults.{file_faults, first_faults, is_console, kind_at, kind_faults, stage_faults, stream_faults}
use Rattle.net_graph.specs.Stands.{Stand}

-- the least of a fault found before, if any, and others
abbrev pub noted : Option Fault → List Fault → Option Fault
noted found [] = found
noted found (fault ∷ faults) = noted (Some (least found fault)) faults

-- a stand of a piece
abbrev pub stand : Piece → Bool → Bool → Stand
stand piece first last = record { piece = piece; first = first; last = last }

-- the kind of the stage that a label defines, by a table of the labels' stages
abbrev pub labelled_kind : List ℕ → List (Result Kind KindFault) → Option ℕ → Option Kind
labelled_kind table outcomes label = option_and_then (kind_at outcomes) (option_and_then (slice_get table) label)

-- the second CONSOLE of its kind
abbrev pub second_faults : Search → Stand → List Fault
second_faults search stand = if is_console stand.piece && (if stand.first then search.reads else search.writes) then fault SecondConsole stand.piece.name_place ∷ [] else []

-- the search after one stand
abbrev pub after : List ℕ → List (Result Kind KindFault) → Search → Stand → PieceKind → Search
after table outcomes search stand Stage = record {
  found = noted (noted (noted (noted (noted search.found (stage_faults search.stages stand)) (kind_faults stand (slice_get outcomes search.stages))) (first_faults stand)) (second_faults search stand)) (file_faults (take search.stages outcomes) stand (slice_get outcomes search.stages));
  stages = suc search.stages;
  reads = search.reads || (is_console stand.piece && stand.first);
  writes = search.writes || (is_console stand.piece && not stand.first);
}
after table outcomes search stand Reference = record search { found = noted search.found (stream_faults stand (labelled_kind table outcomes stand.piece.label)) }
after table outcomes search stand Connector = record search { found = noted search.found (fault MisplacedConnector stand.piece.place ∷ []) }

-- the search after stands
abbrev pub after_all : List ℕ → List (Result Kind KindFault) → Search → List Stand → Search
after_all table outcomes search [] = search
after_all table outcomes search (stand ∷ stands) = after_all table outcomes (after table outcomes search stand stand.piece.kind) stands
