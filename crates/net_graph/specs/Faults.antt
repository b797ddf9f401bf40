-- The faults of a specification whose pieces are read.
use Rattle.std.specs.Prelude.{◌≡◌, ℕ, ◌&&◌, ◌||◌, Bool, true, false, not, if◌then◌else◌, List, [], ◌∷◌, ◌++◌, length, map, take, nat_lt, codes, slice_get, option_and_then, Ok, Err, ⊤}
use Rattle.std.specs.declared.result.Result.{Result}
use Rattle.std.specs.Str.{bytes_eq, str_to_ascii_lowercase}
use Rattle.std.specs.List.{list_any}
use Rattle.std.specs.Option.{option_map_or}
use Rattle.std.specs.declared.option.Option.{Option}
use Rattle.std.specs.declared.option.Option.TheVariants.{Some, None}
use Rattle.pipe_model.specs.declared.kind.Kind.{Kind}
use Rattle.pipe_model.specs.declared.kind.Kind.TheVariants as Kinds
use Rattle.pipe_model.specs.declared.net.Net.{Net}
use Rattle.argument_parts.specs.Fault.{number_of}
use Rattle.stage_syntax.specs.declared.fault.KindFault.{KindFault}
use Rattle.stage_syntax.specs.declared.fault.KindFault.TheVariants.{Unknown, Argument, NoMemory}
use Rattle.spec_scanner.specs.declared.piece.Piece.{Piece}
use Rattle.spec_scanner.specs.declared.piece.PieceKind.{PieceKind}
use Rattle.spec_scanner.specs.declared.piece.PieceKind.TheVariants.{Stage, Reference, Connector}
use Rattle.spec_scanner.specs.declared.fault.Fault.{Fault}
use Rattle.spec_scanner.specs.declared.fault.SpecFaultKind.TheVariants.{UnknownStage, BadArguments, NoSuchStream, NotFirst, SecondConsole, TooManyStages, MisplacedConnector, SecondFile}
use Rattle.spec_scanner.specs.Faults.{IsLeast, fault}
use Rattle.net_graph.specs.declared.fault.NetFault.{NetFault}
use Rattle.net_graph.specs.declared.fault.NetFault.TheVariants as Net
use Rattle.net_graph.specs.Stands.{Stand, is_stage, stage_of, stages_of, stands_of}
use Rattle.net_graph.specs.Nets.{AreOutcomes, inputs_of, net_of, outputs_of}

-- at most 1,024 stages
abbrev pub most_stages : ℕ
most_stages = 1024

-- at most 64 streams
abbrev pub most_streams : ℕ
most_streams = 64

abbrev pub stage_faults : ℕ → Stand → List Fault
stage_faults number stand = if nat_lt number most_stages then [] else fault TooManyStages stand.piece.place ∷ []

-- the name is unknown, or the arguments aren't of its form
abbrev pub kind_faults : Stand → Option (Result Kind KindFault) → List Fault
kind_faults stand (Some (Err Unknown)) = fault UnknownStage stand.piece.name_place ∷ []
kind_faults stand (Some (Err (Argument misfit))) = record (fault BadArguments misfit.place) { argument = number_of misfit.kind } ∷ []
kind_faults stand (Some (Err NoMemory)) = []
kind_faults stand (Some (Ok kind)) = []
kind_faults stand None = []

abbrev pub is_console : Piece → Bool
is_console piece = bytes_eq (str_to_ascii_lowercase piece.name) (codes "console")

abbrev pub is_same : Bool → Bool → Bool
is_same true other = other
is_same false other = not other

-- CONSOLE, first in its pipeline or not, as an earlier one
abbrev pub console_faults : List Stand → Stand → List Fault
console_faults earlier stand =
    if is_console stand.piece && list_any (λ other. is_console other.piece && is_same stand.first other.first) earlier
    then fault SecondConsole stand.piece.name_place ∷ [] else []

-- `<` anywhere but first in its pipeline
abbrev pub is_file_reader : Piece → Bool
is_file_reader piece = bytes_eq piece.name (codes "<")

abbrev pub first_faults : Stand → List Fault
first_faults stand = if is_file_reader stand.piece && not stand.first then fault NotFirst stand.piece.name_place ∷ [] else []

-- the kind of a stage, where it has one
abbrev pub kind_at : List (Result Kind KindFault) → ℕ → Option Kind
kind_at outcomes stage = option_and_then kind (slice_get outcomes stage) where
  kind : Result Kind KindFault → Option Kind
  kind (Ok found) = Some found
  kind (Err fault) = None

-- a later use is of a stream that there can't be: it connects an input or an output past the kind's own number
abbrev pub is_past : Stand → Option Kind → Bool
is_past stand None = false
is_past stand (Some kind) =
    (not stand.first && not (nat_lt stand.piece.uses (inputs_of kind)))
    || (not stand.last && not (nat_lt stand.piece.uses (outputs_of kind)))

abbrev pub stream_faults : Stand → Option Kind → List Fault
stream_faults stand kind = if not (nat_lt stand.piece.uses most_streams) || is_past stand kind then fault NoSuchStream stand.piece.place ∷ [] else []

-- the file that a stage replaces
abbrev pub replaced_by : Result Kind KindFault → Option (List ℕ)
replaced_by (Ok (Kinds.FileOut name)) = Some name
replaced_by _ = None

-- the stage replaces this file
abbrev pub replaces : List ℕ → Result Kind KindFault → Bool
replaces name outcome = option_map_or (λ other. bytes_eq other name) (replaced_by outcome) false

-- `>` of a file that one of these stages before it replaces
abbrev pub is_second_file : List (Result Kind KindFault) → Option (List ℕ) → Bool
is_second_file earlier None = false
is_second_file earlier (Some name) = list_any (replaces name) earlier

abbrev pub file_faults : List (Result Kind KindFault) → Stand → Option (Result Kind KindFault) → List Fault
file_faults earlier stand outcome = if is_second_file earlier (option_and_then replaced_by outcome) then fault SecondFile stand.piece.name_place ∷ [] else []

-- the faults of one stand, after these stages
abbrev pub faults_of_kind : List Stand → List (Result Kind KindFault) → List Stand → Stand → PieceKind → List Fault
faults_of_kind stands outcomes earlier stand Stage =
    stage_faults (length earlier) stand
    ++ (kind_faults stand (slice_get outcomes (length earlier))
    ++ (first_faults stand
    ++ (console_faults earlier stand
    ++ file_faults (take (length earlier) outcomes) stand (slice_get outcomes (length earlier)))))
faults_of_kind stands outcomes earlier stand Reference =
    stream_faults stand (option_and_then (kind_at outcomes) (stage_of stands stand.piece.label))
faults_of_kind stands outcomes earlier stand Connector = fault MisplacedConnector stand.piece.place ∷ []

-- the faults of stands one by one, after these stages
abbrev pub faults_from : List Stand → List (Result Kind KindFault) → List Stand → List Stand → List Fault
faults_from stands outcomes earlier [] = []
faults_from stands outcomes earlier (stand ∷ rest) =
    faults_of_kind stands outcomes earlier stand stand.piece.kind
    ++ faults_from stands outcomes (if is_stage stand then earlier ++ stand ∷ [] else earlier) rest

abbrev pub faults_of : List (List Piece) → List (Result Kind KindFault) → List Fault
faults_of pipelines outcomes = faults_from (stands_of pipelines) outcomes [] (stands_of pipelines)

-- the stages are of these kinds, and the specification has no fault
pub record IsGraph (pipelines : List (List Piece)) (net : Net) : Type 0 where
  pub kinds : List Kind
  pub read : AreOutcomes (stages_of (stands_of pipelines)) (map (λ kind. Ok kind) kinds)
  pub good : faults_of pipelines (map (λ kind. Ok kind) kinds) ≡ []
  pub net_is : net ≡ net_of pipelines kinds

-- this is the least fault of the specification
pub record IsRefused (pipelines : List (List Piece)) (least : Fault) : Type 0 where
  pub outcomes : List (Result Kind KindFault)
  pub read : AreOutcomes (stages_of (stands_of pipelines)) outcomes
  pub least_is : IsLeast least (faults_of pipelines outcomes)

-- the specification is refused for this reason; want of memory may come in any case
abbrev pub Refuses : List (List Piece) → NetFault → Type 0
Refuses pipelines (Net.Refused number argument place) = IsRefused pipelines (record { number = number; argument = argument; place = place })
Refuses pipelines Net.NoMemory = ⊤
