-- The links of pieces one after another, where a table tells the stages that the labels define.
use Rattle.std.specs.Prelude.{ℕ, ◌<◌, List, [], ◌∷◌, ◌++◌, get_or, slice_get, option_and_then, option_map}
use Rattle.std.specs.declared.option.Option.{Option}
use Rattle.std.specs.declared.option.Option.TheVariants.{Some, None}
use Rattle.pipe_model.specs.declared.net.Link.{Link}
use Rattle.pipe_model.specs.Nets.{rendezvous}
use Rattle.spec_scanner.specs.declared.piece.Piece.{Piece}
use Rattle.spec_scanner.specs.declared.piece.PieceKind.{PieceKind}
use Rattle.spec_scanner.specs.declared.piece.PieceKind.TheVariants.{Stage, Reference, Connector}
use Rattle.net_graph.specs.declared.joins.Spot.{Spot}
use Rattle.net_graph.specs.Nets.{counted, counted_all}

-- the numbers of the stages are small
abbrev pub AreSmall : List ℕ → Type 0
AreSmall table = (i : ℕ) → get_or table i 0 < 65536

-- the stream that a piece stands for, where so many stages are defined before it
abbrev pub spot_by : List ℕ → ℕ → Piece → PieceKind → Option Spot
spot_by table before piece Stage = Some (record { stage = before; stream = 0 })
spot_by table before piece Reference = option_map (λ stage. record { stage = stage; stream = piece.uses }) (option_and_then (slice_get table) piece.label)
spot_by table before piece Connector = None

abbrev pub link_by : Option Spot → Option Spot → List Link
link_by (Some a) (Some b) = rendezvous a.stage a.stream b.stage b.stream ∷ []
link_by (Some a) None = []
link_by None b = []

-- the links of pieces after one that stands for this stream
abbrev pub links_by : List ℕ → Option Spot → ℕ → List Piece → List Link
links_by table previous before [] = []
links_by table previous before (piece ∷ pieces) =
    link_by previous (spot_by table before piece piece.kind) ++ links_by table (spot_by table before piece piece.kind) (counted before piece) pieces

-- the links of pipelines
abbrev pub links_by_all : List ℕ → ℕ → List (List Piece) → List Link
links_by_all table before [] = []
links_by_all table before (pieces ∷ pipelines) = links_by table None before pieces ++ links_by_all table (counted_all before pieces) pipelines

abbrev pub counted_past : ℕ → List (List Piece) → ℕ
counted_past before [] = before
counted_past before (pieces ∷ pipelines) = counted_past (counted_all before pieces) pipelines
