-- A walk that joins pieces.
use Rattle.std.proofs.Common.{◌≡◌, ℕ, suc, ◌+◌, ◌<◌, ◌≤◌, Bool, true, false, if◌then◌else◌, List, [], ◌∷◌, ◌∙◌, length, length-append, get_or, drop, refl, ap, sym, arith, slice_get, option_map, option_and_then, Option, Some, None}
use Rattle.std.proofs.lemmas.List.{drop_more}
use Rattle.std.proofs.lemmas.List.Elements.{filter-append}
use Rattle.spec_scanner.specs.declared.piece.Piece.{Piece}
use Rattle.spec_scanner.specs.declared.piece.PieceKind.{PieceKind}
use Rattle.spec_scanner.specs.declared.piece.PieceKind.TheVariants.{Stage, Reference, Connector}
use Rattle.net_graph.specs.declared.joins.Spot.{Spot}
use Rattle.net_graph.specs.Joins.{counted_past, link_by, links_by, links_by_all, spot_by}
use Rattle.net_graph.specs.Nets.{counted, counted_all, join_from, joins_from, joins_in}
use Rattle.net_graph.specs.Stands.{Stand, is_of_stage, is_stage, spot_of, stage_of, stages_of, stands_in, stands_of}
use Rattle.net_graph.specs.Stands.{Spot as At}
use Rattle.net_graph.specs.Searches.{stand}
use Rattle.net_graph.proofs.Searched.{table_is}

counted_least : (before : ℕ) (piece : Piece) → before ≤ counted before piece
counted_least before piece = by (is_of_stage piece.kind) where
  by : (is : Bool) → before ≤ (if is then suc before else before)
  by true = omega arith
  by false = omega arith

pub count_least : (before : ℕ) (pieces : List Piece) → before ≤ counted_all before pieces
count_least before [] = omega arith
count_least before (piece ∷ pieces) = omega (arith, counted_least before piece, count_least (counted before piece) pieces)

pub past_least : (before : ℕ) (pipelines : List (List Piece)) → before ≤ counted_past before pipelines
past_least before [] = omega arith
past_least before (pieces ∷ pipelines) = omega (arith, count_least before pieces, past_least (counted_all before pieces) pipelines)

-- what is left, one on
pub left_at : {A : Type 0} (all : List A) (k : ℕ) (one : A) → one ≡ get_or all k one → k < length all → drop k all ≡ one ∷ drop (k + 1) all
left_at {A = A} all k one is below = drop_more all k one below ∙ ap (λ (a : A). a ∷ drop (k + 1) all) (sym is)

-- the stream of a stage, as in the net's definition
abbrev as_spot : Spot → At
as_spot spot = record { stage = spot.stage; stream = spot.stream }

abbrev at_stage : Piece → ℕ → At
at_stage piece stage = record { stage = stage; stream = piece.uses }

abbrev by_stage : Piece → ℕ → Spot
by_stage piece stage = record { stage = stage; stream = piece.uses }

link_same : (a b : Option Spot) → link_by a b ≡ join_from (option_map as_spot a) (option_map as_spot b)
link_same (Some a) (Some b) = refl
link_same (Some a) None = refl
link_same None b = refl

module _ (stands : List Stand) (table : List ℕ) (labelled : (label : ℕ) → slice_get table label ≡ stage_of stands (Some label)) where
  of_label : (piece : Piece) (stage : Option ℕ) →
      option_map (at_stage piece) stage ≡ option_map as_spot (option_map (by_stage piece) stage)
  of_label piece None = refl
  of_label piece (Some s) = refl

  abbrev spot_at : ℕ → Piece → PieceKind → Option At
  spot_at before piece Stage = Some (record { stage = before; stream = 0 })
  spot_at before piece Reference = option_map (at_stage piece) (stage_of stands piece.label)
  spot_at before piece Connector = None

  of_kind : (before : ℕ) (piece : Piece) (kind : PieceKind) → spot_at before piece kind ≡ option_map as_spot (spot_by table before piece kind)
  of_kind before piece Stage = refl
  of_kind before piece Reference = rw (← table_is stands table labelled piece.label) (of_label piece (option_and_then (slice_get table) piece.label))
  of_kind before piece Connector = refl

  spot_same : (before : ℕ) (piece : Piece) → spot_of stands before piece ≡ option_map as_spot (spot_by table before piece piece.kind)
  spot_same before piece = of_kind before piece piece.kind

  links_after : (before : ℕ) (piece : Piece) (pieces : List Piece) →
      links_by table (spot_by table before piece piece.kind) (counted before piece) pieces ≡ joins_in stands before (piece ∷ pieces)
  links_after before piece [] = refl
  links_after before piece (next ∷ pieces) =
      let here = link_same (spot_by table before piece piece.kind) (spot_by table (counted before piece) next next.kind) in
      let rest = links_after (counted before piece) next pieces in
      rw (here, ← spot_same before piece, ← spot_same (counted before piece) next, rest) refl

  links_same : (before : ℕ) (pieces : List Piece) → links_by table None before pieces ≡ joins_in stands before pieces
  links_same before [] = refl
  links_same before (piece ∷ pieces) = links_after before piece pieces

  pub all_links_same : (before : ℕ) (pipelines : List (List Piece)) → links_by_all table before pipelines ≡ joins_from stands before pipelines
  all_links_same before [] = refl
  all_links_same before (pieces ∷ pipelines) = rw (links_same before pieces, all_links_same (counted_all before pieces) pipelines) refl

-- as many stages are counted as there are
count_one : (is : Bool) (before : ℕ) (count : ℕ → ℕ) (s : Stand) (rest : List Stand) → count (suc before) ≡ suc before + length rest → count before ≡ before + length rest →
    count (if is then suc before else before) ≡ before + length (if is then s ∷ rest else rest)
count_one true before count s rest more same = omega arith
count_one false before count s rest more same = same

count_same : (first : Bool) (before : ℕ) (pieces : List Piece) → counted_all before pieces ≡ before + length (stages_of (stands_in first pieces))
count_same first before [] = omega arith
count_same first before (piece ∷ []) = count_one (is_of_stage piece.kind) before (λ n. n) (stand piece first true) [] (omega arith) (omega arith)
count_same first before (piece ∷ (next ∷ pieces)) =
    count_one (is_of_stage piece.kind) before (λ n. counted_all n (next ∷ pieces)) (stand piece first false) (stages_of (stands_in false (next ∷ pieces)))
    (count_same false (suc before) (next ∷ pieces)) (count_same false before (next ∷ pieces))

pub past_same : (before : ℕ) (pipelines : List (List Piece)) → counted_past before pipelines ≡ before + length (stages_of (stands_of pipelines))
past_same before [] = omega arith
past_same before (pieces ∷ pipelines) =
    let here = count_same true before pieces in
    let past = past_same (counted_all before pieces) pipelines in
    let both = ap length (filter-append is_stage (stands_in true pieces) (stands_of pipelines)) in
    omega (arith, length-append (stages_of (stands_in true pieces)) (stages_of (stands_of pipelines)))
