-- A walk along the pieces of a pipeline, as its stands.
use Rattle.std.proofs.Common.{◌≡◌, ℕ, ◌+◌, ◌<◌, ◌≤◌, Bool, true, false, nat_eq, List, [], ◌∷◌, ◌++◌, ◌∙◌, length, get_or, drop, refl, ap, sym, length-drop, arith, suc}
use Rattle.std.specs.declared.result.Result.{Result}
use Rattle.std.proofs.lemmas.Bool.Decides.{nat_tests}
use Rattle.std.proofs.lemmas.List.{drop_all, drop_more}
use Rattle.pipe_model.specs.declared.kind.Kind.{Kind}
use Rattle.stage_syntax.specs.declared.fault.KindFault.{KindFault}
use Rattle.spec_scanner.specs.declared.piece.Piece.{Piece}
use Rattle.spec_scanner.specs.declared.piece.PieceKind.{PieceKind}
use Rattle.spec_scanner.specs.declared.piece.PieceKind.TheVariants.{Stage, Reference, Connector}
use Rattle.net_graph.specs.declared.search.Search.{Search}
use Rattle.net_graph.specs.Searches.{after, stand}
use Rattle.net_graph.specs.Stands.{Stand, stages_of, stands_in, stands_of}

stands_one : (first : Bool) (piece : Piece) (rest : List Piece) → stands_in first (piece ∷ rest) ≡ stand piece first (nat_eq (length rest) 0) ∷ stands_in false rest
stands_one first piece [] = refl
stands_one first piece (next ∷ rest) =
    let some : nat_eq (suc (length rest)) 0 ≡ false = grind (arith, nat_tests) in
    ap (λ (last : Bool). stand piece first last ∷ stands_in false (next ∷ rest)) (sym some)

none_left : (rest : List Piece) → length rest ≡ 0 → rest ≡ []
none_left [] is = refl
none_left (piece ∷ rest) is = absurd (omega arith)

module _ (pieces : List Piece) (k : ℕ) where
  -- nothing is left
  pub stands_end : (first : Bool) → length pieces ≤ k → stands_in first (drop k pieces) ≡ []
  stands_end first above = ap (stands_in first) (none_left (drop k pieces) (omega (arith, length-drop k pieces)))

  module _ (piece : Piece) (is : piece ≡ get_or pieces k piece) (below : k < length pieces) where
    last_when : nat_eq (length (drop (k + 1) pieces)) 0 ≡ nat_eq (k + 1) (length pieces)
    last_when = let e = length-drop (k + 1) pieces in grind (arith, nat_tests)

    pub left_on : drop k pieces ≡ piece ∷ drop (k + 1) pieces
    left_on = drop_more pieces k piece below ∙ ap (λ (p : Piece). p ∷ drop (k + 1) pieces) (sym is)

    -- the stand of the piece at a place
    abbrev pub stand_here : Stand
    stand_here = stand piece (nat_eq k 0) (nat_eq (k + 1) (length pieces))

    -- the stands of what is left, one piece on: a piece stands first at the number 0
    pub stands_on : stands_in (nat_eq k 0) (drop k pieces) ≡ stand_here ∷ stands_in (nat_eq (k + 1) 0) (drop (k + 1) pieces)
    stands_on =
        let never : nat_eq (k + 1) 0 ≡ false = grind (arith, nat_tests) in
        ap (stands_in (nat_eq k 0)) left_on
        ∙ (stands_one (nat_eq k 0) piece (drop (k + 1) pieces)
        ∙ (ap (λ (last : Bool). stand piece (nat_eq k 0) last ∷ stands_in false (drop (k + 1) pieces)) last_when
        ∙ ap (λ (first : Bool). stand_here ∷ stands_in first (drop (k + 1) pieces)) (sym never)))

-- the count of stages after one stand
count_of_kind : (table : List ℕ) (outcomes : List (Result Kind KindFault)) (search : Search) (s : Stand) (rest : List Stand) (kind : PieceKind) → s.piece.kind ≡ kind →
    (after table outcomes search s kind).stages + length (stages_of rest) ≡ search.stages + length (stages_of (s ∷ rest))
count_of_kind table outcomes search s rest Stage is = rw is (omega arith)
count_of_kind table outcomes search s rest Reference is = rw is refl
count_of_kind table outcomes search s rest Connector is = rw is refl

pub count_on : (table : List ℕ) (outcomes : List (Result Kind KindFault)) (search : Search) (s : Stand) (rest all : List Stand) → all ≡ s ∷ rest →
    (after table outcomes search s s.piece.kind).stages + length (stages_of rest) ≡ search.stages + length (stages_of all)
count_on table outcomes search s rest all is = rw is (count_of_kind table outcomes search s rest s.piece.kind refl)

-- the stands of what is left of pipelines, one pipeline on
pub stands_past : (pipelines : List (List Piece)) (i : ℕ) (pieces : List Piece) → pieces ≡ get_or pipelines i pieces → i < length pipelines →
    stands_of (drop i pipelines) ≡ stands_in true pieces ++ stands_of (drop (i + 1) pipelines)
stands_past pipelines i pieces is below =
    ap stands_of (drop_more pipelines i pieces below) ∙ ap (λ (p : List Piece). stands_in true p ++ stands_of (drop (i + 1) pipelines)) (sym is)

pub no_stands : (pipelines : List (List Piece)) (i : ℕ) → length pipelines ≤ i → stands_of (drop i pipelines) ≡ []
no_stands pipelines i above = ap stands_of (drop_all i pipelines above)
