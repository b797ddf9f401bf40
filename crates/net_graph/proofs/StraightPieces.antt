-- The pieces of a straight line: stages without labels, each a CONSOLE or a LOCATE of a string.
use Rattle.std.proofs.Common.{◌≡◌, ℕ, suc, Bool, true, false, List, [], ◌∷◌, length, map, refl, ap, None, count_by, append-nil}
use Rattle.spec_scanner.specs.declared.piece.Piece.{Piece}
use Rattle.spec_scanner.proofs.StraightStages.{AreLater}
use Rattle.spec_scanner.proofs.StraightWords.{Spelled, piece_of}
use Rattle.net_graph.specs.Stands.{refers_to, stages_of, stands_in, stands_of, streams_of}

-- the pieces of stages without labels
abbrev pub pieces_of : List Spelled → List Piece
pieces_of stages = map piece_of stages

-- one stage more than strings
pub length-later : (stages : List Spelled) (strings : List (List ℕ)) → AreLater stages strings → length stages ≡ suc (length strings)
length-later [] strings later = absurd later
length-later (stage ∷ []) [] later = refl
length-later (stage ∷ []) (string ∷ strings) later = absurd later
length-later (stage ∷ (next ∷ stages)) [] later = absurd later
length-later (stage ∷ (next ∷ stages)) (string ∷ strings) later = ap suc (length-later (next ∷ stages) strings later.1)

-- the stands of one pipeline
pub stands_of_one : (stages : List Spelled) → stands_of (pieces_of stages ∷ []) ≡ stands_in true (pieces_of stages)
stands_of_one stages = append-nil (stands_in true (pieces_of stages))

-- each stand is a stage
pub all_stages : (first : Bool) (stages : List Spelled) → stages_of (stands_in first (pieces_of stages)) ≡ stands_in first (pieces_of stages)
all_stages first [] = refl
all_stages first (stage ∷ []) = refl
all_stages first (stage ∷ (next ∷ stages)) =
    ap (λ stands. record { piece = piece_of stage; first = first; last = false } ∷ stands) (all_stages false (next ∷ stages))

-- no stand refers to a label
none_refers : (first : Bool) (stages : List Spelled) → count_by (refers_to None) (stands_in first (pieces_of stages)) ≡ 0
none_refers first [] = refl
none_refers first (stage ∷ []) = refl
none_refers first (stage ∷ (next ∷ stages)) = none_refers false (next ∷ stages)

-- so each stage has one stream
pub one_stream : (first : Bool) (stages : List Spelled) → streams_of (stands_in first (pieces_of stages)) None ≡ 1
one_stream first stages = ap suc (none_refers first stages)
