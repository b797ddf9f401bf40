-- Pieces and their later uses, in walks of two parts.
use Rattle.std.proofs.Common.{◌≡◌, ℕ, ◌+◌, ◌<◌, List, [], ◌∷◌, ◌++◌, ◌∙◌, length, get_or, drop, refl, ap, sym, append_assoc}
use Rattle.std.proofs.lemmas.List.{drop_more}
use Rattle.spec_scanner.specs.declared.piece.Piece.{Piece}
use Rattle.net_graph.specs.Numbered.{AreNumbered, pieces_of, uses_after}
use Rattle.net_graph.specs.Uses.{later_by, later_of, uses_past}

pub pieces_past : (pipelines : List (List Piece)) (i : ℕ) (pieces : List Piece) → pieces ≡ get_or pipelines i pieces → i < length pipelines →
    pieces_of (drop i pipelines) ≡ pieces ++ pieces_of (drop (i + 1) pipelines)
pieces_past pipelines i pieces is below =
    ap pieces_of (drop_more pipelines i pieces below) ∙ ap (λ (p : List Piece). p ++ pieces_of (drop (i + 1) pipelines)) (sym is)

pub uses_both : (uses : List ℕ) (pieces more : List Piece) → uses_past uses (pieces ++ more) ≡ uses_past (uses_past uses pieces) more
uses_both uses [] more = refl
uses_both uses (piece ∷ pieces) more = uses_both (uses_after uses piece.kind piece.label) pieces more

pub numbered_left : (uses : List ℕ) (pieces more : List Piece) → AreNumbered uses (pieces ++ more) → AreNumbered uses pieces
numbered_left uses [] more all = tt
numbered_left uses (piece ∷ pieces) more all = (all.0, numbered_left (uses_after uses piece.kind piece.label) pieces more all.1)

pub numbered_right : (uses : List ℕ) (pieces more : List Piece) → AreNumbered uses (pieces ++ more) → AreNumbered (uses_past uses pieces) more
numbered_right uses [] more all = all
numbered_right uses (piece ∷ pieces) more all = numbered_right (uses_after uses piece.kind piece.label) pieces more all.1

pub later_both : (uses : List ℕ) (pieces more : List Piece) → later_by uses (pieces ++ more) ≡ later_by uses pieces ++ later_by uses more
later_both uses [] more = refl
later_both uses (piece ∷ pieces) more =
    ap (λ (rest : List ℕ). later_of uses piece.kind piece.label ++ rest) (later_both uses pieces more)
    ∙ sym (append_assoc (later_of uses piece.kind piece.label) (later_by uses pieces) (later_by uses more))

pub later_past : (uses old new : List ℕ) (slice pieces left more : List Piece) → slice ≡ pieces → left ≡ pieces ++ more → new ≡ old ++ later_by uses slice →
    new ++ later_by uses more ≡ old ++ later_by uses left
later_past uses old new slice pieces left more slice_is left_is new_is =
    rw (new_is, slice_is, left_is, later_both uses pieces more) (append_assoc old (later_by uses pieces) (later_by uses more))
