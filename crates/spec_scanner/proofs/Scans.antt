-- A text that was read, and what refuses one.
use Rattle.std.proofs.Common.{◌≡◌, ℕ, ◌-◌, ◌<◌, ◌≤◌, ◌||◌, Bool, true, false, List, [], ◌∷◌, ◌++◌, length, refl, ap, ◌∙◌, sym, subst, arith, None, Option, inl, nat_lt, lt-ltb, append_assoc, length-append}
use Rattle.std.specs.List.{list_any}
use Rattle.spec_scanner.specs.declared.fault.Fault.{Fault}
use Rattle.spec_scanner.specs.declared.findings.Findings.{Findings}
use Rattle.spec_scanner.specs.declared.item.Item.{Item}
use Rattle.spec_scanner.specs.declared.piece.Piece.{Piece}
use Rattle.spec_scanner.specs.declared.signs.Signs.{Signs}
use Rattle.spec_scanner.specs.Additions.{AddsRead}
use Rattle.spec_scanner.specs.Body.{IsBody}
use Rattle.spec_scanner.specs.declared.fault.SpecFaultKind.TheVariants.{NoPiece, LoneEscape, TooLong}
use Rattle.spec_scanner.specs.Faults.{IsLeast, IsLeastSo, fault, least}
use Rattle.spec_scanner.specs.Labels.{Label, read_pipelines}
use Rattle.spec_scanner.specs.Reads.{IsRefused, body_faults, longest, no_escaped, no_piece, read_items}
use Rattle.spec_scanner.specs.Stretches.{cut, is_end}
use Rattle.spec_scanner.proofs.Leasts.{least_more, least_one}
use Rattle.spec_scanner.proofs.Bodies.{spelled}

-- one fault more, by what it is
pub noted_least : (found : Option Fault) (other result : Fault) (faults more : List Fault) → result ≡ least found other → more ≡ other ∷ [] → IsLeastSo found faults → IsLeast result (faults ++ more)
noted_least found other result faults more is one so =
    subst (λ least. IsLeast least (faults ++ more)) (sym is) (subst (λ more. IsLeast (least found other) (faults ++ more)) (sym one) (least_more found other faults so))

-- a tail is an escape character
pub one_escaped : (tail : List ℕ) (size : ℕ) → true ≡ nat_lt 0 (length tail) → no_escaped tail size ≡ fault LoneEscape (size - 1) ∷ []
one_escaped [] size some = cc
one_escaped (byte ∷ bytes) size some = refl

-- whether a pipeline has a piece
abbrev pub has_some : List Piece → Bool
has_some pieces = nat_lt 0 (length pieces)

pub some_piece : (pipelines : List (List Piece)) (size : ℕ) → list_any has_some pipelines ≡ true → no_piece pipelines size ≡ []
some_piece [] size some = cc
some_piece ([] ∷ pipelines) size some = some_piece pipelines size some
some_piece ((piece ∷ pieces) ∷ pipelines) size some = refl

pub no_piece_at_all : (pipelines : List (List Piece)) (size : ℕ) → list_any has_some pipelines ≡ false → no_piece pipelines size ≡ fault NoPiece size ∷ []
no_piece_at_all [] size none = refl
no_piece_at_all ([] ∷ pipelines) size none = no_piece_at_all pipelines size none
no_piece_at_all ((piece ∷ pieces) ∷ pipelines) size none =
    let some = ap (λ b. b || list_any has_some pipelines) (lt-ltb 0 (length (piece ∷ pieces)) (omega arith)) in cc

-- the least fault of a body, as it is found
pub body_least : (items : List Item) (tail : List ℕ) (size : ℕ) (labels : List Label) (new : Findings) (pipelines shown : List (List Piece)) (first last : Option Fault) → labels ≡ []
    → AddsRead (record { labels = labels; fault = None }) new [] pipelines (read_pipelines labels (cut is_end items size)) → shown ≡ pipelines
    → ((faults : List Fault) → IsLeastSo new.fault faults → IsLeastSo first (faults ++ no_escaped tail size))
    → ((faults : List Fault) → IsLeastSo first faults → IsLeastSo last (faults ++ no_piece shown size))
    → IsLeastSo last (body_faults items tail size)
body_least items tail size labels new pipelines shown first last none added are escaped pieces =
    let read = subst (λ labels. AddsRead (record { labels = labels; fault = None }) new [] pipelines (read_pipelines labels (cut is_end items size))) none added in
    let all : shown ≡ (read_items items size).pipelines = are ∙ read.all_are in
    subst (IsLeastSo last) (append_assoc (read_items items size).faults (no_escaped tail size) (no_piece (read_items items size).pipelines size))
    (subst (λ ps. IsLeastSo last (((read_items items size).faults ++ no_escaped tail size) ++ no_piece ps size)) all
    (pieces ((read_items items size).faults ++ no_escaped tail size) (escaped (read_items items size).faults (read.least [] refl))))

-- a body has no more items than bytes
pub items_in_text : (signs : Signs) (at : ℕ) (text : List ℕ) (items : List Item) (tail : List ℕ) → IsBody signs at text items tail → length items ≤ length text
items_in_text signs at text [] tail body = omega arith
items_in_text signs at text (item ∷ items) tail body =
    let read = body.1 in
    omega (arith, ap length read.text_is, length-append read.spelling body.0, spelled signs item.reading item.byte read.spelling read.spells, items_in_text signs item.after body.0 items tail body.2)

-- too many bytes
pub too_long : (text : List ℕ) → longest < length text → IsRefused text (fault TooLong longest)
too_long text long = record { faults = fault TooLong longest ∷ []; faults_are = inl (long, refl); least_is = least_one (fault TooLong longest) }
