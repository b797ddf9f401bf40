-- Texts that read as they should, by computation.
use Rattle.std.proofs.Common.{◌≡◌, ℕ, suc, ◌==◌, if◌then◌else◌, List, [], ◌∷◌, length, map, codes, refl, Some, None}
use Rattle.spec_scanner.specs.declared.item.Item.{Item}
use Rattle.spec_scanner.specs.declared.item.Reading.TheVariants.{Plain, Separator, End}
use Rattle.spec_scanner.specs.declared.piece.Piece.{Piece}
use Rattle.spec_scanner.specs.declared.piece.PieceKind.TheVariants.{Stage, Connector}
use Rattle.spec_scanner.specs.declared.fault.Fault.{Fault}
use Rattle.spec_scanner.specs.declared.fault.SpecFaultKind.TheVariants.{NoPiece, EmptyStage, LabelTwice, UnknownLabel, BadLabel}
use Rattle.spec_scanner.specs.Faults.{fault}
use Rattle.spec_scanner.specs.Labels.{Read}
use Rattle.spec_scanner.specs.Reads.{read_items, body_faults}

abbrev items_of : ℕ → List ℕ → List Item
items_of at [] = []
items_of at (b ∷ bs) = record { byte = b; reading = if b == 124 then Separator else if b == 63 then End else Plain; place = at; after = suc at } ∷ items_of (suc at) bs

abbrev read : List ℕ → Read
read text = read_items (items_of 0 text) (length text)

abbrev faults : List ℕ → List Fault
faults text = body_faults (items_of 0 text) [] (length text)

abbrev two : List ℕ
two = codes "console | a: locate /x/ | console ? a: | locate /y/"

none_of_two : faults two ≡ []
none_of_two = refl

names_of_two : map (map (λ (p : Piece). p.name)) (read two).pipelines ≡ (codes "console" ∷ (codes "locate" ∷ (codes "console" ∷ []))) ∷ (([] ∷ (codes "locate" ∷ [])) ∷ [])
names_of_two = refl

labels_of_two : map (map (λ (p : Piece). p.label)) (read two).pipelines ≡ (None ∷ (Some 0 ∷ (None ∷ []))) ∷ ((Some 0 ∷ (None ∷ [])) ∷ [])
labels_of_two = refl

places_of_two : map (map (λ (p : Piece). p.place)) (read two).pipelines ≡ (0 ∷ (10 ∷ (26 ∷ []))) ∷ ((36 ∷ (41 ∷ [])) ∷ [])
places_of_two = refl

ends_of_two : map (map (λ (p : Piece). p.arg.end)) (read two).pipelines ≡ (7 ∷ (23 ∷ (33 ∷ []))) ∷ ((38 ∷ (51 ∷ [])) ∷ [])
ends_of_two = refl

one_bar : faults (codes "|") ≡ fault EmptyStage 0 ∷ (fault EmptyStage 1 ∷ (fault NoPiece 1 ∷ []))
one_bar = refl

empty : faults [] ≡ fault NoPiece 0 ∷ []
empty = refl

ignored : faults (codes "  ? x ") ≡ []
ignored = refl

bad : faults (codes "a b:c | ab-c: x | : | abcdefghi: y") ≡ fault BadLabel 8 ∷ (fault BadLabel 18 ∷ (fault BadLabel 22 ∷ []))
bad = refl

twice : faults (codes "a: x | a: y | b: | a:") ≡ fault LabelTwice 7 ∷ (fault UnknownLabel 14 ∷ [])
twice = refl

stars : map (map (λ (p : Piece). p.kind)) (read (codes "*: x | *.input.0: | a: *: | b: c: d")).pipelines ≡ (Connector ∷ (Connector ∷ (Stage ∷ (Stage ∷ [])))) ∷ []
stars = refl
