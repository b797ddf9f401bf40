-- A stage's text as a label, a name and an argument.
use Rattle.std.specs.Prelude.{ℕ, ◌+◌, ◌==◌, ◌&&◌, Bool, false, not, if◌then◌else◌, List, [], length, map, drop, slice_get, option_map, nat_lt}
use Rattle.std.specs.Char.{is_ascii_alphanumeric}
use Rattle.std.specs.List.{list_all, last_or, position, prefix_len, take_while}
use Rattle.std.specs.Option.{option_map_or}
use Rattle.std.specs.declared.option.Option.{Option}
use Rattle.std.specs.declared.option.Option.TheVariants.{None}
use Rattle.stage_syntax.specs.Arg.{ArgText}
use Rattle.spec_scanner.specs.declared.item.Item.{Item}
use Rattle.spec_scanner.specs.declared.piece.Piece.{Piece}
use Rattle.spec_scanner.specs.declared.piece.PieceKind.{PieceKind}
use Rattle.spec_scanner.specs.declared.piece.PieceKind.TheVariants.{Stage, Reference, Connector}
use Rattle.spec_scanner.specs.Stretches.{is_plain}

-- a blank, escaped or not
abbrev pub is_blank : Item → Bool
is_blank item = item.byte == 32

abbrev pub is_no_blank : Item → Bool
is_no_blank item = not (is_blank item)

abbrev pub bytes_of : List Item → List ℕ
bytes_of items = map (λ item. item.byte) items

-- the items from the first word on
abbrev pub from_word : List Item → List Item
from_word items = drop (prefix_len is_blank items) items

-- the first word
abbrev pub first_word : List Item → List Item
first_word items = take_while is_no_blank (from_word items)

-- what stands after the first word
abbrev pub after_word : List Item → List Item
after_word items = drop (prefix_len is_no_blank (from_word items)) (from_word items)

-- the word begins with `*`
abbrev pub is_starred : List Item → Bool
is_starred word = option_map_or (λ item. item.byte == 42) (slice_get word 0) false

-- the word begins with `*` and ends with `:`
abbrev pub is_connector : List Item → Bool
is_connector word = is_starred word && option_map_or (λ item. item.byte == 58) (last_or None word) false

abbrev pub is_plain_colon : Item → Bool
is_plain_colon item = is_plain item && (item.byte == 58)

-- how many items stand before the colon of a label: the first plain one of the first word, which doesn't begin with `*`
abbrev pub colon_of : List Item → Option ℕ
colon_of items =
    if is_starred (first_word items) then None
    else option_map (λ at. prefix_len is_blank items + at) (position is_plain_colon (first_word items))

-- a label has 1 to 8 letters or digits
abbrev pub is_good_label : List ℕ → Bool
is_good_label label = nat_lt 0 (length label) && (nat_lt (length label) 9 && list_all is_ascii_alphanumeric label)

-- the place of the first item, or this one where there is none
abbrev pub place_of : List Item → ℕ → ℕ
place_of items place = option_map_or (λ item. item.place) (slice_get items 0) place

-- the place just after the last item, or this one where there is none
abbrev pub end_of : List Item → ℕ → ℕ
end_of items place = option_map_or (λ item. item.after) (last_or None items) place

-- items as an argument, in a stage's text that ends just before a place
abbrev pub argument : List Item → ℕ → ArgText
argument items end = record { bytes = bytes_of items; plain = map is_plain items; places = map (λ item. item.place) items; end = end }

-- a stage or a connector at a place, of the items after its label, with the label's number
abbrev pub named_piece : PieceKind → Option ℕ → ℕ → List Item → Piece
named_piece kind label place items = record {
  label = label;
  uses = 0;
  name = bytes_of (first_word items);
  name_place = place_of (from_word items) place;
  place = place;
  arg = argument (after_word items) (end_of items place);
  kind = kind;
}

-- a reference at a place, whose text ends just before another, with the label's number and the number of this use
abbrev pub reference_piece : Option ℕ → ℕ → ℕ → ℕ → Piece
reference_piece label uses place end = record {
  label = label;
  uses = uses;
  name = [];
  name_place = place;
  place = place;
  arg = argument [] end;
  kind = Reference;
}

-- a text without a label: a connector, or else a stage
abbrev pub plain_piece : List Item → Piece
plain_piece items = named_piece (if is_connector (first_word items) then Connector else Stage) None (place_of items 0) items
