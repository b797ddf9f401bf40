-- The first word of a stage's text that begins with its name, and what follows it.
use Rattle.std.proofs.Common.{◌≡◌, ℕ, zero, suc, ◌+◌, false, List, [], ◌∷◌, ◌++◌, length, take, drop, refl, sym, ap, ap₂, ◌∙◌, arith, one-add, ne_eqb, nat_lt, get_or, None, position, if◌then◌else◌}
use Rattle.std.specs.Char.{to_ascii_lowercase}
use Rattle.std.specs.Str.{str_to_ascii_lowercase}
use Rattle.std.specs.List.{position_or_len, prefix_len}
use Rattle.std.proofs.lemmas.List.{take_at, drop_at}
use Rattle.stage_syntax.specs.Arg.{ArgText}
use Rattle.spec_scanner.specs.declared.item.Item.{Item}
use Rattle.spec_scanner.specs.declared.piece.Piece.{Piece}
use Rattle.spec_scanner.specs.declared.piece.PieceKind.TheVariants.{Connector, Stage}
use Rattle.spec_scanner.specs.Labels.{found, read_stage}
use Rattle.spec_scanner.specs.Pieces.{after_word, argument, bytes_of, colon_of, end_of, first_word, from_word, is_connector, is_no_blank, is_plain_colon, is_starred, named_piece, place_of}
use Rattle.spec_scanner.proofs.StraightItems.{Free, plain_from}
use Rattle.spec_scanner.proofs.StraightTrims.{length-plain_from, plain_from-append}

-- a byte without a lower case that isn't among the lower cases isn't among the bytes
pub free_alike : (byte : ℕ) (bytes lower : List ℕ) → to_ascii_lowercase byte ≡ byte → str_to_ascii_lowercase bytes ≡ lower → Free byte lower → Free byte bytes
free_alike byte [] lower same is free = tt
free_alike byte (b ∷ bytes) [] same is free = cc
free_alike byte (b ∷ bytes) (l ∷ lower) same is free =
    let heads : to_ascii_lowercase b ≡ l = cc in
    let tails : str_to_ascii_lowercase bytes ≡ lower = cc in
    (λ equal. free.0 (sym heads ∙ ap to_ascii_lowercase equal ∙ same), free_alike byte bytes lower same tails free.1)

-- items show their bytes
pub bytes_of_plain : (at : ℕ) (bytes : List ℕ) → bytes_of (plain_from at bytes) ≡ bytes
bytes_of_plain at [] = refl
bytes_of_plain at (byte ∷ bytes) = ap (λ more. byte ∷ more) (bytes_of_plain (suc at) bytes)

-- a word ends before a blank or at the end
word_ends : (at : ℕ) (word rest : List ℕ) → Free 32 word → get_or rest 0 32 ≡ 32 → prefix_len is_no_blank (plain_from at (word ++ rest)) ≡ length word
word_ends at [] [] free stops = refl
word_ends at [] (byte ∷ rest) free stops = rw stops refl
word_ends at (byte ∷ word) rest free stops = rw (ne_eqb byte 32 free.0) (one-add (prefix_len is_no_blank (plain_from (suc at) (word ++ rest))) ∙ ap suc (word_ends (suc at) word rest free.1 stops))

-- a word without a colon has none
no_colon_before : (at : ℕ) (word : List ℕ) → Free 58 word → position_or_len is_plain_colon (plain_from at word) ≡ length (plain_from at word)
no_colon_before at [] free = refl
no_colon_before at (byte ∷ word) free = rw (ne_eqb byte 58 free.0) (one-add (position_or_len is_plain_colon (plain_from (suc at) word)) ∙ ap suc (no_colon_before (suc at) word free.1))

not_below : (n : ℕ) → nat_lt n n ≡ false
not_below zero = refl
not_below (suc n) = grind arith

no_colon : (at : ℕ) (word : List ℕ) → Free 58 word → position is_plain_colon (plain_from at word) ≡ None
no_colon at word free = rw (no_colon_before at word free) (rw (not_below (length (plain_from at word))) refl)

-- what is read of a stage without a label
pub record Spelled : Type 0 where
  pub name : List ℕ
  pub name_place : ℕ
  pub place : ℕ
  pub arg : ArgText

-- the stage's piece
abbrev pub piece_of : Spelled → Piece
piece_of spelled = record {
  label = None;
  uses = 0;
  name = spelled.name;
  name_place = spelled.name_place;
  place = spelled.place;
  arg = spelled.arg;
  kind = Stage;
}

-- what items spell
abbrev pub spelled_of : List Item → Spelled
spelled_of items = record {
  name = bytes_of (first_word items);
  name_place = place_of (from_word items) (place_of items 0);
  place = place_of items 0;
  arg = argument (after_word items) (end_of items (place_of items 0));
}

-- a text that begins with a name, which has no blank, no colon and no star
module _ (at letter : ℕ) (letters rest : List ℕ) (blankless : Free 32 (letter ∷ letters)) (colonless : Free 58 (letter ∷ letters)) (starless : Free 42 (letter ∷ letters)) (stops : get_or rest 0 32 ≡ 32) where
  from_word_is : from_word (plain_from at (letter ∷ letters ++ rest)) ≡ plain_from at (letter ∷ letters ++ rest)
  from_word_is = rw (ne_eqb letter 32 blankless.0) refl

  parts_are : plain_from at (letter ∷ letters ++ rest) ≡ plain_from at (letter ∷ letters) ++ plain_from (at + length (letter ∷ letters)) rest
  parts_are = plain_from-append at (letter ∷ letters) rest

  first_word_is : first_word (plain_from at (letter ∷ letters ++ rest)) ≡ plain_from at (letter ∷ letters)
  first_word_is =
      ap (λ items. take (prefix_len is_no_blank items) items) from_word_is
      ∙ ap₂ take (word_ends at (letter ∷ letters) rest blankless stops) parts_are
      ∙ take_at (plain_from at (letter ∷ letters)) (plain_from (at + length (letter ∷ letters)) rest) (length (letter ∷ letters)) (length-plain_from at (letter ∷ letters))

  after_word_is : after_word (plain_from at (letter ∷ letters ++ rest)) ≡ plain_from (at + length (letter ∷ letters)) rest
  after_word_is =
      ap (λ items. drop (prefix_len is_no_blank items) items) from_word_is
      ∙ ap₂ drop (word_ends at (letter ∷ letters) rest blankless stops) parts_are
      ∙ drop_at (plain_from at (letter ∷ letters)) (plain_from (at + length (letter ∷ letters)) rest) (length (letter ∷ letters)) (length-plain_from at (letter ∷ letters))

  not_starred : is_starred (first_word (plain_from at (letter ∷ letters ++ rest))) ≡ false
  not_starred = ap is_starred first_word_is ∙ ne_eqb letter 42 starless.0

  no_label : colon_of (plain_from at (letter ∷ letters ++ rest)) ≡ None
  no_label = rw not_starred (rw first_word_is (rw (no_colon at (letter ∷ letters) colonless) refl))

  -- its name is its first word
  pub name_is : (spelled_of (plain_from at (letter ∷ letters ++ rest))).name ≡ letter ∷ letters
  name_is = ap bytes_of first_word_is ∙ bytes_of_plain at (letter ∷ letters)

  -- its argument is what follows
  pub argument_is : (spelled_of (plain_from at (letter ∷ letters ++ rest))).arg.bytes ≡ rest
  argument_is = ap bytes_of after_word_is ∙ bytes_of_plain (at + length (letter ∷ letters)) rest

  -- it is a stage without a label
  pub stage_read : (closed : ℕ) → read_stage [] closed (plain_from at (letter ∷ letters ++ rest)) ≡ found (piece_of (spelled_of (plain_from at (letter ∷ letters ++ rest))) ∷ []) [] []
  stage_read closed =
      let items = plain_from at (letter ∷ letters ++ rest) in
      let plain : is_connector (first_word items) ≡ false = rw not_starred refl in
      rw no_label (ap (λ connects. found (named_piece (if connects then Connector else Stage) None (place_of items 0) items ∷ []) [] []) plain)
