-- What the sample's specification reads as.
use Rattle.std.proofs.Common.{◌≡◌, ℕ, false, List, [], ◌∷◌, length, codes, refl, arith, inr, nat_eq, Contains}
use Rattle.std.specs.List.{list_any}
use Rattle.std.proofs.lemmas.Cmp.{nat_eq_equiv}
use Rattle.std.proofs.lemmas.Map.Views.{list_any-from_Contains}
use Rattle.spec_scanner.specs.declared.piece.Piece.{Piece}
use Rattle.spec_scanner.specs.Options.{AreWords, BeginsAs, Outset, Word}
use Rattle.spec_scanner.specs.Reads.{Reads, read_items}
use Rattle.spec_scanner.proofs.Beginnings.{outset_of}
use Rattle.call_meaning.specs.Sample.{sample_spec}
use Rattle.spec_scanner.proofs.LoneSigns.{items_from, lone_body}

-- its options, in parentheses, and its body
abbrev inside : List ℕ
inside = codes "endchar ?"

abbrev body : List ℕ
body = codes " console | a: locate /7/ | change /7/77/ | b: faninany | console ? a: | b:"

-- the words of the options
abbrev words : List Word
words = record { bytes = codes "endchar"; place = 1 } ∷ record { bytes = codes "?"; place = 9 } ∷ []

abbrev outset : Outset
outset = outset_of sample_spec 0 inside body words

-- a byte that no test finds isn't there
abbrev pub Absent : ℕ → List ℕ → Type 0
Absent byte bytes = list_any (nat_eq byte) bytes ≡ false

pub not_there : (byte : ℕ) (bytes : List ℕ) → Absent byte bytes → ¬ Contains bytes byte
not_there byte bytes absent = λ found. let there = list_any-from_Contains nat_eq_equiv byte bytes found in cc

words_are : AreWords 1 inside words
words_are = (
  codes " ?",
  record {
    front = inside;
    unblanked = record { blanks = 0; spells = refl; other = λ same. omega (arith, same) };
    first = record { spells = refl; whole = not_there 32 (codes "endchar") refl; stops = refl };
    some = omega arith;
    place_is = refl;
  },
  (
    [],
    record {
      front = codes "?";
      unblanked = record { blanks = 1; spells = refl; other = λ same. omega (arith, same) };
      first = record { spells = refl; whole = not_there 32 (codes "?") refl; stops = refl };
      some = omega arith;
      place_is = refl;
    },
    record { blanks = 0; spells = refl; other = λ same. omega (arith, same) },
  ),
)

begins : BeginsAs sample_spec outset
begins = inr (inr (record {
  inside = inside;
  body = body;
  blanks = 0;
  options = record { spells = refl; whole = not_there 41 inside refl };
  words = words;
  words_are = words_are;
  outset_is = refl;
}))

-- the pieces
abbrev pub sample_pieces : List (List Piece)
sample_pieces = (read_items (items_from outset.signs outset.start body) (length sample_spec)).pipelines

pub sample_reads : Reads sample_spec sample_pieces
sample_reads = record {
  short = omega arith;
  items = items_from outset.signs outset.start body;
  tail = [];
  has_body = record { outset = outset; begins = begins; good = refl; body = lone_body outset.signs refl outset.start body refl };
  good = refl;
  pipelines_are = refl;
}
