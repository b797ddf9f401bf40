-- The rows of FBLOCK, BLOCK and DEBLOCK.
use Rattle.std.specs.Prelude.{ℕ, zero, suc, ◌+◌, ◌-◌, ◌*◌, ◌/◌, ◌%◌, ◌==◌, Bool, true, false, ◌&&◌, nat_lt, nat_le, if◌then◌else◌, List, [], ◌∷◌, ◌++◌, length, take, drop, map, replicate, pos}
use Rattle.std.specs.List.{concat, onto_first}
use Rattle.std.specs.declared.option.Option.{Option}
use Rattle.std.specs.declared.option.Option.TheVariants.{Some, None}
use Rattle.pipe_model.specs.declared.kind.Image.{Image}
use Rattle.pipe_model.specs.declared.kind.Image.TheVariants as Images
use Rattle.pipe_model.specs.declared.kind.Cutting.{Cutting}
use Rattle.pipe_model.specs.declared.kind.Cutting.TheVariants as Cuttings
use Rattle.pipe_model.specs.Shape.{Records, Stream, at_hand_of}
use Rattle.pipe_model.specs.Parts.{by_parts, last_part, cut_every}
use Rattle.pipe_model.specs.Search.{begins}

-- the rest, where it isn't empty
abbrev pub some_rest : List ℕ → Records
some_rest [] = []
some_rest rest = rest ∷ []

-- FBLOCK

-- the rest, filled to the size
abbrev pub filled : ℕ → Option ℕ → List ℕ → List ℕ
filled size None rest = rest
filled size (Some byte) rest = take size (rest ++ replicate size byte)

abbrev pub fblock : ℕ → Option ℕ → Stream
fblock size fill = by_parts (λ recs. cut_every size (concat recs)) (λ rest. map (filled size fill) (some_rest rest))

-- BLOCK

-- SF has no image of the record: with its own two bytes its length doesn't fit into two bytes
abbrev pub is_too_long : Image → List ℕ → Bool
is_too_long Images.Sf rec = nat_lt 65533 (length rec)
is_too_long image rec = false

-- two bytes, the higher first
abbrev pub two_bytes : ℕ → List ℕ
two_bytes n = (n / 256) ∷ (n % 256) ∷ []

-- what stands for a record
abbrev pub image_of : Image → List ℕ → List ℕ
image_of Images.Fixed rec = rec
image_of Images.Linend rec = rec ++ 10 ∷ []
image_of (Images.Text string) rec = rec ++ string
image_of Images.Sf rec = if is_too_long Images.Sf rec then [] else two_bytes (length rec + 2) ++ rec

abbrev pub block : ℕ → Image → Stream
block size image = record (by_parts (λ recs. cut_every size (concat (map (image_of image) recs))) some_rest) {
  stops = λ recs. is_too_long image (at_hand_of recs);
  code = λ recs. if is_too_long image (at_hand_of recs) then pos 8 else pos 0;
}

-- DEBLOCK

-- a byte before some parts: where the string was found at it, a part ends there; `skip` bytes belong to a string that was found before
abbrev pub at_cut : ℕ → Bool → ℕ → Records → Records
at_cut (suc skip) found b parts = parts
at_cut zero true b parts = [] ∷ parts
at_cut zero false b parts = onto_first b parts

-- what stands between the occurrences of the string, which are sought from the left and don't overlap
abbrev pub cut_at : List ℕ → ℕ → List ℕ → Records
cut_at string skip [] = [] ∷ []
cut_at string skip (b ∷ bytes) = let found = skip == 0 && begins string (b ∷ bytes) in
    at_cut skip found b (cut_at string (if found then length string - 1 else skip - 1) bytes)

-- SF: the length at the front, which counts its own two bytes
abbrev pub sf_length : List ℕ → ℕ
sf_length (high ∷ low ∷ rest) = 256 * high + low
sf_length bytes = 0

-- a whole record stands at the front
abbrev pub sf_begins : List ℕ → Bool
sf_begins bytes = nat_le 2 (sf_length bytes) && nat_le (sf_length bytes) (length bytes)

-- some bytes before the parts of those behind them; `skip` bytes belong to a record that began before
abbrev pub at_length : ℕ → List ℕ → Records → Records
at_length (suc skip) bytes parts = parts
at_length zero bytes parts = if sf_begins bytes then drop 2 (take (sf_length bytes) bytes) ∷ parts else bytes ∷ []

-- the records by their lengths, and last what no whole record begins
abbrev pub cut_by_lengths : ℕ → List ℕ → Records
cut_by_lengths skip [] = [] ∷ []
cut_by_lengths skip (b ∷ bytes) = at_length skip (b ∷ bytes) (cut_by_lengths (if skip == 0 then sf_length (b ∷ bytes) - 1 else skip - 1) bytes)

abbrev pub parts_of : Cutting → Records → Records
parts_of (Cuttings.Fixed size) recs = cut_every size (concat recs)
parts_of Cuttings.Linend recs = cut_at (10 ∷ []) 0 (concat recs)
parts_of (Cuttings.Text string) recs = cut_at string 0 (concat recs)
parts_of Cuttings.Sf recs = cut_by_lengths 0 (concat recs)

-- a length below 2
abbrev pub is_bad_length : List ℕ → Bool
is_bad_length rest = nat_le 2 (length rest) && nat_lt (sf_length rest) 2

-- SF: a bad length ends it, after the records before that; a rest isn't written and gives code 8
abbrev pub deblock_sf : Stream
deblock_sf = record (by_parts (parts_of Cuttings.Sf) (λ rest. [])) {
  stops = λ recs. is_bad_length (last_part (parts_of Cuttings.Sf recs));
  code = λ recs. if length (last_part (parts_of Cuttings.Sf recs)) == 0 then pos 0 else pos 8;
}

abbrev pub deblock : Cutting → Stream
deblock Cuttings.Sf = deblock_sf
deblock cutting = by_parts (parts_of cutting) some_rest
