-- The rows of Editing.
use Rattle.std.specs.Prelude.{ℕ, zero, suc, ◌+◌, ◌-◌, ◌%◌, nat_le, Bool, not, ◌==◌, if◌then◌else◌, List, [], ◌∷◌, ◌++◌, length, take, drop, filter, replicate}
use Rattle.std.specs.Int.{is_in_range}
use Rattle.std.specs.List.{prefix_len, suffix_len, slice_split, join_by}
use Rattle.std.specs.declared.option.Option.TheVariants.{Some}
use Rattle.pipe_model.specs.declared.kind.Mapping.{Mapping}
use Rattle.pipe_model.specs.declared.kind.Mapping.TheVariants.{Upper, Lower, Bytes}
use Rattle.pipe_model.specs.declared.kind.Times.{Times}
use Rattle.pipe_model.specs.declared.kind.Times.TheVariants.{Only, All}
use Rattle.pipe_model.specs.declared.range.Range.{Range}
use Rattle.pipe_model.specs.Counts.{of_all, is_reached, last_of, all_on}
use Rattle.pipe_model.specs.Members.{has}
use Rattle.pipe_model.specs.Ranges.{part_of}
use Rattle.pipe_model.specs.Row.{Pair}
use Rattle.pipe_model.specs.Search.{begins}
use Rattle.pipe_model.specs.Shape.{Records, Stream, each_record, copied, at_hand_of}
use Rattle.pipe_model.specs.Shape.Outs.{Endless}

-- what is made of the record at hand, on output 0
abbrev pub edits : (List ℕ → List ℕ) → Records → List Pair
edits f recs = (0, f (at_hand_of recs)) ∷ []

-- CHANGE

-- the bytes with the first n occurrences of a from the left replaced by b; some bytes are still to be passed: the rest of an occurrence
abbrev pub replaced : List ℕ → List ℕ → ℕ → ℕ → List ℕ → List ℕ
replaced a b n pass [] = []
replaced a b n (suc pass) (x ∷ rec) = replaced a b n pass rec
replaced a b zero zero rec = rec
replaced a b (suc n) zero (x ∷ rec) =
    if begins a (x ∷ rec) then b ++ replaced a b n (length a - 1) rec
    else x ∷ replaced a b (suc n) zero rec

-- the record with b put in behind so many bytes, and a shorter record as it is
abbrev pub put_in : List ℕ → ℕ → List ℕ → List ℕ
put_in b at rec = if nat_le at (length rec) then take at rec ++ b ++ drop at rec else rec

-- the record with a part of it, which stands behind so many bytes, replaced by what is made of it
abbrev pub part_changed : (List ℕ → List ℕ) → ℕ → List ℕ → List ℕ → List ℕ
part_changed f at part rec = take at rec ++ f part ++ drop (at + length part) rec

-- the first n occurrences of a wholly within the columns, or all, are replaced by b; for an empty a, b is put in once at the first column
abbrev pub changed : Range → List ℕ → List ℕ → Times → List ℕ → List ℕ
changed range [] b times rec = if is_reached times 0 then rec else put_in b (range.first - 1) rec
changed range (x ∷ a) b times rec = part_changed (replaced (x ∷ a) b (of_all times (length rec)) 0) (range.first - 1) (part_of range rec) rec

-- STRIP

-- the record without the bytes of the set at its front
abbrev pub front_stripped : List ℕ → List ℕ → List ℕ
front_stripped set rec = drop (prefix_len (has set) rec) rec

-- and at its back
abbrev pub back_stripped : List ℕ → List ℕ → List ℕ
back_stripped set rec = take (length rec - suffix_len (has set) rec) rec

-- what is made of the record, where that is said
abbrev pub where_said : Bool → (List ℕ → List ℕ) → List ℕ → List ℕ
where_said said f rec = if said then f rec else rec

-- the record without the bytes of the set at the ends named
abbrev pub stripped : Bool → Bool → List ℕ → List ℕ → List ℕ
stripped leading trailing set rec = where_said trailing (back_stripped set) (where_said leading (front_stripped set) rec)

-- CHOP

-- the first n bytes on output 0 and the rest on output 1
abbrev pub chopped : ℕ → Records → List Pair
chopped n recs = (0, take n (at_hand_of recs)) ∷ (1, drop n (at_hand_of recs)) ∷ []

-- PAD

-- as many bytes as the record lacks
abbrev pub lacking : ℕ → ℕ → List ℕ → List ℕ
lacking n byte rec = replicate (n - length rec) byte

-- the record filled on its left or its right to n bytes
abbrev pub padded : Bool → ℕ → ℕ → List ℕ → List ℕ
padded left n byte rec = if left then lacking n byte rec ++ rec else rec ++ lacking n byte rec

-- SPLIT

-- the longest runs of bytes that aren't in the set
abbrev pub runs : List ℕ → List ℕ → List (List ℕ)
runs set rec = filter (λ part. not (length part == 0)) (slice_split (has set) rec)

-- one pair for each of them
abbrev pub splits : List ℕ → Records → List Pair
splits set recs = all_on 0 (runs set (at_hand_of recs))

-- JOIN

-- these records in one, with the string between; without records, no pair
abbrev pub joined : List ℕ → Records → List Pair
joined string [] = []
joined string (rec ∷ recs) = (0, join_by (λ part. part) string (rec ∷ recs)) ∷ []

-- the size of a group, where so many records are there: one more than the number, and for `*` more than there are
abbrev pub group_of : Times → ℕ → ℕ
group_of more all = suc (of_all more all)

-- the group that ends with the record at hand, if one does
abbrev pub finished : ℕ → Records → Records
finished size recs = if length recs % size == 0 then last_of size recs else []

-- the records behind the last group that has ended
abbrev pub unfinished : ℕ → Records → Records
unfinished size recs = last_of (length recs % size) recs

-- groups of n + 1 records, each with its last record, and at the end of input an unfinished one; `*` joins all
abbrev pub join : Times → List ℕ → Stream
join more string = record (each_record (λ recs. joined string (finished (group_of more (length recs)) recs))) {
  last = Some (λ recs. joined string (unfinished (group_of more (length recs)) recs));
}

-- XLATE

-- byte i of the first string becomes byte i of the second, the first place of a byte counting
abbrev pub mapped : List ℕ → List ℕ → ℕ → ℕ
mapped [] second b = b
mapped (c ∷ first) [] b = b
mapped (c ∷ first) (d ∷ second) b = if c == b then d else mapped first second b

-- ASCII letters in the case named, or each byte by the two strings
abbrev pub translated : Mapping → ℕ → ℕ
translated Upper b = if is_in_range 97 122 b then b - 32 else b
translated Lower b = if is_in_range 65 90 b then b + 32 else b
translated (Bytes first second) b = mapped first second b

-- DUPLICATE

-- n + 1 times the record at hand; `*` has no end
abbrev pub duplicate : Times → Stream
duplicate (Only n) = each_record (λ recs. replicate (suc n) (0, at_hand_of recs))
duplicate All = record (each_record copied) { outs = Endless (λ recs. (0, at_hand_of recs)) }
