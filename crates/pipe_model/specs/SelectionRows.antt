-- The rows of Selection.
use Rattle.std.specs.Prelude.{ℕ, Bool, true, false, not, ◌&&◌, ◌||◌, ◌==◌, if◌then◌else◌, List, [], ◌∷◌, fold, length, take, drop, reverse}
use Rattle.std.specs.List.{list_any}
use Rattle.std.specs.declared.option.Option.TheVariants.{Some}
use Rattle.pipe_model.specs.declared.kind.Times.{Times}
use Rattle.pipe_model.specs.Counts.{of_all, is_among, is_reached, earlier, last_of, all_on}
use Rattle.pipe_model.specs.Row.{Pair}
use Rattle.pipe_model.specs.Search.{begins}
use Rattle.pipe_model.specs.Shape.{Records, Stream, each_record, at_hand_of}

-- the record at hand, on output 0 where it is selected and on output 1 where it isn't
abbrev pub selected : Bool → Records → List Pair
selected is recs = (if is then 0 else 1, at_hand_of recs) ∷ []

-- LOCATE, FIND: a record that passes the test is selected
abbrev pub selects : (List ℕ → Bool) → Records → List Pair
selects test recs = selected (test (at_hand_of recs)) recs

-- NLOCATE, NFIND: the other way
abbrev pub rejects : (List ℕ → Bool) → Records → List Pair
rejects test recs = selected (not (test (at_hand_of recs))) recs

-- FIND

-- a blank agrees with any byte, an underscore with a blank, any other byte with itself
abbrev pub byte_agrees : ℕ → ℕ → Bool
byte_agrees t b = t == 32 || b == (if t == 95 then 32 else t)

-- each byte of the text agrees with the record at its place, and a blank with none too
abbrev pub agrees : List ℕ → List ℕ → Bool
agrees [] rec = true
agrees (t ∷ text) [] = t == 32 && agrees text []
agrees (t ∷ text) (b ∷ rec) = byte_agrees t b && agrees text rec

-- TAKE and DROP

-- TAKE FIRST: the first n are selected; it stops after n records where output 1 isn't connected
abbrev pub take_first : Times → Bool → Stream
take_first times second = record (each_record (λ recs. selected (is_among times (length recs)) recs)) {
  stops = λ recs. not second && is_reached times (length recs);
}

-- DROP FIRST: the first n go to output 1, the others to output 0
abbrev pub drop_first : Times → Records → List Pair
drop_first times recs = selected (not (is_among times (length recs))) recs

-- the record that leaves a window of the last n, if one does: the one that n others follow
abbrev pub leaving : ℕ → Records → Records
leaving n recs = take 1 (drop n (reverse recs))

-- a window of the last n records: what leaves it goes to one output, and at the end of input what is in it to the other
abbrev pub window : ℕ → ℕ → Times → Stream
window left kept times = record (each_record (λ recs. all_on left (leaving (of_all times (length recs)) recs))) {
  last = Some (λ recs. all_on kept (last_of (of_all times (length recs)) recs));
}

-- TAKE LAST: the window goes to output 0
abbrev pub take_last : Times → Stream
take_last = window 1 0

-- DROP LAST: the window goes to output 1
abbrev pub drop_last : Times → Stream
drop_last = window 0 1

-- BETWEEN and INSIDE

-- a record begins a part, or leaves it open
abbrev pub opens : List ℕ → List ℕ → Bool → List ℕ → Bool
opens first second within rec = if within then not (begins second rec) else begins first rec

-- a part is open behind these records
abbrev pub is_within : List ℕ → List ℕ → Records → Bool
is_within first second recs = fold (opens first second) false recs

-- BETWEEN: from a record that begins with the first string to the next later record that begins with the second, both included
abbrev pub selects_between : List ℕ → List ℕ → Records → List Pair
selects_between first second recs = selected (is_within first second (earlier recs) || is_within first second recs) recs

-- INSIDE: the same without the two outer records
abbrev pub selects_inside : List ℕ → List ℕ → Records → List Pair
selects_inside first second recs = selected (is_within first second (earlier recs) && is_within first second recs) recs

-- TOLABEL and FRLABEL

-- one of the records begins with the text
abbrev pub is_met : List ℕ → Records → Bool
is_met text recs = list_any (begins text) recs

-- TOLABEL: the records before the first that begins with the text; at its sight it ends where output 1 isn't connected
abbrev pub to_label : List ℕ → Bool → Stream
to_label text second = record (each_record (λ recs. selected (not (is_met text recs)) recs)) {
  halts = λ recs. not second && is_met text recs;
}

-- FRLABEL: from the first record that begins with the text on
abbrev pub fr_label : List ℕ → Records → List Pair
fr_label text recs = selected (is_met text recs) recs
