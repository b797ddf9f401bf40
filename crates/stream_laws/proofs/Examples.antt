-- Examples of what stages put by themselves.
use Rattle.std.specs.Prelude.{◌≡◌, ℕ, zero, suc, Bool, true, false, List, [], ◌∷◌, map, codes, refl, pos}
use Rattle.std.specs.declared.option.Option.{Option}
use Rattle.std.specs.declared.option.Option.TheVariants.{Some, None}
use Rattle.pipe_model.specs.declared.net.Strand.{Strand}
use Rattle.pipe_model.specs.declared.kind.Kind.{Kind}
use Rattle.pipe_model.specs.declared.kind.Kind.TheVariants as Kinds
use Rattle.pipe_model.specs.declared.range.Range.{Range}
use Rattle.pipe_model.specs.declared.range.Span.TheVariants.{Columns}
use Rattle.pipe_model.specs.Event.{Event, records_on}
use Rattle.pipe_model.specs.Shape.{Records, Stream, each_record, copied}
use Rattle.pipe_model.specs.Next.{next}
use Rattle.pipe_model.specs.Alone.{Given, alone_event}
use Rattle.pipe_model.specs.declared.kind.Image.TheVariants as Images
use Rattle.pipe_model.specs.declared.kind.Cutting.TheVariants as Cuttings
use Rattle.pipe_model.specs.declared.kind.Keep.TheVariants.{First, Last}
use Rattle.pipe_model.specs.OrderRows.{unique}
use Rattle.pipe_model.specs.BlockRows.{fblock, block, deblock}
use Rattle.stream_laws.specs.InOrder.{puts_of, collated_in_order}
use Rattle.pipe_model.specs.Listed.{pairs_of, taken_of, ending_of, are_sorted, are_distinct, fan_in_pairs, lookup_pairs, merge_pairs, collate_pairs}

-- the first column of a record is its key
abbrev first_column : Range
first_column = record { span = Columns; first = 1; last = Some 1 }

-- these records on input 0, those on input 1
abbrev on_two : Records → Records → ℕ → Records
on_two first second zero = first
on_two first second (suc zero) = second
on_two first second _ = []

abbrev recs : List ℕ → Records
recs text = map (λ b. b ∷ []) text

-- A stream that stops after its second record, or at the sight of one

abbrev is_second : Records → Bool
is_second (a ∷ b ∷ []) = true
is_second _ = false

abbrev stopping : Stream
stopping = record (each_record copied) { stops = is_second; last = Some copied; code = λ seen. pos 4 }

abbrev halting : Stream
halting = record (each_record copied) { halts = is_second; last = Some copied }

stops_after : pairs_of stopping (recs (codes "abc")) ≡ (0, codes "a") ∷ (0, codes "b") ∷ []
stops_after = refl

takes_two : taken_of stopping (recs (codes "abc")) ≡ recs (codes "ab")
takes_two = refl

ends_with : ending_of stopping (recs (codes "abc")) ≡ pos 4
ends_with = refl

halts_at : pairs_of halting (recs (codes "abc")) ≡ (0, codes "a") ∷ []
halts_at = refl

takes_one : taken_of halting (recs (codes "abc")) ≡ recs (codes "a")
takes_one = refl

-- behind all records come the last pairs
not_stopped : pairs_of stopping (recs (codes "a")) ≡ (0, codes "a") ∷ (0, codes "a") ∷ []
not_stopped = refl

-- Several inputs

one_after_the_other : fan_in_pairs (on_two (recs (codes "ab")) (recs (codes "c"))) 2 ≡ (0, codes "a") ∷ (0, codes "b") ∷ (0, codes "c") ∷ []
one_after_the_other = refl

-- the second master of a key is never looked up, and one that no detail matched comes last
looked_up_all : lookup_pairs first_column first_column (codes "b1" ∷ codes "x2" ∷ codes "b3" ∷ []) (codes "a" ∷ codes "b" ∷ codes "bb" ∷ []) ≡
    (0, codes "b1") ∷ (0, codes "b") ∷ (1, codes "x2") ∷ (0, codes "b3") ∷ (0, codes "b") ∷ (2, codes "a") ∷ []
looked_up_all = refl

-- records of one key stay in the order of their inputs
merged_all : merge_pairs first_column (on_two (codes "a1" ∷ codes "b1" ∷ codes "b2" ∷ []) (codes "a3" ∷ codes "b3" ∷ [])) 2 ≡
    (0, codes "a1") ∷ (0, codes "a3") ∷ (0, codes "b1") ∷ (0, codes "b2") ∷ (0, codes "b3") ∷ []
merged_all = refl

-- a master comes once, before its details
collated_all : collate_pairs first_column first_column (codes "a" ∷ codes "b" ∷ codes "d" ∷ []) (codes "b1" ∷ codes "b2" ∷ codes "c1" ∷ []) ≡
    (0, codes "b") ∷ (0, codes "b1") ∷ (0, codes "b2") ∷ (1, codes "a") ∷ (1, codes "d") ∷ (2, codes "c1") ∷ []
collated_all = refl

-- and before each master come the details of lesser keys
collated_so : collated_in_order first_column first_column (codes "a" ∷ codes "b" ∷ codes "d" ∷ []) (codes "b1" ∷ codes "b2" ∷ codes "c1" ∷ []) ≡
    (1, codes "a") ∷ (0, codes "b") ∷ (0, codes "b1") ∷ (0, codes "b2") ∷ (2, codes "c1") ∷ (1, codes "d") ∷ []
collated_so = refl

in_order : are_sorted first_column (codes "a1" ∷ codes "a0" ∷ codes "b" ∷ []) ≡ true
in_order = refl

out_of_order : are_sorted first_column (codes "b" ∷ codes "a" ∷ []) ≡ false
out_of_order = refl

one_key_twice : are_distinct first_column (codes "a1" ∷ codes "b" ∷ codes "a2" ∷ []) ≡ false
one_key_twice = refl

-- All records together

first_of_each : pairs_of (unique false first_column First) (codes "a1" ∷ codes "a2" ∷ codes "b" ∷ codes "a3" ∷ []) ≡ (0, codes "a1") ∷ (1, codes "a2") ∷ (0, codes "b") ∷ (0, codes "a3") ∷ []
first_of_each = refl

last_of_each : pairs_of (unique false first_column Last) (codes "a1" ∷ codes "a2" ∷ codes "b" ∷ []) ≡ (1, codes "a1") ∷ (0, codes "a2") ∷ (0, codes "b") ∷ []
last_of_each = refl

-- the last block is filled
blocked : pairs_of (fblock 3 (Some 46)) (codes "ab" ∷ codes "cde" ∷ []) ≡ (0, codes "abc") ∷ (0, codes "de.") ∷ []
blocked = refl

-- a record that is too long for a length of two bytes ends BLOCK; none is here
with_lengths : pairs_of (block 4 Images.Sf) (codes "A" ∷ codes "BC" ∷ []) ≡ (0, 0 ∷ 3 ∷ 65 ∷ 0 ∷ []) ∷ (0, 4 ∷ 66 ∷ 67 ∷ []) ∷ []
with_lengths = refl

-- and back
by_their_lengths : pairs_of (deblock Cuttings.Sf) ((0 ∷ 3 ∷ 65 ∷ 0 ∷ []) ∷ (4 ∷ 66 ∷ 67 ∷ []) ∷ []) ≡ (0, codes "A") ∷ (0, codes "BC") ∷ []
by_their_lengths = refl

-- the string is sought from the left, across records
between_strings : pairs_of (deblock (Cuttings.Text (codes "--"))) (codes "a-" ∷ codes "-b---" ∷ codes "c" ∷ []) ≡ (0, codes "a") ∷ (0, codes "b") ∷ (0, codes "-c") ∷ []
between_strings = refl

-- A whole history

abbrev strand : Kind → List Bool → List Bool → Strand
strand kind ins outs = record { name = 0 ∷ []; kind = kind; part = 0; unit = 0; ports = record { inputs = 2; outputs = 3; has_input = ins; has_output = outs } }

abbrev given : Records → Records → Given
given first second = record { inputs = on_two first second; picks = λ taken. None; primed = false; limits = λ o. None }

-- it goes on as long as it can
abbrev ran : ℕ → Strand → Given → List Event
ran zero s g = []
ran (suc n) s g = one_more (ran n s g)
  where
    one_more : List Event → List Event
    one_more h = by_event h (alone_event g h (next s h))
      where
        by_event : List Event → Option Event → List Event
        by_event h None = h
        by_event h (Some e) = e ∷ h

abbrev collating_strand : Strand
collating_strand = strand (Kinds.Collate first_column first_column) (true ∷ true ∷ []) (true ∷ false ∷ true ∷ [])

abbrev collated_history : List Event
collated_history = ran 40 collating_strand (given (codes "a" ∷ codes "b" ∷ codes "d" ∷ []) (codes "b1" ∷ codes "b2" ∷ codes "c1" ∷ []))

-- it has come to its end, and what it put is the law's, but on output 1, which isn't connected
at_its_end : next collating_strand collated_history ≡ None
at_its_end = refl

put_first : records_on 0 collated_history ≡ codes "b" ∷ codes "b1" ∷ codes "b2" ∷ []
put_first = refl

put_second : records_on 1 collated_history ≡ []
put_second = refl

put_third : records_on 2 collated_history ≡ codes "c1" ∷ []
put_third = refl

put_in_order : puts_of collated_history ≡ (0, codes "b") ∷ (0, codes "b1") ∷ (0, codes "b2") ∷ (2, codes "c1") ∷ []
put_in_order = refl

-- a later strand of a DAM, where the first one sees a record, and where it doesn't
abbrev later_strand : Strand
later_strand = record (strand Kinds.Dam (true ∷ []) (true ∷ [])) { part = 1 }

passed_on : puts_of (ran 40 later_strand (record (given (recs (codes "ab")) []) { primed = true })) ≡ (0, codes "a") ∷ (0, codes "b") ∷ []
passed_on = refl

held_back : puts_of (ran 40 later_strand (given (recs (codes "ab")) [])) ≡ []
held_back = refl
