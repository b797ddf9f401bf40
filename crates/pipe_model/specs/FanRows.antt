-- The rows of FANOUT, FANIN, FANINANY, DEAL, GATHER, OVERLAY, SYNCHRONISE and JUXTAPOSE.
use Rattle.std.specs.Prelude.{ℕ, suc, ◌-◌, ◌%◌, ◌==◌, Bool, true, false, if◌then◌else◌, List, [], ◌∷◌, ◌++◌, length, map, take, drop}
use Rattle.pipe_model.specs.Row.{Pair}
use Rattle.pipe_model.specs.Shape.{Records, Stream, Turning, Rounding, each_record, at_hand_of, records_of, all_inputs}
use Rattle.pipe_model.specs.Inputs.{records_from, at_hand_causes}

-- the numbers of the connected outputs, counted on from a number
abbrev pub connected_from : ℕ → List Bool → List ℕ
connected_from k [] = []
connected_from k (true ∷ flags) = k ∷ connected_from (suc k) flags
connected_from k (false ∷ flags) = connected_from (suc k) flags

-- the same record on each of some outputs
abbrev pub on_outputs : List ℕ → List ℕ → List Pair
on_outputs outputs rec = map (λ o. (o, rec)) outputs

-- the record at hand, whichever input it came from, on output 0
abbrev pub passed : List Pair → List Pair
passed seen = at_hand_causes (λ i rec. (0, rec) ∷ []) seen

-- FANOUT: the record at hand on each output, in order
abbrev pub fanning : List Bool → Stream
fanning outputs = each_record (λ recs. on_outputs (connected_from 0 outputs) (at_hand_of recs))

-- DEAL

-- of some outputs the one whose turn it is for the record at hand: the first of them for the first record, and around
abbrev pub in_turn : List ℕ → Records → List ℕ
in_turn outputs recs = take 1 (drop ((length recs - 1) % length outputs) outputs)

abbrev pub dealing : List Bool → Stream
dealing outputs = each_record (λ recs. on_outputs (in_turn (connected_from 0 outputs) recs) (at_hand_of recs))

-- FANIN: each input to its end, ascending
abbrev pub fanning_in : Turning
fanning_in = record { order = λ inputs seen. all_inputs inputs; outs = passed; last = λ seen. [] }

-- GATHER

-- the number behind that of the input of the record at hand, and 0 where there is none
abbrev pub behind_last : List Pair → ℕ
behind_last [] = 0
behind_last (p ∷ []) = suc p.0
behind_last (p ∷ q ∷ ps) = behind_last (q ∷ ps)

-- ascending from a number on, and around
abbrev pub around : ℕ → List ℕ → List ℕ
around n inputs = drop n inputs ++ take n inputs

-- one record of each input in turn
abbrev pub gathering : Turning
gathering = record { order = λ inputs seen. around (behind_last seen) (all_inputs inputs); outs = passed; last = λ seen. [] }

-- OVERLAY

-- a record laid over another one: where its byte is the pad, the other's byte is seen
abbrev pub laid_over : ℕ → List ℕ → List ℕ → List ℕ
laid_over pad [] below = below
laid_over pad rec [] = rec
laid_over pad (b ∷ rec) (c ∷ below) = (if b == pad then c else b) ∷ laid_over pad rec below

-- records laid over each other, the last on top
abbrev pub overlaid : ℕ → Records → List ℕ
overlaid pad [] = []
overlaid pad (rec ∷ recs) = laid_over pad (overlaid pad recs) rec

-- the records in sight, of which the highest input's is on top
abbrev pub overlaying : ℕ → Rounding
overlaying pad = record { strict = false; outs = λ k. (0, overlaid pad (records_of k.sight)) ∷ []; takes = λ k i. true }

-- SYNCHRONISE: each record in sight on the output of its input's number
abbrev pub synchronising : Rounding
synchronising = record { strict = true; outs = λ k. k.sight; takes = λ k i. true }

-- JUXTAPOSE: before each record of input 1 the last one of input 0
abbrev pub juxtaposed : List Pair → List Pair
juxtaposed seen = at_hand_causes (λ i rec. if i == 0 then [] else (0, at_hand_of (records_from 0 seen) ++ rec) ∷ []) seen
