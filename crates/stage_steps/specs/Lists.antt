-- What the calls of a stage of lists do, where the value stands for a stream of the stage table, the records so far, and what is left to write of the list that it gives now.
use Rattle.std.specs.Prelude.{◌≡◌, ◌<◌, ◌||◌, ℕ, Bool, true, false, List, [], ◌∷◌, ◌++◌, length, is_some, unwrap_or}
use Rattle.std.specs.declared.option.Option.{Option}
use Rattle.std.specs.declared.option.Option.TheVariants.{Some, None}
use Rattle.pipe_model.specs.Members.{flag_at}
use Rattle.pipe_model.specs.Row.{Act}
use Rattle.pipe_model.specs.Shape.{Records, Outs, Stream, each_record, writes, acts_of, last_pairs, at_hand_of}
use Rattle.pipe_model.specs.declared.kind.Times.TheVariants.{Only}
use Rattle.stage_steps.specs.declared.group.Group.{Group}
use Rattle.stage_steps.specs.declared.group.Group.TheVariants.{AtHand}
use Rattle.stage_steps.specs.declared.sifted.Sifted.{Sifted}
use Rattle.stage_steps.specs.declared.sifted.Sifted.TheVariants.{Drops, Passes, Gives}
use Rattle.stage_steps.specs.Group.{group_acts, IsHeld, IsOfRecord}
use Rattle.stage_steps.specs.Outputs.{live}

-- it gives the pairs at the start
abbrev pub Begins : {L : Type 0} → (L → Bool → Stream → Records → List Act → Type 0) → L → L → Type 0
Begins stands x y = (t : Stream) → stands x false t [] [] → stands y false t [] (writes t.before)

-- it gives the pairs of one more record, whose bytes come with it where it looks
abbrev pub Sees : {L : Type 0} → (L → Bool → Stream → Records → List Act → Type 0) → Bool → L → L → List ℕ → Type 0
Sees stands looks x y bytes = (t : Stream) (recs : Records) (rec : List ℕ) →
    stands x false t recs [] → length recs < 50000000 → (looks ≡ true → bytes ≡ rec) → stands y false t (recs ++ rec ∷ []) (acts_of t.outs (recs ++ rec ∷ []))

-- it gives the pairs at the end of input
abbrev pub Finishes : {L : Type 0} → (L → Bool → Stream → Records → List Act → Type 0) → L → L → Type 0
Finishes stands x y = (t : Stream) (recs : Records) → stands x false t recs [] → stands y true t recs (writes (last_pairs t.last recs))

-- the first group of what is left, or none where nothing is left
abbrev pub GivesNext : {L T : Type 0} → (L → Bool → T → Records → List Act → Type 0) → (L → Option (List ℕ)) → L → L → Option Group → Type 0
GivesNext {L} {T} stands made x y None = (over : Bool) (t : T) (recs : Records) (acts : List Act) → stands x over t recs acts → (acts ≡ []) × stands y over t recs []
GivesNext {L} {T} stands made x y (Some g) = IsHeld (made y) g × ((over : Bool) (t : T) (recs : Records) (acts : List Act) → stands x over t recs acts →
    (rest : List Act) × (acts ≡ group_acts (at_hand_of recs) (made y) g ++ rest) × stands y over t recs rest × IsOfRecord recs g)

-- it stands for the same as before
abbrev pub StandsOn : {L T : Type 0} → (L → Bool → T → Records → List Act → Type 0) → L → L → Type 0
StandsOn {L} {T} stands x y = (over : Bool) (t : T) (recs : Records) (acts : List Act) → stands x over t recs acts → stands y over t recs acts

-- it hands over the new record, where it holds one
abbrev pub HandsOver : {L T : Type 0} → (L → Bool → T → Records → List Act → Type 0) → (L → Option (List ℕ)) → L → List ℕ → L → Type 0
HandsOver stands made x rec y = is_some (made x) ≡ true → (rec ≡ unwrap_or (made x) []) × StandsOn stands x y

-- nothing is left to write, and the stream doesn't stop after the records so far
abbrev pub IsSpent : {L : Type 0} → (L → Bool → Stream → Records → List Act → Type 0) → L → Type 0
IsSpent stands x = (over : Bool) (t : Stream) (recs : Records) (acts : List Act) → stands x over t recs acts → (acts ≡ []) × (t.stops recs ≡ false)

-- all that is left to write is for this output: where that isn't open, nothing of it can be done
abbrev pub IsAllFor : {L : Type 0} → (L → Bool → Stream → Records → List Act → Type 0) → L → ℕ → Type 0
IsAllFor stands x output = (over : Bool) (t : Stream) (recs : Records) (acts : List Act) → stands x over t recs acts → (flags : List Bool) → flag_at flags output ≡ false → live flags acts ≡ []

-- what it tells is what the stream says after the records so far
abbrev pub Tells : {L A : Type 0} → (L → Bool → Stream → Records → List Act → Type 0) → L → A → (Stream → Records → A) → Type 0
Tells stands x a f = (over : Bool) (t : Stream) (recs : Records) (acts : List Act) → stands x over t recs acts → a ≡ f t recs

-- the same of what is told only where the stage ends: behind the end of input, or at a record that ends it
abbrev pub TellsAtEnd : {L A : Type 0} → (L → Bool → Stream → Records → List Act → Type 0) → L → A → (Stream → Records → A) → Type 0
TellsAtEnd stands x a f = (over : Bool) (t : Stream) (recs : Records) (acts : List Act) → stands x over t recs acts → (over || (t.stops recs || t.halts recs)) ≡ true → a ≡ f t recs

-- nothing is left to write, and the stream goes on after the records so far
abbrev pub GoesOn : {L : Type 0} → (L → Bool → Stream → Records → List Act → Type 0) → L → Type 0
GoesOn stands x = IsSpent stands x × Tells stands x false (λ t recs. t.halts recs)

-- the record at hand, once
abbrev pub once : ℕ → Group
once output = AtHand (record { output = output; times = Only 1 })

-- it gives the pairs of one more record, and has given them where they are none, or the record itself, once
abbrev pub Sifts : {L : Type 0} → (L → Bool → Stream → Records → List Act → Type 0) → (L → Option (List ℕ)) → Bool → L → L → List ℕ → Sifted → Type 0
Sifts {L} stands made looks x y bytes Drops = (between : L) × Sees stands looks x between bytes × GivesNext stands made between y None × GoesOn stands y
Sifts {L} stands made looks x y bytes (Passes output) = (between : L) × Sees stands looks x between bytes × GivesNext stands made between y (Some (once output)) × GoesOn stands y
Sifts stands made looks x y bytes Gives = Sees stands looks x y bytes

-- Where pairs are written for each record alone, and nothing ends the stage

abbrev pub of_each : Outs → Stream
of_each outs = record (each_record (λ recs. [])) { outs = outs }

-- what a value stands for before the end of input and behind it
abbrev pub always : {E T : Type 0} → (E → T → Records → List Act → Type 0) → E → Bool → T → Records → List Act → Type 0
always stands x over t recs acts = stands x t recs acts

-- it gives the pairs of one more record, whose bytes come with it where it looks
abbrev pub SeesEach : {E : Type 0} → (E → Outs → Records → List Act → Type 0) → Bool → E → E → List ℕ → Type 0
SeesEach stands looks x y bytes = (outs : Outs) (recs : Records) (rec : List ℕ) →
    stands x outs recs [] → length recs < 50000000 → (looks ≡ true → bytes ≡ rec) → stands y outs (recs ++ rec ∷ []) (acts_of outs (recs ++ rec ∷ []))

-- nothing is left to write
abbrev pub IsEmpty : {E : Type 0} → (E → Outs → Records → List Act → Type 0) → E → Type 0
IsEmpty stands x = (outs : Outs) (recs : Records) (acts : List Act) → stands x outs recs acts → acts ≡ []

-- the same as Sifts for such a stage
abbrev pub SiftsEach : {E : Type 0} → (E → Outs → Records → List Act → Type 0) → (E → Option (List ℕ)) → Bool → E → E → List ℕ → Sifted → Type 0
SiftsEach {E} stands made looks x y bytes Drops = (between : E) × SeesEach stands looks x between bytes × GivesNext (always stands) made between y None × IsEmpty stands y
SiftsEach {E} stands made looks x y bytes (Passes output) = (between : E) × SeesEach stands looks x between bytes × GivesNext (always stands) made between y (Some (once output)) × IsEmpty stands y
SiftsEach stands made looks x y bytes Gives = SeesEach stands looks x y bytes
