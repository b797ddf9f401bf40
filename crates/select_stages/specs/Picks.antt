-- What a stage does that writes each record on output 0 or on output 1, and nothing at the start or at the end of input.
use Rattle.std.specs.Prelude.{◌≡◌, ◌<◌, ℕ, Bool, true, false, not, List, [], ◌∷◌, ◌++◌, length}
use Rattle.pipe_model.specs.Search.{holds}
use Rattle.pipe_model.specs.SelectionRows.{selected}
use Rattle.pipe_model.specs.Shape.{Records, Stream, each_record, never, at_hand_of}

-- which records are selected, and where the stage ends: each by the records so far, the last of them at hand
pub record Choice : Type 0 where
  -- the record at hand goes on output 0, else on output 1
  pub selects : Records → Bool
  -- it ends at the sight of the record at hand
  pub halts : Records → Bool
  -- it ends after the record at hand, or before the first record
  pub stops : Records → Bool

-- each record is chosen by itself, and none ends the stage
abbrev pub choice_by : (List ℕ → Bool) → Choice
choice_by test = record { selects = λ recs. test (at_hand_of recs); halts = never; stops = never }

-- the records are selected that a choice rejects
abbrev pub rejected : Choice → Choice
rejected choice = record choice { selects = λ recs. not (choice.selects recs) }

-- the lists of a choice
abbrev pub chosen : Choice → Stream
chosen choice = record (each_record (λ recs. selected (choice.selects recs) recs)) { stops = choice.stops; halts = choice.halts }

-- whether it selects one more record, whose bytes come with it where it looks
abbrev pub PicksNext : {P : Type 0} → (P → Choice → Records → Type 0) → Bool → P → P → List ℕ → Bool → Type 0
PicksNext stands looks x y bytes is = (choice : Choice) (recs : Records) (rec : List ℕ) →
    stands x choice recs → length recs < 50000000 → (looks ≡ true → bytes ≡ rec) → stands y choice (recs ++ rec ∷ []) × (is ≡ choice.selects (recs ++ rec ∷ []))

-- it selects no record without the string, and is then as before
abbrev pub RejectsWithout : {P : Type 0} → (P → Choice → Records → Type 0) → Bool → P → List ℕ → Type 0
RejectsWithout stands looks x string = (bytes : List ℕ) → holds string bytes ≡ false → PicksNext stands looks x x bytes false

-- what it tells is what the choice says after the records so far
abbrev pub Says : {P : Type 0} → (P → Choice → Records → Type 0) → P → Bool → (Choice → Records → Bool) → Type 0
Says stands x is f = (choice : Choice) (recs : Records) → stands x choice recs → is ≡ f choice recs
