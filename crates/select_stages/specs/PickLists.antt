-- What the lists of Selection stand for that put each record on one of two outputs.
use Rattle.std.specs.Prelude.{◌≡◌, Bool, true, false, List, length}
use Rattle.pipe_model.specs.declared.kind.Kind.{Kind}
use Rattle.pipe_model.specs.declared.kind.Times.{Times}
use Rattle.pipe_model.specs.Ranges.{locates}
use Rattle.pipe_model.specs.Row.{Act}
use Rattle.pipe_model.specs.SelectionRows.{agrees, is_within, is_met}
use Rattle.pipe_model.specs.Shape.{Records, Stream, at_hand_of}
use Rattle.pipe_model.specs.Shape.Order.{WritesFirst}
use Rattle.pipe_model.specs.Shape.Shape.{Lists}
use Rattle.pipe_model.specs.Table.{line_of}
use Rattle.stage_steps.specs.Waiting.{waiting_act, IsWaiting}
use Rattle.select_stages.specs.declared.between.Encloses.{Encloses}
use Rattle.select_stages.specs.declared.find.Finds.{Finds}
use Rattle.select_stages.specs.declared.label.Meets.{Meets}
use Rattle.select_stages.specs.declared.picks.Picked.{Picked}
use Rattle.select_stages.specs.declared.picks.Rejects.{Rejects}
use Rattle.select_stages.specs.declared.take.Takes.{Takes}
use Rattle.select_stages.specs.Choices.{taking, left_behind, enclosing, meeting}
use Rattle.select_stages.specs.Located.{LocatesState}
use Rattle.select_stages.specs.Picks.{Choice, choice_by, rejected, chosen}

-- each record goes on the output that is picked, where it may wait for it
abbrev pub PickedStand : {P : Type 0} → (P → Choice → Records → Type 0) → Picked P → Bool → Stream → Records → List Act → Type 0
PickedStand stands x over t recs acts = (choice : Choice) × (t ≡ chosen choice) × stands x.picks choice recs × (acts ≡ waiting_act x.waiting (at_hand_of recs)) × IsWaiting x.waiting recs

-- they look where what picks does
abbrev pub picked_look : {P : Type 0} → (P → Bool) → Picked P → Bool
picked_look looks x = looks x.picks

-- the stage table says of the kind that its records are so chosen, by the connected outputs, and whether it looks at them
abbrev pub IsChoosing : (List Bool → Choice) → Bool → Kind → Type 0
IsChoosing choice looks kind = ((line_of kind).shape ≡ Lists WritesFirst (λ outputs. chosen (choice outputs))) × (looks ≡ (line_of kind).looks)

-- the other stands for the choice that is rejected
abbrev pub RejectsStand : {P : Type 0} → (P → Choice → Records → Type 0) → Rejects P → Choice → Records → Type 0
RejectsStand stands x choice recs = (other : Choice) × (choice ≡ rejected other) × stands x.picks other recs

abbrev pub rejects_look : {P : Type 0} → (P → Bool) → Rejects P → Bool
rejects_look looks x = looks x.picks

-- LOCATE: each record by its range
abbrev pub LocatesStand : LocatesState → Choice → Records → Type 0
LocatesStand x choice recs = choice ≡ choice_by (locates x.range x.sought)

-- LOCATE looks at records
abbrev pub locates_look : LocatesState → Bool
locates_look x = true

-- FIND: each record by its agreement with the text
abbrev pub FindsStand : Finds → Choice → Records → Type 0
FindsStand x choice recs = choice ≡ choice_by (agrees x.text)

abbrev pub finds_look : Finds → Bool
finds_look x = true

-- TAKE FIRST: by what is left of the first behind the records so far
abbrev pub TakesStand : Takes → Choice → Records → Type 0
TakesStand x choice recs = (times : Times) × (choice ≡ taking times x.may_stop) × (x.left ≡ left_behind times (length recs))

-- TAKE FIRST doesn't look at records
abbrev pub takes_look : Takes → Bool
takes_look x = false

-- BETWEEN and INSIDE: by whether a part is open behind the records so far
abbrev pub EnclosesStand : Encloses → Choice → Records → Type 0
EnclosesStand x choice recs = (choice ≡ enclosing x.first x.second x.outer) × (x.is_open ≡ is_within x.first x.second recs)

abbrev pub encloses_look : Encloses → Bool
encloses_look x = true

-- FRLABEL: by whether one of the records so far begins with the text
abbrev pub MeetsStand : Meets → Choice → Records → Type 0
MeetsStand x choice recs = (choice ≡ meeting x.text x.may_halt) × (x.is_met ≡ is_met x.text recs)

abbrev pub meets_look : Meets → Bool
meets_look x = true
