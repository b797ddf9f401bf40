-- What the lists of Editing stand for.
use Rattle.std.specs.Prelude.{◌≡◌, ◌<◌, length, ℕ, Bool, true, false, List, [], ◌∷◌, take, drop, unwrap_or, if◌then◌else◌}
use Rattle.std.specs.declared.option.Option.{Option}
use Rattle.std.specs.declared.option.Option.TheVariants.{Some, None}
use Rattle.pipe_model.specs.declared.kind.Times.{Times}
use Rattle.pipe_model.specs.EditingRows.{edits, chopped, runs, splits, join, duplicate}
use Rattle.pipe_model.specs.Counts.{all_on}
use Rattle.pipe_model.specs.Row.{Act}
use Rattle.pipe_model.specs.Row.Act.{Writes}
use Rattle.pipe_model.specs.Shape.{Records, Outs, Stream, writes, at_hand_of}
use Rattle.pipe_model.specs.Shape.Outs.{Pairs}
use Rattle.stage_steps.specs.Group.{acts_by}
use Rattle.edit_stages.specs.declared.chop.Chops.{Chops}
use Rattle.edit_stages.specs.declared.chop.Owed.{Owed}
use Rattle.edit_stages.specs.declared.chop.Owed.TheVariants as Owing
use Rattle.edit_stages.specs.declared.duplicate.Due.{Due}
use Rattle.edit_stages.specs.declared.duplicate.Due.TheVariants.{Nothing, Copies, All}
use Rattle.edit_stages.specs.declared.duplicate.Duplicates.{Duplicates}
use Rattle.edit_stages.specs.declared.edits.Edited.{Edited}
use Rattle.edit_stages.specs.declared.join.Joins.{Joins}
use Rattle.edit_stages.specs.declared.split.Splits.{Splits}
use Rattle.edit_stages.specs.Groups.{left_over, in_one}

-- Stages that make one record of each

-- the act that is left, where the new record is still to be given
abbrev pub new_act : Bool → List ℕ → List Act
new_act false new = []
new_act true new = Writes 0 new ∷ []

abbrev pub new_count : Bool → ℕ
new_count false = 0
new_count true = 1

-- the new record that is held, where it was given
abbrev pub new_given : Bool → List ℕ → Option (List ℕ)
new_given true new = None
new_given false new = Some new

-- what is made of each record on output 0, where it may wait for it: the new record that is held, or else the record at hand, which stays as it is
abbrev pub EditedStand : {E : Type 0} → (E → List ℕ → List ℕ) → Edited E → Outs → Records → List Act → Type 0
EditedStand made x outs recs acts = (outs ≡ Pairs (edits (made x.edits))) × (acts ≡ new_act x.due (unwrap_or x.new (at_hand_of recs))) × (x.due ≡ true → 0 < length recs)

-- the new record that is held, where it was given
abbrev pub edited_given : {E : Type 0} → Edited E → Option (List ℕ)
edited_given x = if x.due then None else x.new

-- all of them look at records
abbrev pub edited_look : {E : Type 0} → Edited E → Bool
edited_look x = true

-- DUPLICATE

-- the acts that are left
abbrev pub due_acts : Due → Times → List ℕ → List Act
due_acts Nothing copies rec = []
due_acts Copies copies rec = acts_by copies 0 rec
due_acts All copies rec = Writes 0 rec ∷ acts_by copies 0 rec

-- where some are left, there was a record
abbrev pub IsDue : Due → Records → Type 0
IsDue Nothing recs = Unit {0}
IsDue _ recs = 0 < length recs

abbrev pub due_count : Due → ℕ
due_count Nothing = 0
due_count Copies = 1
due_count All = 2

-- each record so many times, of which some may be left
abbrev pub DuplicatesStand : Duplicates → Outs → Records → List Act → Type 0
DuplicatesStand x outs recs acts = (outs ≡ (duplicate x.copies).outs) × (acts ≡ due_acts x.due x.copies (at_hand_of recs)) × IsDue x.due recs

-- DUPLICATE doesn't look at records
abbrev pub duplicates_look : Duplicates → Bool
duplicates_look x = false

-- CHOP

-- the acts that are left of the two parts of a record, of which the front may be the record itself
abbrev pub parts_acts : Owed → List ℕ → List ℕ → List ℕ → List Act
parts_acts Owing.Nothing rec front rest = []
parts_acts Owing.Rest rec front rest = Writes 1 rest ∷ []
parts_acts Owing.Both rec front rest = Writes 0 front ∷ Writes 1 rest ∷ []
parts_acts Owing.Whole rec front rest = Writes 0 rec ∷ Writes 1 rest ∷ []

-- where the record itself is left, there was one
abbrev pub IsOwed : Owed → Records → Type 0
IsOwed Owing.Whole recs = 0 < length recs
IsOwed _ recs = Unit {0}

-- the part that was given last
abbrev pub part_by : Owed → List ℕ → List ℕ → Option (List ℕ)
part_by Owing.Nothing front rest = Some rest
part_by Owing.Rest front rest = Some front
part_by Owing.Both front rest = None
part_by Owing.Whole front rest = None

abbrev pub part_given : Chops → Option (List ℕ)
part_given x = part_by x.owed (take x.width x.rec.items) (drop x.width x.rec.items)

abbrev pub owed_count : Owed → ℕ
owed_count Owing.Nothing = 0
owed_count Owing.Rest = 1
owed_count Owing.Both = 2
owed_count Owing.Whole = 2

-- the two parts of each record, of which some may be left
abbrev pub ChopsStand : Chops → Outs → Records → List Act → Type 0
ChopsStand x outs recs acts = (outs ≡ Pairs (chopped x.width)) × (acts ≡ parts_acts x.owed (at_hand_of recs) (take x.width x.rec.items) (drop x.width x.rec.items)) × IsOwed x.owed recs

-- CHOP looks at records
abbrev pub chops_look : Chops → Bool
chops_look x = true

-- SPLIT

-- the runs of each record, of which those from a place on are left
abbrev pub SplitsStand : Splits → Outs → Records → List Act → Type 0
SplitsStand x outs recs acts = (outs ≡ Pairs (splits x.set)) × (acts ≡ writes (all_on 0 (runs x.set (drop x.at x.rec.items))))

-- the run that was given last
abbrev pub run_given : Splits → List ℕ
run_given x = take x.size (drop x.from x.rec.items)

-- SPLIT looks at records
abbrev pub splits_look : Splits → Bool
splits_look x = true

-- JOIN

-- up to the end of input it has in one the records of the group that hasn't ended
abbrev pub IsGathering : Bool → Joins → Records → Type 0
IsGathering over x recs = over ≡ false → (x.count ≡ length (left_over x.more recs)) × (x.group.items ≡ in_one x.between (left_over x.more recs))

-- each group in one record with its last, and the group that hasn't ended at the end of input; its records so far are held
abbrev pub JoinsStand : Joins → Bool → Stream → Records → List Act → Type 0
JoinsStand x over t recs acts = (t ≡ join x.more x.between) × IsGathering over x recs × (acts ≡ new_act x.due x.new)

-- JOIN looks at records
abbrev pub joins_look : Joins → Bool
joins_look x = true
