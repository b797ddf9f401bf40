-- How a walk of pairs goes on: where it stands after an event, and what it asks for then.
use Rattle.std.specs.Prelude.{◌≡◌, ◌⊎◌, ℕ, Bool, true, false, if◌then◌else◌, List, [], ◌++◌, pos, unwrap_or, option_map}
use Rattle.std.specs.Ordering.{int_eq}
use Rattle.std.specs.declared.option.Option.{Option}
use Rattle.std.specs.declared.option.Option.TheVariants.{Some, None}
use Rattle.pipe_model.specs.declared.step.Out.TheVariants.{Same, Fresh}
use Rattle.pipe_model.specs.declared.step.Seen.{Seen}
use Rattle.pipe_model.specs.declared.step.Seen.TheVariants.{Up, Saw, SawEnd, Took, Put, Refused, Ended}
use Rattle.pipe_model.specs.declared.step.Want.{Want}
use Rattle.pipe_model.specs.declared.step.Want.TheVariants.{Write}
use Rattle.pipe_model.specs.declared.step.Want.TheVariants.{Take as Consumes}
use Rattle.pipe_model.specs.Members.{flag_at}
use Rattle.pipe_model.specs.Row.{Act}
use Rattle.pipe_model.specs.Shape.{Records, Stream, at_hand_of}
use Rattle.stage_steps.specs.declared.group.Group.{Group}
use Rattle.stage_steps.specs.declared.group.Group.TheVariants.{AtHand, New}
use Rattle.stage_steps.specs.declared.group.Repeat.{Repeat}
use Rattle.stage_steps.specs.declared.order.Order.{Order}
use Rattle.stage_steps.specs.declared.order.Order.TheVariants.{WritesFirst, TakesFirst}
use Rattle.stage_steps.specs.declared.place.Follow.{Follow}
use Rattle.stage_steps.specs.declared.place.Follow.TheVariants.{Take, Look, End}
use Rattle.stage_steps.specs.declared.place.Place.{Place}
use Rattle.stage_steps.specs.declared.place.Place.TheVariants.{Starting, Committing, Looking, Writing, Taking, Passing, Ending}
use Rattle.stage_steps.specs.declared.reply.Reply.{Reply}
use Rattle.stage_steps.specs.declared.sifted.Sifted.{Sifted}
use Rattle.stage_steps.specs.declared.sifted.Sifted.TheVariants.{Drops, Passes, Gives}
use Rattle.stage_steps.specs.declared.walk.Walk.{Walk}
use Rattle.stage_steps.specs.Group.{group_acts, held_acts, is_due, less_one, IsHeld, IsOfRecord, IsLeftOfRecord}
use Rattle.stage_steps.specs.Kept.{kept_after}
use Rattle.stage_steps.specs.Lists.{Begins, Sees, Finishes, StandsOn, IsSpent, Tells}
use Rattle.stage_steps.specs.Outputs.{live}
use Rattle.stage_steps.specs.Places.{want_at, sight_place, taken_place, place_behind, is_last}

-- behind commit level 0 the pairs at the start are given, unless the code ends it
abbrev pub IsBegun : {L : Type 0} → (L → Bool → Stream → Records → List Act → Type 0) → L → L → Place → Bool → Type 0
IsBegun stands x y place true = Begins stands x y × (place ≡ Writing Look)
IsBegun stands x y place false = (y ≡ x) × (place ≡ Ending (pos 0))

-- what becomes of the lists and of the place by an event that answers what was asked for
abbrev pub Hears : {L : Type 0} → (L → Bool → Stream → Records → List Act → Type 0) → Bool → Order → Bool → L → Place → Seen → List ℕ → L → Place → Type 0
Hears stands looks order gives_up x Starting (Up level code) bytes y place = (y ≡ x) × (place ≡ (if int_eq code (pos 0) then Committing else Ending (pos 0)))
Hears stands looks order gives_up x Committing (Up level code) bytes y place = IsBegun stands x y place (int_eq code (pos 0))
Hears stands looks order gives_up x Looking (Saw i) bytes y place = Sees stands looks x y bytes × Tells stands y place (sight_place order)
Hears stands looks order gives_up x Looking (SawEnd i) bytes y place = Finishes stands x y × (place ≡ Writing End)
Hears stands looks order gives_up x (Writing follow) (Put o) bytes y place = (y ≡ x) × (place ≡ Writing follow)
Hears stands looks order gives_up x (Writing follow) (Refused o) bytes y place = (y ≡ x) × (place ≡ (if gives_up then Ending (pos 0) else Writing follow))
Hears stands looks order gives_up x Taking (Took i) bytes y place = (y ≡ x) × Tells stands x place (taken_place order)
Hears stands looks order gives_up x Passing (Put o) bytes y place = (y ≡ x) × (place ≡ Writing Take)
Hears stands looks order gives_up x Passing (Refused o) bytes y place = (y ≡ x) × (place ≡ (if gives_up then Ending (pos 0) else Writing Take))
Hears stands looks order gives_up x Passing (Took i) bytes y place = (y ≡ x) × Tells stands x place (taken_place order)
Hears stands looks order gives_up x Passing (Saw i) bytes y place = Sees stands looks x y bytes × Tells stands y place (sight_place order)
Hears stands looks order gives_up x Passing (SawEnd i) bytes y place = Finishes stands x y × (place ≡ Writing End)
Hears stands looks order gives_up x (Ending code) (Ended code') bytes y place = (y ≡ x) × (place ≡ Ending code)
Hears stands looks order gives_up x _ _ bytes y place = Unit {0}

-- what follows the record at hand is known: it is to be put or taken, nothing is kept and nothing left to write, and when it was taken the next one is looked at
abbrev pub CanPass : {L : Type 0} → (L → Bool → Stream → Records → List Act → Type 0) → L → Walk → Type 0
CanPass stands x w = ((w.place ≡ Writing Take) ⊎ (w.place ≡ Taking)) × (w.kept ≡ None) × (w.hand ≡ None) × (w.order ≡ WritesFirst) × IsSpent stands x

-- whether it passes the record on, and where it stands then
abbrev pub IsPassing : {L : Type 0} → (L → Bool → Stream → Records → List Act → Type 0) → L → Walk → Walk → Bool → Type 0
IsPassing stands x w v false = v ≡ w
IsPassing stands x w v true = CanPass stands x w × (v ≡ record w { place = Passing })

-- it has written the pairs of the record at hand, waits until that is taken, and doesn't stop behind it
abbrev pub HasWrittenFirst : {L : Type 0} → (L → Bool → Stream → Records → List Act → Type 0) → L → Walk → Type 0
HasWrittenFirst stands x w = ((w.place ≡ Taking) ⊎ (w.place ≡ Passing)) × (w.order ≡ WritesFirst) × Tells stands x false (λ t recs. t.stops recs)

-- it takes the record at hand before it writes the pairs of that, of which there are none
abbrev pub HasNoneToWrite : {L : Type 0} → (L → Bool → Stream → Records → List Act → Type 0) → L → Walk → Type 0
HasNoneToWrite stands x w = (w.place ≡ Taking) × (w.order ≡ TakesFirst) × (w.hand ≡ None) × IsSpent stands x

-- it waits until the record at hand is taken, and all that it does then is to look at the next one
abbrev pub CanGoOn : {L : Type 0} → (L → Bool → Stream → Records → List Act → Type 0) → L → Walk → Type 0
CanGoOn stands x w = HasWrittenFirst stands x w ⊎ HasNoneToWrite stands x w

-- whether it does so, and where it stands then, with what it keeps counted as taken
abbrev pub IsGoingOn : {L : Type 0} → (L → Bool → Stream → Records → List Act → Type 0) → L → Walk → Walk → Bool → Type 0
IsGoingOn stands x w v false = v ≡ w
IsGoingOn stands x w v true = CanGoOn stands x w × (v ≡ record w { place = Looking; kept = option_map (kept_after (Took 0) []) w.kept })

-- the group that comes next of those whose output is open, the record in hand first, or none where nothing is left
abbrev pub Fetches : {L : Type 0} → (L → Bool → Stream → Records → List Act → Type 0) → (L → Option (List ℕ)) → List Bool → L → Option Repeat → L → Option Group → Type 0
Fetches stands made flags x hand y None = (over : Bool) (t : Stream) (recs : Records) (acts : List Act) → stands x over t recs acts →
    (live flags (held_acts (at_hand_of recs) hand ++ acts) ≡ []) × stands y over t recs []
Fetches stands made flags x hand y (Some g) = (is_due flags g ≡ true) × IsHeld (made y) g × ((over : Bool) (t : Stream) (recs : Records) (acts : List Act) → stands x over t recs acts →
    (rest : List Act) × (live flags (held_acts (at_hand_of recs) hand ++ acts) ≡ live flags (group_acts (at_hand_of recs) (made y) g ++ rest)) × stands y over t recs rest
    × (IsLeftOfRecord recs hand → IsOfRecord recs g))

-- one of the group is asked for, and the others of a record at hand stay there
abbrev pub Puts : {L : Type 0} → (L → Bool → Stream → Records → List Act → Type 0) → (L → Option (List ℕ)) → L → Group → L → Option Repeat → Want → Type 0
Puts stands made y (AtHand r) z hand asked = (z ≡ y) × (hand ≡ less_one r) × (asked ≡ Write r.output (Same 0))
Puts stands made y (New o) z hand asked = StandsOn stands y z × (hand ≡ None) × (asked ≡ Write o (Fresh (unwrap_or (made y) [])))

-- when nothing is left to write it goes on as the stream says
abbrev pub TellsBehind : {L : Type 0} → (L → Bool → Stream → Records → List Act → Type 0) → L → Follow → Place → Type 0
TellsBehind stands x follow place = (t : Stream) (recs : Records) (acts : List Act) → stands x (is_last follow) t recs acts → place ≡ place_behind follow t recs

-- a group is written, or where there is none the walk goes on, where the lists that gave it stand and stood so
abbrev pub Turns : {L : Type 0} → (L → Bool → Stream → Records → List Act → Type 0) → (L → Option (List ℕ)) → Follow → L → L → Option Group → L → Option Repeat → Place → Want → Type 0
Turns stands made follow x y (Some g) z hand place asked = Puts stands made y g z hand asked × (place ≡ Writing follow)
Turns stands made follow x y None z hand place asked = (z ≡ y) × (hand ≡ None) × ((t : Stream) (recs : Records) (acts rest : List Act) → stands x (is_last follow) t recs acts → stands y (is_last follow) t recs rest → place ≡ place_behind follow t recs) × (asked ≡ want_at place)

-- what is asked for in a place, and what is so then
abbrev pub Asks : {L : Type 0} → (L → Bool → Stream → Records → List Act → Type 0) → (L → Option (List ℕ)) → List Bool → L → Option Repeat → Place → L → Option Repeat → Place → Want → Type 0
Asks {L} stands made flags x hand (Writing follow) z hand' place asked = (y : L) × (given : Option Group) × Fetches stands made flags x hand y given × Turns stands made follow x y given z hand' place asked
Asks stands made flags x hand from z hand' place asked = (z ≡ x) × (hand' ≡ hand) × (place ≡ from) × (asked ≡ want_at from)

-- it looks at the next record, and has nothing in hand
abbrev pub LooksPlainly : Walk → Type 0
LooksPlainly w = ((w.place ≡ Looking) ⊎ (w.place ≡ Passing)) × (w.hand ≡ None)

-- it is said at once what the lists give only where that is written before the record is taken
abbrev pub IsGivenBy : Order → Sifted → Type 0
IsGivenBy order Drops = order ≡ WritesFirst
IsGivenBy order (Passes output) = order ≡ WritesFirst
IsGivenBy order Gives = Unit {0}

-- it writes pairs, has nothing in hand and keeps no text, and output 0 is open
abbrev pub WritesPlainly : Walk → Type 0
WritesPlainly w = ((follow : Follow) × (w.place ≡ Writing follow)) × (w.hand ≡ None) × (w.kept ≡ None) × (flag_at w.outputs.flags.items 0 ≡ true)

-- the answer where it wants this after the sight of a record: where it takes that, and goes on, it has done both; else it left what it wants
abbrev pub IsReply : {L : Type 0} → (L → Bool → Stream → Records → List Act → Type 0) → L → Walk → Want → Walk → Want → Reply → Type 0
IsReply stands x w want v asked Reply.Takes = (want ≡ Consumes 0) × IsGoingOn stands x w v true
IsReply stands x w want v asked Reply.Passes = (asked ≡ want) × IsPassing stands x w v true
IsReply stands x w want v asked Reply.Asks = (asked ≡ want) × (v ≡ w)

-- the answer where it asks for what comes next, at the sight of a record at which it looks plainly: the lists give its pairs, the first of them is asked for, or the record is taken
abbrev pub AsksOn : {L : Type 0} → (L → Bool → Stream → Records → List Act → Type 0) → (L → Option (List ℕ)) → Bool → L → Walk → List ℕ → L → Walk → Want → Reply → Type 0
AsksOn {L} stands made looks x w bytes y v asked reply =
    (between : L) × (from : Place) × (hand : Option Repeat) × (place : Place) × (want : Want)
    × Sees stands looks x between bytes × Tells stands between from (sight_place w.order) × Asks stands made w.outputs.flags.items between w.hand from y hand place want
    × IsReply stands y (record w { place = place; hand = hand }) want v asked reply

-- it takes the record at hand before it writes the pairs of that, and looks at the next one behind them
abbrev pub TakesBefore : {L : Type 0} → (L → Bool → Stream → Records → List Act → Type 0) → L → Order → Type 0
TakesBefore stands x order = (order ≡ TakesFirst) × Tells stands x false (λ t recs. t.halts recs) × Tells stands x false (λ t recs. t.stops recs)

-- nothing of what was left to write can be done, and nothing is left now
abbrev pub HasSpent : {L : Type 0} → (L → Bool → Stream → Records → List Act → Type 0) → List Bool → L → L → Type 0
HasSpent stands flags x y = (over : Bool) (t : Stream) (recs : Records) (acts : List Act) → stands x over t recs acts → (live flags acts ≡ []) × stands y over t recs []

-- whether it was left out
abbrev pub Spends : {L : Type 0} → (L → Bool → Stream → Records → List Act → Type 0) → List Bool → L → L → Bool → Type 0
Spends stands flags x y true = HasSpent stands flags x y
Spends stands flags x y false = y ≡ x

-- the answer where the record is taken at once, as the lists give pairs of it that can't be written
abbrev pub TakesOn : {L : Type 0} → (L → Bool → Stream → Records → List Act → Type 0) → (L → Bool) → L → Walk → List ℕ → L → Walk → Reply → Type 0
TakesOn {L} stands is_looking x w bytes y v reply =
    (between : L) × (is_looking between ≡ is_looking x) × Sees stands (is_looking x) x between bytes × TakesBefore stands between w.order × HasSpent stands w.outputs.flags.items between y
    × (v ≡ record w { place = Looking; kept = option_map (kept_after (Took 0) []) w.kept }) × (reply ≡ Reply.Takes)

-- the answer to the sight of a record at which it looks plainly
abbrev pub SiftsOn : {L : Type 0} → (L → Bool → Stream → Records → List Act → Type 0) → (L → Option (List ℕ)) → (L → Bool) → L → Walk → List ℕ → L → Walk → Want → Reply → Type 0
SiftsOn stands made is_looking x w bytes y v asked reply = AsksOn stands made (is_looking x) x w bytes y v asked reply ⊎ TakesOn stands is_looking x w bytes y v reply
