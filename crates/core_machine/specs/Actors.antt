-- How what is kept of a strand changes when its coroutine goes out, comes back, or goes on in place.
use Rattle.std.specs.Prelude.{◌≡◌, ◌||◌, Bool, true, false, ◌==◌, ℕ, ◌<◌, List, [], Some, None, map, slice_index_or, take}
use Rattle.std.specs.Option.{option_map_or}
use Rattle.pipe_model.specs.declared.net.Strand.{Strand}
use Rattle.pipe_model.specs.declared.step.Seen.{Seen}
use Rattle.pipe_model.specs.declared.step.Seen.TheVariants.{Saw, SawEnd}
use Rattle.pipe_model.specs.declared.step.Want.{Want}
use Rattle.pipe_model.specs.declared.step.Want.TheVariants.{Read}
use Rattle.pipe_model.specs.Event.{Event}
use Rattle.pipe_model.specs.Search.{holds}
use Rattle.stage_steps.specs.Awaits.{TakesWithout}
use Rattle.stage_steps.specs.Coroutine.{Resumes}
use Rattle.stage_steps.specs.PassesOn.{PassesOn}
use Rattle.stage_steps.specs.Replies.{Replies}
use Rattle.stage_steps.specs.declared.reply.Reply.{Reply}
use Rattle.stage_steps.specs.declared.reply.Reply.TheVariants.{Takes, Passes, Asks}
use Rattle.record_pool.specs.PoolState.{PoolState}
use Rattle.record_pool.specs.Places.{bytes_at}
use Rattle.run_desk.specs.Desk.{DeskState}
use Rattle.run_desk.specs.Telling.{sight_door, sight_through, through}
use Rattle.run_desk.specs.Turns.{hand_on}
use Rattle.core_machine.specs.declared.actor.Actor.{Actor}

-- its coroutine takes each record without a string, and is then as before, and the first so many bytes of the text, where they are any, don't hold that
abbrev pub IsClearFor : {S : Type 0} → (S → Strand → List Event → Type 0) → Actor S → List ℕ → ℕ → Type 0
IsClearFor {S} stands actor text count = 0 < count → (stage : S) × (string : List ℕ) × (actor.stage ≡ Some stage) × TakesWithout stands stage string × (holds string (take count text) ≡ false)

-- it is told that input 0 has ended
abbrev pub is_end : Seen → Bool
is_end (SawEnd i) = i == 0
is_end _ = false

abbrev pub gone_out : {S : Type 0} → Seen → Actor S → Actor S
gone_out seen actor = record { stage = None; asked = actor.asked; looks = actor.looks; saw_end = actor.saw_end || is_end seen; passes = actor.passes }

abbrev pub come_back : {S : Type 0} → S → Want → Bool → Actor S → Actor S
come_back stage asked passes actor = record { stage = Some stage; asked = asked; looks = actor.looks; saw_end = actor.saw_end; passes = passes }

-- it went on in place, asked for this, and may pass on the record that it saw last
abbrev pub gone_on : {S : Type 0} → Seen → S → Want → Bool → Actor S → Actor S
gone_on seen stage asked passes actor = record { stage = Some stage; asked = asked; looks = actor.looks; saw_end = actor.saw_end || is_end seen; passes = passes }

-- where it says that its coroutine passes a record on, that does
abbrev pub DoesPass : {S : Type 0} → (S → Strand → List Event → Type 0) → Actor S → Type 0
DoesPass {S} stands actor = (stage : S) → actor.passes ≡ true → actor.stage ≡ Some stage → PassesOn stands stage

-- what its coroutine answered to the sight of a record on an input: it took the record of input 0 and looks at the next one there, or it asks for this, and may pass on the record that it saw
abbrev pub HasSeen : {S : Type 0} → (S → Strand → List Event → Type 0) → S → S → ℕ → List ℕ → Want → Bool → Reply → Type 0
HasSeen stands x y i bytes asked passes Takes = (i ≡ 0) × (asked ≡ Read 0) × (passes ≡ false) × Replies stands x y bytes asked Takes
HasSeen stands x y i bytes asked passes Passes = (passes ≡ true) × Resumes stands x y (Saw i) bytes asked × PassesOn stands y
HasSeen stands x y i bytes asked passes Asks = (passes ≡ false) × Resumes stands x y (Saw i) bytes asked

-- its coroutine is given up
abbrev pub given_up : {S : Type 0} → Actor S → Actor S
given_up actor = record { stage = None; asked = actor.asked; looks = actor.looks; saw_end = actor.saw_end; passes = actor.passes }

-- it asks for this
abbrev pub asking_for : {S : Type 0} → Want → Actor S → Actor S
asking_for asked actor = record { stage = actor.stage; asked = asked; looks = actor.looks; saw_end = actor.saw_end; passes = actor.passes }

-- the strand of these is given the bytes of what it sees
abbrev pub looks_in : {S : Type 0} → List (Actor S) → ℕ → Bool
looks_in {S} actors s = slice_index_or (map (λ (actor : Actor S). actor.looks) actors) s false

-- the bytes of the record at hand on a link, where the strand that sees it looks
abbrev pub bytes_ahead : Bool → DeskState → PoolState → ℕ → List ℕ
bytes_ahead true d pool link = option_map_or (bytes_at pool) (hand_on (through d.wires (Some link))) []
bytes_ahead false d pool link = []

-- the bytes that go with what a strand was told last: those of the record that it saw, where it looks
abbrev pub bytes_told : Bool → DeskState → PoolState → ℕ → Seen → List ℕ
bytes_told true d pool s (Saw i) = option_map_or (bytes_at pool) (sight_through d.sights (sight_door d s i)) []
bytes_told _ d pool s seen = []
