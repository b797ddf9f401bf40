-- A strand that writes records, and the next one, which takes them: when the records may be shown from one to the other, and how far the two are then.
use Rattle.std.specs.Prelude.{◌≡◌, ℕ, suc, ◌+◌, ◌<◌, ◌≤◌, Bool, true, false, List, [], ◌++◌, Some, None, length, slice_get, slice_set}
use Rattle.pipe_model.specs.declared.net.Link.{Link}
use Rattle.pipe_model.specs.declared.net.Net.{Net}
use Rattle.pipe_model.specs.declared.net.Strand.{Strand}
use Rattle.pipe_model.specs.declared.step.Entry.{Entry}
use Rattle.pipe_model.specs.declared.step.Out.TheVariants.{Fresh}
use Rattle.pipe_model.specs.declared.step.Seen.TheVariants.{Put, Saw}
use Rattle.pipe_model.specs.declared.step.Want.{Want}
use Rattle.pipe_model.specs.declared.step.Want.TheVariants.{Write}
use Rattle.pipe_model.specs.Event.{Event}
use Rattle.step_journal.specs.Words.{rounds_of}
use Rattle.record_pool.specs.PoolState.{PoolState}
use Rattle.connectors.specs.WireState.{IsHeldIn, is_due}
use Rattle.stage_steps.specs.Coroutine.{Resumes}
use Rattle.stage_steps.specs.PassesOn.{PassesOn}
use Rattle.stage_steps.specs.Showings.{IsShowing}
use Rattle.run_desk.specs.Desk.{DeskState}
use Rattle.run_desk.specs.Relaying.{IsRelaying, desk_showing, pool_refilled}
use Rattle.run_desk.specs.Telling.{ended_at, in_door, out_door, through}
use Rattle.run_desk.specs.Turns.{Behind, CanCome, offer_on}
use Rattle.core_machine.specs.declared.actor.Actor.{Actor}
use Rattle.core_machine.specs.declared.run.Which.TheVariants.{OfRecords}
use Rattle.core_machine.specs.declared.showing.Last.{Last}
use Rattle.core_machine.specs.declared.showing.Last.TheVariants as Ends
use Rattle.core_machine.specs.declared.showing.Pair.{Pair}
use Rattle.core_machine.specs.declared.showing.Relayed.{Relayed}
use Rattle.core_machine.specs.declared.showing.Relayed.TheVariants as Next
use Rattle.core_machine.specs.Actors.{gone_on}
use Rattle.core_machine.specs.Floor.{FloorState, IsCovered, IsInUse, StaysEarly}
use Rattle.core_machine.specs.Machine.{Machine}
use Rattle.core_machine.specs.Members.{is_member}
use Rattle.core_machine.specs.Runs.{AreSteps, is_made}
use Rattle.core_machine.specs.Sound.{IsSound}
use Rattle.core_machine.specs.Woken.{IsCovering, LeastEventAwake}

-- the strands are neighbours on a rendezvous, the reader took the record that is offered there, by this grip, and asks to look at the next one
pub record IsPair (net : Net) (d : DeskState) (pool : PoolState) (p : Pair) (grip : ℕ) : Type 0 where
  pub near : p.to ≡ suc p.strand
  pub within : p.to < length net.strands
  pub link : (link : Link) × (slice_get net.links p.link ≡ Some link) × (link.queue ≡ false)
  pub out : out_door d p.strand p.output ≡ Some p.link
  pub into : in_door d p.to 0 ≡ Some p.link
  pub relaying : IsRelaying d pool p.to p.link grip

-- so it is for some grip, and the least event is that the writer's record is put
abbrev pub IsDue : Net → DeskState → PoolState → Pair → Type 0
IsDue net d pool p = ((grip : ℕ) × IsPair net d pool p grip) × LeastEventAwake d (Some (p.strand, p.output, Put p.output))

-- the writer asked to write a new record on its output, and its coroutine passes none on
abbrev pub IsWriter : {S : Type 0} → List (Actor S) → Pair → Type 0
IsWriter {S} actors p = (a : Actor S) × (slice_get actors p.strand ≡ Some a) × (a.asked ≡ Write p.output (Fresh [])) × (a.passes ≡ false)

-- its coroutine, as it is elsewhere
abbrev pub with_stage : {S : Type 0} → S → Actor S → Actor S
with_stage stage a = record { stage = Some stage; asked = a.asked; looks = a.looks; saw_end = a.saw_end; passes = a.passes }

abbrev pub without_stage : {S : Type 0} → Actor S → Actor S
without_stage a = record { stage = None; asked = a.asked; looks = a.looks; saw_end = a.saw_end; passes = a.passes }

-- what follows the rounds of the two: the writer's record is due to be put, or the journal is longer
abbrev pub Follows : Relayed → FloorState → Pair → List Entry → List Entry → Type 0
Follows Next.Due floor p old new = IsDue floor.net floor.desk floor.pool p
Follows Next.Home floor p old new = length old < length new

-- The entries of rounds

-- the writer's record is put
abbrev pub put_of : Pair → Entry
put_of p = record { strand = p.strand; stream = p.output }

-- the reader sees a record, or takes it
abbrev pub took_of : Pair → Entry
took_of p = record { strand = p.to; stream = 0 }

-- the entries of so many rounds
abbrev pub rounds : Pair → ℕ → List Entry
rounds p n = rounds_of (put_of p) (took_of p) (took_of p) n

-- How far the two are

-- after so many rounds the writer's record is due to be put, and its coroutine is elsewhere, as is the record that it showed last, where it showed one
pub record AreRelaying {S : Type 0} (stands : S → Strand → List Event → Type 0) (showing : S → List ℕ) (limit : ℕ) (p : Pair) (net : Net) (start : List Entry) (out : List ℕ)
    (floor : FloorState) (actors : List (Actor S)) (journal : List Entry) (source : S) (rounds : ℕ) : Type 0 where
  pub net_is : floor.net ≡ net
  pub more : List Entry
  pub journal_is : journal ≡ start ++ more
  pub steps : (budget : ℕ) (broken : Bool) → AreSteps (is_made OfRecords) (record { net = net; budget = budget; journal = start; out = out; is_broken = broken }) more
  pub writes : is_member floor.ready p.strand ≡ true
  pub reads : is_member floor.ready p.to ≡ true
  pub actor : Actor S
  pub asked : actor.asked ≡ Write p.output (Fresh [])
  pub plain : actor.passes ≡ false
  pub was : actor.stage ≡ Some source
  pub there : slice_get actors p.strand ≡ Some (without_stage actor)
  pub grip : ℕ
  pub pool : PoolState
  pub fresh : rounds ≡ 0 → pool ≡ floor.pool
  pub stale : 0 < rounds → (pool ≡ pool_refilled floor.pool grip (showing source)) × (length (showing source) ≤ 256)
  pub sound : IsSound stands net limit journal out (slice_set actors p.strand actor) floor.desk pool
  pub pair : IsPair net floor.desk pool p grip
  pub least : LeastEventAwake floor.desk (Some (p.strand, p.output, Put p.output))

-- the same from a core on, whose budget is the limit: the rounds are behind its journal
abbrev pub AreOn : {S : Type 0} → (S → Strand → List Event → Type 0) → (S → List ℕ) → Machine → Pair → FloorState → List (Actor S) → S → ℕ → Type 0
AreOn stands showing m p floor actors source n = AreRelaying stands showing m.budget p m.net m.journal m.out floor actors (m.journal ++ rounds p n) source n

-- after so many rounds from a core on, where one more has room, the writer showed a record, and the reader saw that and didn't take it at once
pub record HasShown {S : Type 0} (stands : S → Strand → List Event → Type 0) (showing : S → List ℕ) (m : Machine) (p : Pair) (floor : FloorState) (actors : List (Actor S)) (source : S)
    (n : ℕ) (last : Last) : Type 0 where
  pub before : List (Actor S)
  pub writer : S
  pub relaying : AreOn stands showing m p floor before writer n
  pub space : length (m.journal ++ rounds p n) + 2 < m.budget
  pub shows : IsShowing stands showing writer source p.output true
  pub reader : Actor S
  pub there : slice_get before p.to ≡ Some reader
  pub told : S
  pub went : S
  pub was : reader.stage ≡ Some told
  pub asked : Want
  pub passes : Bool
  pub shown : List ℕ
  pub all : reader.looks ≡ true → shown ≡ showing source
  pub none : reader.looks ≡ false → shown ≡ []
  pub actors_are : actors ≡ slice_set before p.to (gone_on (Saw 0) went asked passes reader)
  pub resumed : (last ≡ Ends.Lacks → ⊥) → Resumes stands told went (Saw 0) shown asked × (passes ≡ true → PassesOn stands went)

-- so the rounds end
abbrev pub EndsAt : {S : Type 0} → (S → Strand → List Event → Type 0) → (S → List ℕ) → Machine → Pair → FloorState → List (Actor S) → S → ℕ → Last → Type 0
EndsAt stands showing m p floor actors source n Ends.Due = AreOn stands showing m p floor actors source n
EndsAt stands showing m p floor actors source n Ends.Asks = HasShown stands showing m p floor actors source n Ends.Asks
EndsAt stands showing m p floor actors source n Ends.Lacks = HasShown stands showing m p floor actors source n Ends.Lacks

-- the next record may be offered on the link by the grip of the one before, and the reader told that it sees it
pub record CanShow (floor : FloorState) (p : Pair) : Type 0 where
  pub to : p.to < length floor.desk.seats
  pub link : p.link < length floor.desk.wires
  pub held : IsHeldIn floor.pool (offer_on (through floor.desk.wires (Some p.link)))
  pub due : Behind (λ wire. is_due wire ≡ true) floor.desk.wires (Some p.link)
  pub covers : IsCovered floor.net floor.desk floor.ready → IsCovering (desk_showing floor.desk p.to p.link) floor.ready

-- a strand may come home with this want
pub record MayCome (floor : FloorState) (s : ℕ) (asked : Want) : Type 0 where
  pub used : IsInUse floor.net floor.desk
  pub live : ended_at floor.desk s ≡ false
  pub can : CanCome floor.desk floor.pool s asked
  pub early : StaysEarly floor.desk floor.pool s asked
  pub here : is_member floor.ready s ≡ true
  pub strand : s < length floor.net.strands
