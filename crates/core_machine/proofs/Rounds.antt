-- The rounds of two strands: in each the one's record is put, and the other sees and takes the next one.
use Rattle.std.proofs.Common.{◌≡◌, ◌≢◌, ◌≤◌, ◌<◌, ◌-◌, ◌^◌, ℕ, zero, suc, ◌+◌, Bool, true, false, List, [], ◌∷◌, ◌++◌, length, refl, sym, ◌∙◌, ap, subst, arith, Some, None, Option, slice_get, slice_set, length-set}
use Rattle.std.specs.Prelude.{Err, IfOk, IsSome, Ok, OnErr, Result, slice_index_or}
use Rattle.pipe_model.specs.declared.memory.NoMemory.{NoMemory}
use Rattle.pipe_model.specs.declared.net.Net.{Net}
use Rattle.pipe_model.specs.declared.net.Strand.{Strand}
use Rattle.pipe_model.specs.declared.step.Entry.{Entry}
use Rattle.pipe_model.specs.declared.step.Seen.TheVariants.{Put, Saw, Took}
use Rattle.pipe_model.specs.declared.step.Want.{Want}
use Rattle.pipe_model.specs.Event.{Event}
use Rattle.pipe_model.proofs.Lists.{at_some, get_set_same, get_set_other, length_more}
use Rattle.std.proofs.lemmas.Option.{slice_get_within, slice_get_read}
use Rattle.connectors.specs.WireState.{WireState, IsHeldIn, is_due}
use Rattle.stage_steps.specs.Coroutine.{CanResume, Resumes}
use Rattle.stage_steps.specs.PassesOn.{PassesOn}
use Rattle.stage_steps.specs.Replies.{CanSee}
use Rattle.stage_steps.specs.Showings.{IsShowing}
use Rattle.stage_steps.specs.declared.reply.Reply.{Reply}
use Rattle.stage_steps.specs.declared.reply.Reply.TheVariants.{Takes, Passes, Asks}
use Rattle.record_pool.specs.PoolState.{Held, PoolState}
use Rattle.record_pool.specs.Places.{place_at, with_place, with_record, holders_at, holders_of, record_at, refilled}
use Rattle.run_desk.specs.Desk.{DeskState}
use Rattle.run_desk.specs.Holding.{IsPooled}
use Rattle.run_desk.specs.Relaying.{desk_relayed, desk_showing, pool_refilled}
use Rattle.run_desk.specs.Telling as Telling
use Rattle.run_desk.specs.Turns.{Behind, CanCome, bare, desk_after_turn, offer_on, pool_after_turn}
use Rattle.run_desk.proofs.Limits.{offers_held}
use Rattle.core_machine.specs.declared.actor.Actor.{Actor}
use Rattle.core_machine.specs.declared.run.Which.TheVariants.{OfRecords}
use Rattle.core_machine.specs.declared.showing.Last.{Last}
use Rattle.core_machine.specs.declared.showing.Last.TheVariants as Ends
use Rattle.core_machine.specs.declared.showing.Pair.{Pair}
use Rattle.core_machine.specs.declared.showing.Relayed.{Relayed}
use Rattle.core_machine.specs.declared.showing.Relayed.TheVariants as Next
use Rattle.core_machine.specs.Actors.{HasSeen, asking_for, gone_on, given_up}
use Rattle.core_machine.specs.Floor.{FloorState, IsCovered, IsInUse, StaysEarly}
use Rattle.core_machine.specs.Answered.{LeastEvent}
use Rattle.core_machine.specs.Machine.{Machine}
use Rattle.core_machine.specs.Members.{is_member}
use Rattle.core_machine.specs.Pairs.{AreOn, AreRelaying, CanShow, EndsAt, Follows, HasShown, IsPair, IsDue, IsWriter, MayCome, put_of, rounds, took_of, without_stage, with_stage}
use Rattle.core_machine.specs.Runs.{AreSteps, HasRelayed, is_made}
use Rattle.core_machine.specs.Sound.{IsSound}
use Rattle.core_machine.specs.Woken.{IsCovering, HasReturned, LeastEventAwake}
use Rattle.core_machine.proofs.GoesOn.{set_set}
use Rattle.core_machine.proofs.Pairs as Pairs
use Rattle.core_machine.proofs.Pairs.{telling_on}
use Rattle.core_machine.proofs.RoundsOf.{two_longer_by}
use Rattle.core_machine.proofs.Runs.{steps_more}
use Rattle.core_machine.proofs.Steps.{append_none, append_three}
use Rattle.core_machine.proofs.PutsOn.{no_bytes_put}
use Rattle.core_machine.proofs.Sounds.{event_is, in_range, stage_at}
use Rattle.core_machine.proofs.Tellings.{IsTelling, resumes_it, room_out, sound_at}

-- what is offered on a link is held
pub offer_held : (d : DeskState) (pool : PoolState) → IsPooled d.wires d.sights pool → (j : ℕ) → IsHeldIn pool (offer_on (Telling.through d.wires (Some j)))
offer_held d pool pooled j = go (slice_get d.wires j) refl
  where
    go : (x : Option WireState) → slice_get d.wires j ≡ x → IsHeldIn pool (offer_on x)
    go None off = tt
    go (Some wire) at = offers_held d.wires d.sights pool pooled j wire at

-- A record in place of another, and again

placed_twice : (places : List (Option Held)) (p : ℕ) (x y : Option Held) → with_place (with_place places p x) p y ≡ with_place places p y
placed_twice [] zero x y = refl
placed_twice [] (suc p) x y = ap (λ l. None ∷ l) (placed_twice [] p x y)
placed_twice (z ∷ zs) zero x y = refl
placed_twice (z ∷ zs) (suc p) x y = ap (λ l. z ∷ l) (placed_twice zs p x y)

placed_here : (places : List (Option Held)) (p : ℕ) (x : Option Held) → place_at (with_place places p x) p ≡ x
placed_here [] zero x = refl
placed_here [] (suc p) x = placed_here [] p x
placed_here (z ∷ zs) zero x = refl
placed_here (z ∷ zs) (suc p) x = placed_here zs p x

-- the second takes the place of the first, whose holders it has
pub refilled_twice : (pool : PoolState) (grip : ℕ) (x y : List ℕ) → pool_refilled (pool_refilled pool grip x) grip y ≡ pool_refilled pool grip y
refilled_twice pool grip x y =
    let held : Option Held = Some (refilled x (holders_at pool grip)) in
    let same : holders_at (pool_refilled pool grip x) grip ≡ holders_at pool grip = ap holders_of (placed_here pool.records grip held) in
    ap (λ n. with_record (pool_refilled pool grip x) grip (Some (refilled y n))) same ∙ ap (λ l. record pool { records = l }) (placed_twice pool.records grip held (Some (refilled y (holders_at pool grip))))

-- Two places of a list

pub set_swap : {A : Type 0} (xs : List A) (i j : ℕ) (x y : A) → i ≢ j → slice_set (slice_set xs i x) j y ≡ slice_set (slice_set xs j y) i x
set_swap [] i j x y apart = refl
set_swap (z ∷ zs) zero zero x y apart = absurd (apart refl)
set_swap (z ∷ zs) zero (suc j) x y apart = refl
set_swap (z ∷ zs) (suc i) zero x y apart = refl
set_swap (z ∷ zs) (suc i) (suc j) x y apart = ap (λ l. z ∷ l) (set_swap zs i j x y (λ e. apart (ap suc e)))

-- what is set at a place may be set before or after what is set at another
pub set_before : {A : Type 0} (xs : List A) (i j : ℕ) (a b y : A) → i ≢ j → slice_set (slice_set xs j y) i b ≡ slice_set (slice_set (slice_set xs i a) i b) j y
set_before xs i j a b y apart = sym (set_swap xs i j b y apart) ∙ ap (λ l. slice_set l j y) (sym (set_set xs i a b))

-- what stands at a place is what is set there
pub set_back : {A : Type 0} (xs : List A) (i : ℕ) (x : A) → slice_get xs i ≡ Some x → slice_set xs i x ≡ xs
set_back [] i x at = refl
set_back (z ∷ zs) zero x at = let same : z ≡ x = cc in ap (λ l. l ∷ zs) (sym same)
set_back (z ∷ zs) (suc i) x at = ap (λ l. z ∷ l) (set_back zs i x at)

-- a core that is sound up to a limit is so up to another, which is one of a core
pub sound_up_to : {S : Type 0} (stands : S → Strand → List Event → Type 0) (net : Net) (budget limit : ℕ) (journal : List Entry) (out : List ℕ) (actors : List (Actor S)) (d : DeskState) (pool : PoolState) →
    IsSound stands net budget journal out actors d pool → length journal ≤ limit → limit ≤ 50000000 → IsSound stands net limit journal out actors d pool
sound_up_to stands net budget limit journal out actors d pool sound within bounded = record {
  formed = sound.formed;
  legal = sound.legal;
  within = within;
  bounded = bounded;
  last = sound.last;
  apart = sound.apart;
  run = sound.run;
  waiting = sound.waiting;
  strands = sound.strands;
}

-- what is read at a place is what stands there
pub read_is : {A : Type 0} (xs : List A) (i : ℕ) (x w : A) → slice_get xs i ≡ Some x → w ≡ slice_index_or xs i w → w ≡ x
read_is xs i x w at read =
    let got = slice_get_read xs (length xs) i w refl (slice_get_within xs i x at) read in
    let same : Some w ≡ Some x = sym got ∙ at in
    cc

-- The writer showed the next record
module _ {S : Type 0} {stands : S → Strand → List Event → Type 0} {showing : S → List ℕ} {limit : ℕ} {p : Pair} {net : Net} {start : List Entry} {out : List ℕ}
    {floor : FloorState} {actors : List (Actor S)} {journal : List Entry} {source : S} {rounds : ℕ}
    (r : AreRelaying stands showing limit p net start out floor actors journal source rounds) (space : length journal + 2 < limit) where
  abbrev actors0 : List (Actor S)
  actors0 = slice_set actors p.strand r.actor

  abbrev pub t : IsTelling stands net limit journal out actors0 floor.desk r.pool p.strand p.output (Put p.output) r.actor
  t = telling_on stands net limit journal out actors0 floor.desk r.pool p.strand p.output (Put p.output) r.actor source r.sound r.least (omega (arith, space))
      (get_set_same actors p.strand r.actor (without_stage r.actor) r.there) r.was

  -- the strands are two
  pub two : p.strand ≢ p.to
  two = Pairs.far r.pair

  -- the desk has seats for both and a wire for the link, whose record is due and held
  pub place_to : p.to < length floor.desk.seats
  place_to = let count = r.sound.run.kept.laid.seat_count in let within = r.pair.within in omega (arith, count, within)

  pub place_link : p.link < length floor.desk.wires
  place_link = let due = Pairs.due_wire p r.grip t r.pair in slice_get_within floor.desk.wires p.link due.0 due.1

  pub is_due_there : Behind (λ wire. is_due wire ≡ true) floor.desk.wires (Some p.link)
  is_due_there wire at =
      let due = Pairs.due_wire p r.grip t r.pair in
      let same : Some due.0 ≡ Some wire = sym due.1 ∙ at in
      let wire_is : due.0 ≡ wire = cc in
      subst (λ (w : WireState). is_due w ≡ true) wire_is due.2

  pub few_there : Behind (λ wire. wire.tooks < 2 ^ 64 - 1) floor.desk.wires (Some p.link)
  few_there wire at =
      let due = Pairs.due_wire p r.grip t r.pair in
      let same : Some due.0 ≡ Some wire = sym due.1 ∙ at in
      let wire_is : due.0 ≡ wire = cc in
      subst (λ (w : WireState). w.tooks < 2 ^ 64 - 1) wire_is due.3

  pub offers_grip : offer_on (Telling.through floor.desk.wires (Some p.link)) ≡ Some r.grip
  offers_grip = let due = Pairs.due_wire p r.grip t r.pair in ap offer_on due.1 ∙ due.4

  -- the writer's coroutine may be told that its record was put
  pub may_show : CanResume stands source (Put p.output) []
  may_show = resumes_it t [] (no_bytes_put r.actor.looks (desk_after_turn floor.desk p.strand (Put p.output)) (pool_after_turn floor.desk r.pool p.strand (Put p.output)) p.strand p.output)

  -- one more that is out has room
  pub one_out : length out < length net.strands
  one_out = room_out t

  module _ (next : S) (shows : IsShowing stands showing source next p.output true) (b : Actor S) (reader : slice_get actors p.to ≡ Some b) where
    abbrev bytes : List ℕ
    bytes = showing next

    abbrev pub put : Entry
    put = record { strand = p.strand; stream = p.output }

    abbrev pub took : Entry
    took = record { strand = p.to; stream = 0 }

    apart : p.to ≢ p.strand
    apart same = two (sym same)

    there : slice_get actors0 p.to ≡ Some b
    there = get_set_other actors p.strand p.to r.actor apart ∙ reader

    abbrev second : Actor S
    second = with_stage next r.actor

    -- what is read at the reader's place, once it saw the record and the writer's coroutine is back
    pub reader_back : (first m w : Actor S) → w ≡ slice_index_or (slice_set (slice_set actors p.to first) p.strand m) p.to w → w ≡ first
    reader_back first m w read =
        read_is (slice_set (slice_set actors p.to first) p.strand m) p.to first w (get_set_other (slice_set actors p.to first) p.strand p.to m apart ∙ get_set_same actors p.to first b reader) read

    -- the pool, once the record is put there, is the one where it was put after the one before
    pool_is : (n : ℕ) → (n ≡ 0 → r.pool ≡ floor.pool) → (0 < n → (r.pool ≡ pool_refilled floor.pool r.grip (showing source)) × (length (showing source) ≤ 256)) →
        pool_refilled r.pool r.grip bytes ≡ pool_refilled floor.pool r.grip bytes
    pool_is zero fresh old = ap (λ z. pool_refilled z r.grip bytes) (fresh refl)
    pool_is (suc n) fresh old = ap (λ z. pool_refilled z r.grip bytes) (old (omega arith)).0 ∙ refilled_twice floor.pool r.grip (showing source) bytes

    pub same_pool : pool_refilled r.pool r.grip bytes ≡ pool_refilled floor.pool r.grip bytes
    same_pool = pool_is rounds r.fresh r.stale

    -- the reader is home, and may see what is shown
    pub sees : (shown : List ℕ) → (b.looks ≡ true → shown ≡ bytes) → (b.looks ≡ false → shown ≡ []) → (x : S) × (b.stage ≡ Some x) × CanSee stands x 0 shown
    sees shown all none =
        let home = Pairs.home p r.grip t r.pair r.asked r.plain space next bytes shows.0 b there in
        (home.0, home.1, Pairs.can_see p r.grip t r.pair r.asked r.plain space next bytes shows.0 b there home.0 home.1 shown all none)

    -- two entries more
    pub two_steps : (budget : ℕ) (broken : Bool) → AreSteps (is_made OfRecords) (record { net = net; budget = budget; journal = start; out = out; is_broken = broken }) ((r.more ++ put ∷ []) ++ took ∷ [])
    two_steps budget broken =
        let m : Machine = record { net = net; budget = budget; journal = start; out = out; is_broken = broken } in
        let at : List Entry → Machine = λ j. record { net = net; budget = budget; journal = j; out = out; is_broken = broken } in
        let first = Pairs.puts_least p r.grip t r.pair r.asked r.plain space next bytes shows.0 b there budget broken in
        let one = steps_more (is_made OfRecords) m r.more put (r.steps budget broken) (Put p.output) (subst (λ j. LeastEvent (at j) (Some (p.strand, p.output, Put p.output))) r.journal_is first) refl in
        let then = Pairs.sees_least p r.grip t r.pair r.asked r.plain space next bytes shows.0 b there budget broken in
        steps_more (is_made OfRecords) m (r.more ++ put ∷ []) took one (Saw 0)
        (subst (λ j. LeastEvent (at j) (Some (p.to, 0, Saw 0))) (ap (λ j. j ++ put ∷ []) r.journal_is ∙ append_three start r.more (put ∷ [])) then) refl

    pub two_longer : (journal ++ put ∷ []) ++ took ∷ [] ≡ start ++ ((r.more ++ put ∷ []) ++ took ∷ [])
    two_longer = ap (λ j. j ++ took ∷ []) (ap (λ j. j ++ put ∷ []) r.journal_is ∙ append_three start r.more (put ∷ [])) ∙ append_three start (r.more ++ put ∷ []) (took ∷ [])

    -- the sets that hold all that may go on hold them after the sight
    pub shown_covers : IsCovered floor.net floor.desk floor.ready → IsCovering (desk_showing floor.desk p.to p.link) floor.ready
    shown_covers covered =
        Pairs.covers_shown p r.grip t r.pair r.asked r.plain space next bytes shows.0 b there floor.ready (covered.size ∙ ap (λ (n : Net). length n.strands) r.net_is) r.writes r.reads covered.covers

    module _ (x y : S) (was : b.stage ≡ Some x) (asked' : Want) (passes' : Bool) (shown : List ℕ) (all : b.looks ≡ true → shown ≡ bytes) (none : b.looks ≡ false → shown ≡ []) where
      abbrev gone : Actor S
      gone = gone_on (Saw 0) y asked' passes' b

      -- The reader took it
      module _ (seen : HasSeen stands x y 0 shown asked' passes' Takes) where
        pub on_covers : IsCovered floor.net floor.desk floor.ready → IsCovering (desk_relayed floor.desk p.link) floor.ready
        on_covers covered =
            Pairs.covers_on p r.grip t r.pair r.asked r.plain space next bytes shows.0 b there x y was asked' passes' shown all none seen floor.ready
            (covered.size ∙ ap (λ (n : Net). length n.strands) r.net_is) r.writes r.reads covered.covers

        pub three_steps : (budget : ℕ) (broken : Bool) →
            AreSteps (is_made OfRecords) (record { net = net; budget = budget; journal = start; out = out; is_broken = broken }) (((r.more ++ put ∷ []) ++ took ∷ []) ++ took ∷ [])
        three_steps budget broken =
            let m : Machine = record { net = net; budget = budget; journal = start; out = out; is_broken = broken } in
            let at : List Entry → Machine = λ j. record { net = net; budget = budget; journal = j; out = out; is_broken = broken } in
            let last = Pairs.takes_least p r.grip t r.pair r.asked r.plain space next bytes shows.0 b there x y was asked' passes' shown all none seen budget broken in
            steps_more (is_made OfRecords) m ((r.more ++ put ∷ []) ++ took ∷ []) took (two_steps budget broken) (Took 0) (subst (λ j. LeastEvent (at j) (Some (p.to, 0, Took 0))) two_longer last) refl

        -- the two are as far as before, with three entries more
        pub goes_round : (floor' : FloorState) (actors' : List (Actor S)) (journal' : List Entry) → floor'.net ≡ floor.net → floor'.desk ≡ desk_relayed floor.desk p.link → floor'.pool ≡ floor.pool →
            floor'.ready ≡ floor.ready → actors' ≡ slice_set actors p.to gone → journal' ≡ ((journal ++ put ∷ []) ++ took ∷ []) ++ took ∷ [] →
            AreRelaying stands showing limit p net start out floor' actors' journal' next (rounds + 1)
        goes_round floor' actors' journal' nets desks pools readies actors_are journals = record {
          net_is = nets ∙ r.net_is;
          more = ((r.more ++ put ∷ []) ++ took ∷ []) ++ took ∷ [];
          journal_is = journals ∙ ap (λ j. j ++ took ∷ []) two_longer ∙ append_three start ((r.more ++ put ∷ []) ++ took ∷ []) (took ∷ []);
          steps = three_steps;
          writes = ap (λ z. is_member z p.strand) readies ∙ r.writes;
          reads = ap (λ z. is_member z p.to) readies ∙ r.reads;
          actor = second;
          asked = r.asked;
          plain = r.plain;
          was = refl;
          there = ap (λ l. slice_get l p.strand) actors_are ∙ get_set_other actors p.to p.strand gone two ∙ r.there;
          grip = r.grip;
          pool = pool_refilled r.pool r.grip bytes;
          fresh = λ none_yet. absurd (let no : ⊥ = omega (arith, none_yet) in no);
          stale = λ some. (same_pool ∙ ap (λ z. pool_refilled z r.grip bytes) (sym pools), shows.1);
          sound =
              subst (λ d. IsSound stands net limit journal' out (slice_set actors' p.strand second) d (pool_refilled r.pool r.grip bytes)) (sym desks)
              (subst (λ j. IsSound stands net limit j out (slice_set actors' p.strand second) (desk_relayed floor.desk p.link) (pool_refilled r.pool r.grip bytes)) (sym journals)
              (subst (λ l. IsSound stands net limit (((journal ++ put ∷ []) ++ took ∷ []) ++ took ∷ []) out l (desk_relayed floor.desk p.link) (pool_refilled r.pool r.grip bytes))
              (sym (ap (λ l. slice_set l p.strand second) actors_are ∙ set_before actors p.strand p.to r.actor second gone two))
              (Pairs.sound_on p r.grip t r.pair r.asked r.plain space next bytes shows.0 b there x y was asked' passes' shown all none seen)));
          pair = subst (λ d. IsPair net d (pool_refilled r.pool r.grip bytes) p r.grip) (sym desks)
              (Pairs.pair_on p r.grip t r.pair r.asked r.plain space next bytes shows.0 b there x y was asked' passes' shown all none seen);
          least = subst (λ d. LeastEventAwake d (Some (p.strand, p.output, Put p.output))) (sym desks)
              (Pairs.least_on p r.grip t r.pair r.asked r.plain space next bytes shows.0 b there x y was asked' passes' shown all none seen);
        }

      -- It saw it

      -- what is set at the reader's place, once the writer's coroutine is back
      pub set_last : (first last : Actor S) → slice_set (slice_set (slice_set actors p.to first) p.strand second) p.to last ≡ slice_set (slice_set actors0 p.strand second) p.to last
      set_last first last = ap (λ l. slice_set l p.to last) (set_before actors p.strand p.to r.actor second first two) ∙ set_set (slice_set actors0 p.strand second) p.to first last

      -- it is out, after want of memory
      pub lost_round : (net' : Net) (journal' : List Entry) (out' : List ℕ) (actors' : List (Actor S)) (desk' : DeskState) (pool' : PoolState) (first : Actor S) (place : ℕ) → net' ≡ net →
          journal' ≡ (journal ++ put ∷ []) ++ took ∷ [] → out' ≡ out ++ place ∷ [] → place ≡ length journal' → actors' ≡ slice_set (slice_set (slice_set actors p.to first) p.strand second) p.to (given_up gone) →
          desk' ≡ desk_showing floor.desk p.to p.link → pool' ≡ pool_refilled floor.pool r.grip bytes → IsSound stands net' limit journal' out' actors' desk' pool'
      lost_round net' journal' out' actors' desk' pool' first place nets journals outs places actors_are desks pools =
          sound_at nets journals (outs ∙ ap (λ n. out ++ n ∷ []) (places ∙ ap length journals ∙ length_more (journal ++ put ∷ []) took)) (actors_are ∙ set_last first (given_up gone)) desks (pools ∙ sym same_pool)
          (Pairs.sound_out p r.grip t r.pair r.asked r.plain space next bytes shows.0 b there x y was asked' passes')

      pub used_round : IsInUse net (desk_showing floor.desk p.to p.link)
      used_round = Pairs.used_out p r.grip t r.pair r.asked r.plain space next bytes shows.0 b there x y was asked' passes'

      module _ (went : Resumes stands x y (Saw 0) shown asked') where
        pub live_round : Telling.ended_at (desk_showing floor.desk p.to p.link) p.to ≡ false
        live_round = Pairs.live_out p r.grip t r.pair r.asked r.plain space next bytes shows.0 b there x y was asked' passes' shown all none went

        pub comes_round : CanCome (desk_showing floor.desk p.to p.link) (pool_refilled floor.pool r.grip bytes) p.to asked'
        comes_round =
            subst (λ z. CanCome (desk_showing floor.desk p.to p.link) z p.to asked') same_pool
            (Pairs.comes_out p r.grip t r.pair r.asked r.plain space next bytes shows.0 b there x y was asked' passes' shown all none went)

        pub early_round : StaysEarly (desk_showing floor.desk p.to p.link) (pool_refilled floor.pool r.grip bytes) p.to asked'
        early_round =
            subst (λ z. StaysEarly (desk_showing floor.desk p.to p.link) z p.to asked') same_pool
            (Pairs.early_out p r.grip t r.pair r.asked r.plain space next bytes shows.0 b there x y was asked' passes' shown all none went)

        -- it came home with another want
        pub home_round : (passes' ≡ true → PassesOn stands y) → (net' : Net) (journal' : List Entry) (actors' : List (Actor S)) (desk' : DeskState) (pool' : PoolState) (first : Actor S) → net' ≡ net →
            journal' ≡ (journal ++ put ∷ []) ++ took ∷ [] → actors' ≡ slice_set (slice_set (slice_set actors p.to first) p.strand second) p.to (gone_on (Saw 0) y (bare asked') passes' b) →
            HasReturned (desk_showing floor.desk p.to p.link) (pool_refilled floor.pool r.grip bytes) p.to asked' desk' pool' → IsSound stands net' limit journal' out actors' desk' pool'
        home_round passing net' journal' actors' desk' pool' first nets journals actors_are returned =
            sound_at nets journals refl (actors_are ∙ set_last first (gone_on (Saw 0) y (bare asked') passes' b)) refl refl
            (Pairs.sound_home p r.grip t r.pair r.asked r.plain space next bytes shows.0 b there x y was asked' passes' shown all none went passing desk' pool'
            (subst (λ z. HasReturned (desk_showing floor.desk p.to p.link) z p.to asked' desk' pool') (sym same_pool) returned))

-- what it did with the record, where it didn't take it at once
pub saw_only : {S : Type 0} (stands : S → Strand → List Event → Type 0) (x y : S) (shown : List ℕ) (asked : Want) (passes : Bool) (reply : Reply) → reply ≢ Takes →
    HasSeen stands x y 0 shown asked passes reply → Resumes stands x y (Saw 0) shown asked × (passes ≡ true → PassesOn stands y)
saw_only stands x y shown asked passes Takes other seen = absurd (other refl)
saw_only stands x y shown asked passes Passes other seen = (seen.1, λ yes. seen.2)
saw_only stands x y shown asked passes Asks other seen = (seen.1, λ yes. (let no : false ≡ true = sym seen.0 ∙ yes in cc))

-- what is told of an answer that is `Takes`
pub takes_so : {S : Type 0} (stands : S → Strand → List Event → Type 0) (x y : S) (shown : List ℕ) (asked : Want) (passes : Bool) (result : Result Reply NoMemory) (reply : Reply) →
    IfOk result (HasSeen stands x y 0 shown asked passes) → result ≡ Ok reply → reply ≡ Takes → HasSeen stands x y 0 shown asked passes Takes
takes_so stands x y shown asked passes result reply seen is takes =
    subst (HasSeen stands x y 0 shown asked passes) takes (subst (λ z. IfOk z (HasSeen stands x y 0 shown asked passes)) is seen)

-- The rounds begin
module _ {S : Type 0} (stands : S → Strand → List Event → Type 0) (showing : S → List ℕ) (limit : ℕ) (p : Pair) (net : Net) (journal : List Entry) (out : List ℕ) (actors : List (Actor S))
    (d : DeskState) (pool : PoolState) (sound : IsSound stands net limit journal out actors d pool) (due : IsDue net d pool p)
    (a : Actor S) (at : slice_get actors p.strand ≡ Some a) where
  event : LeastEvent (record { net = net; budget = limit; journal = journal; out = out; is_broken = false }) (Some (p.strand, p.output, Put p.output))
  event = event_is stands net limit journal out actors d pool sound false (Some (p.strand, p.output, Put p.output)) due.1

  pub begins_in : p.strand < length net.strands
  begins_in = let least = event in in_range stands net limit journal out actors d pool sound p.strand p.output least.1.0 least.1.1

  -- the writer is home
  pub writer_home : (x : S) × (a.stage ≡ Some x)
  writer_home = let least = event in stage_at stands net limit journal out actors d pool sound p.strand p.output least.1.0 least.1.1 a at

  -- its coroutine is taken out
  pub begins : IsWriter actors p → (source : S) → a.stage ≡ Some source → (floor : FloorState) → floor.net ≡ net → floor.desk ≡ d → floor.pool ≡ pool →
      is_member floor.ready p.strand ≡ true → is_member floor.ready p.to ≡ true → (actors' : List (Actor S)) → actors' ≡ slice_set actors p.strand (without_stage a) →
      AreRelaying stands showing limit p net journal out floor actors' (journal ++ []) source 0
  begins writer source was floor nets desks pools writes reads actors' actors_are = record {
    net_is = nets;
    more = [];
    journal_is = refl;
    steps = λ budget broken. tt;
    writes = writes;
    reads = reads;
    actor = a;
    asked = ap (λ (z : Actor S). z.asked) same ∙ writer.2;
    plain = ap (λ (z : Actor S). z.passes) same ∙ writer.3;
    was = was;
    there = ap (λ l. slice_get l p.strand) actors_are ∙ get_set_same actors p.strand (without_stage a) a at;
    grip = due.0.0;
    pool = pool;
    fresh = λ none_yet. sym pools;
    stale = λ some. absurd (let no : ⊥ = omega (arith, some) in no);
    sound = subst (λ z. IsSound stands net limit (journal ++ []) out (slice_set actors' p.strand a) z pool) (sym desks)
        (subst (λ l. IsSound stands net limit (journal ++ []) out l d pool)
        (sym (ap (λ l. slice_set l p.strand a) actors_are ∙ set_set actors p.strand (without_stage a) a ∙ set_back actors p.strand a at))
        (subst (λ j. IsSound stands net limit j out actors d pool) (sym (append_none journal)) sound));
    pair = subst (λ z. IsPair net z pool p due.0.0) (sym desks) due.0.1;
    least = subst (λ z. LeastEventAwake z (Some (p.strand, p.output, Put p.output))) (sym desks) due.1;
  }
    where
      same : a ≡ writer.0
      same = let one : Some a ≡ Some writer.0 = sym at ∙ writer.1 in cc

-- The writer's coroutine comes back
module _ {S : Type 0} {stands : S → Strand → List Event → Type 0} {showing : S → List ℕ} {limit : ℕ} {p : Pair} {net : Net} {start : List Entry} {out : List ℕ}
    {floor : FloorState} {actors : List (Actor S)} {journal : List Entry} {source : S} {rounds : ℕ}
    (r : AreRelaying stands showing limit p net start out floor actors journal source rounds) where
  -- with the record that it showed last, where that isn't in the pool yet
  pub last_pool : (pool' : PoolState) → (rounds ≡ 0 → pool' ≡ floor.pool) → (0 < rounds → pool' ≡ pool_refilled floor.pool r.grip (showing source)) → pool' ≡ r.pool
  last_pool pool' kept put = by_case rounds r.fresh r.stale kept put
    where
      by_case : (n : ℕ) → (n ≡ 0 → r.pool ≡ floor.pool) → (0 < n → (r.pool ≡ pool_refilled floor.pool r.grip (showing source)) × (length (showing source) ≤ 256)) →
          (n ≡ 0 → pool' ≡ floor.pool) → (0 < n → pool' ≡ pool_refilled floor.pool r.grip (showing source)) → pool' ≡ r.pool
      by_case zero fresh old kept put = kept refl ∙ sym (fresh refl)
      by_case (suc n) fresh old kept put = put (omega arith) ∙ sym (old (omega arith)).0

  holders_still : (n : ℕ) → (n ≡ 0 → r.pool ≡ floor.pool) → (0 < n → (r.pool ≡ pool_refilled floor.pool r.grip (showing source)) × (length (showing source) ≤ 256)) →
      holders_at floor.pool r.grip ≡ holders_at r.pool r.grip
  holders_still zero fresh old = ap (λ z. holders_at z r.grip) (sym (fresh refl))
  holders_still (suc n) fresh old =
      sym (ap (λ z. holders_at z r.grip) (old (omega arith)).0 ∙ ap holders_of (placed_here floor.pool.records r.grip (Some (refilled (showing source) (holders_at floor.pool r.grip)))))

  -- what is offered is held, before the record that was shown is put there too
  pub held_still : offer_on (Telling.through floor.desk.wires (Some p.link)) ≡ Some r.grip → IsHeldIn floor.pool (offer_on (Telling.through floor.desk.wires (Some p.link)))
  held_still offers = subst (IsHeldIn floor.pool) (sym offers) (some_held (record_at floor.pool r.grip) (holders_still rounds r.fresh r.stale ∙ r.pair.relaying.two))
    where
      some_held : (place : Option Held) → holders_of place ≡ 2 → IsSome place
      some_held None is = absurd (let no : ⊥ = omega (arith, is) in no)
      some_held (Some held) is = refl

  -- what is read at the reader's place is what is kept of it
  pub reader_at : (b : Actor S) → b ≡ slice_index_or actors p.to b → slice_get actors p.to ≡ Some b
  reader_at b read =
      let count = r.sound.strands.count in
      let within = r.pair.within in
      let same = length-set actors p.strand r.actor in
      slice_get_read actors (length actors) p.to b refl (omega (arith, within, count, same)) read

  -- something is kept of it
  pub reader_there : (b : Actor S) × (slice_get actors p.to ≡ Some b)
  reader_there =
      let count = r.sound.strands.count in
      let within = r.pair.within in
      let same = length-set actors p.strand r.actor in
      at_some actors p.to (omega (arith, within, count, same))

  pub reader_in : p.to < length actors
  reader_in = slice_get_within actors p.to reader_there.0 reader_there.1

  -- the link has a wire, and what is offered there is held
  pub place_end : p.link < length floor.desk.wires
  place_end = slice_get_within floor.desk.wires p.link r.pair.relaying.due.0 r.pair.relaying.due.1

  pub held_end : IsHeldIn floor.pool (offer_on (Telling.through floor.desk.wires (Some p.link)))
  held_end = held_still (ap offer_on r.pair.relaying.due.1 ∙ r.pair.relaying.due.3)

  -- its place is one of the actors'
  pub writer_in : p.strand < length actors
  writer_in = slice_get_within actors p.strand (without_stage r.actor) r.there

  back_at : slice_set actors p.strand (with_stage source (without_stage r.actor)) ≡ slice_set actors p.strand r.actor
  back_at = ap (λ z. slice_set actors p.strand (record { stage = z; asked = r.actor.asked; looks = r.actor.looks; saw_end = r.actor.saw_end; passes = r.actor.passes })) (sym r.was)

  -- the record that was shown last is short
  pub short_end : 0 < rounds → length (showing source) ≤ 256
  short_end some = (r.stale some).1

  -- The floor is as it was, but that the record is in the pool
  module _ (floor' : FloorState) (nets : floor'.net ≡ floor.net) (desks : floor'.desk ≡ floor.desk) (kept : rounds ≡ 0 → floor'.pool ≡ floor.pool)
      (put : 0 < rounds → (grip : ℕ) → offer_on (Telling.through floor.desk.wires (Some p.link)) ≡ Some grip → floor'.pool ≡ pool_refilled floor.pool grip (showing source)) where
    pool_end : floor'.pool ≡ r.pool
    pool_end = last_pool floor'.pool kept (λ some. put some r.grip (ap offer_on r.pair.relaying.due.1 ∙ r.pair.relaying.due.3))

    -- the core is sound
    pub sound_end : (journal' : List Entry) (back : List (Actor S)) → journal' ≡ journal → ((a : Actor S) → slice_get actors p.strand ≡ Some a → back ≡ slice_set actors p.strand (with_stage source a)) →
        IsSound stands floor'.net limit journal' out back floor'.desk floor'.pool
    sound_end journal' back journals backs = sound_at (nets ∙ r.net_is) journals refl (backs (without_stage r.actor) r.there ∙ back_at) desks pool_end r.sound

    -- and the writer's record is due to be put
    pub due_end : IsDue floor'.net floor'.desk floor'.pool p
    due_end = (
      (r.grip, subst (λ n. IsPair n floor'.desk floor'.pool p r.grip) (sym (nets ∙ r.net_is)) (subst (λ d. IsPair net d floor'.pool p r.grip) (sym desks) (subst (λ z. IsPair net floor.desk z p r.grip) (sym pool_end) r.pair))),
      subst (λ d. LeastEventAwake d (Some (p.strand, p.output, Put p.output))) (sym desks) r.least,
    )

-- How the rounds end

pub ends_due : {S : Type 0} (stands : S → Strand → List Event → Type 0) (showing : S → List ℕ) (m : Machine) (p : Pair) (floor : FloorState) (actors : List (Actor S)) (source : S) (n : ℕ) (last : Last) →
    EndsAt stands showing m p floor actors source n last → last ≡ Ends.Due → AreOn stands showing m p floor actors source n
ends_due stands showing m p floor actors source n last ends is = subst (EndsAt stands showing m p floor actors source n) is ends

pub ends_shown : {S : Type 0} (stands : S → Strand → List Event → Type 0) (showing : S → List ℕ) (m : Machine) (p : Pair) (floor : FloorState) (actors : List (Actor S)) (source : S) (n : ℕ) (last : Last) →
    EndsAt stands showing m p floor actors source n last → last ≢ Ends.Due → HasShown stands showing m p floor actors source n last
ends_shown stands showing m p floor actors source n Ends.Due ends other = absurd (other refl)
ends_shown stands showing m p floor actors source n Ends.Asks ends other = ends
ends_shown stands showing m p floor actors source n Ends.Lacks ends other = ends

-- The reader saw the record that was shown last
module _ {S : Type 0} {stands : S → Strand → List Event → Type 0} {showing : S → List ℕ} {m : Machine} {p : Pair} {floor : FloorState} {actors : List (Actor S)} {source : S} {n : ℕ} {last : Last}
    (h : HasShown stands showing m p floor actors source n last) where
  -- what is kept of it then, and of the writer once its coroutine is back
  abbrev reader : Actor S
  reader = gone_on (Saw 0) h.went h.asked h.passes h.reader

  abbrev writer : Actor S
  writer = with_stage source h.relaying.actor

  abbrev pub both : List (Actor S)
  both = slice_set (slice_set h.before p.to reader) p.strand writer

  -- what was shown may be offered
  pub shows_last : CanShow floor p
  shows_last = record {
    to = place_to h.relaying h.space;
    link = place_link h.relaying h.space;
    held = held_end h.relaying;
    due = is_due_there h.relaying h.space;
    covers = shown_covers h.relaying h.space source h.shows h.reader h.there;
  }

  pub short_last : length (showing source) ≤ 256
  short_last = h.shows.1

  -- by the grip of the one before
  pub offers_last : offer_on (Telling.through floor.desk.wires (Some p.link)) ≡ Some h.relaying.grip
  offers_last = offers_grip h.relaying h.space

  -- one more that is out has room
  pub one_out_last : length m.out < length m.net.strands
  one_out_last = one_out h.relaying h.space

  -- The writer's coroutine is back

  writer_at : slice_get actors p.strand ≡ Some (without_stage h.relaying.actor)
  writer_at = ap (λ l. slice_get l p.strand) h.actors_are ∙ get_set_other h.before p.to p.strand reader (two h.relaying h.space) ∙ h.relaying.there

  pub writer_in_last : p.strand < length actors
  writer_in_last = slice_get_within actors p.strand (without_stage h.relaying.actor) writer_at

  pub back_last : (back : List (Actor S)) → ((a : Actor S) → slice_get actors p.strand ≡ Some a → back ≡ slice_set actors p.strand (with_stage source a)) → back ≡ both
  back_last back backs = backs (without_stage h.relaying.actor) writer_at ∙ ap (λ l. slice_set l p.strand writer) h.actors_are

  -- what is read at the reader's place
  pub reader_in_last : (back : List (Actor S)) → back ≡ both → p.to < length back
  reader_in_last back backs =
      let apart : p.to ≢ p.strand = λ is. two h.relaying h.space (sym is) in
      slice_get_within back p.to reader (ap (λ l. slice_get l p.to) backs ∙ get_set_other (slice_set h.before p.to reader) p.strand p.to writer apart ∙ get_set_same h.before p.to reader h.reader h.there)

  pub reader_last : (back : List (Actor S)) → back ≡ both → (w : Actor S) → w ≡ slice_index_or back p.to w → w ≡ reader
  reader_last back backs w read = reader_back h.relaying h.space source h.shows h.reader h.there reader writer w (read ∙ ap (λ l. slice_index_or l p.to w) backs)

  -- The journal has two entries more
  module _ (journal' : List Entry) (journals : journal' ≡ ((m.journal ++ rounds p n) ++ put_of p ∷ []) ++ took_of p ∷ []) where
    pub steps_last : HasRelayed m.net m.out m.journal journal'
    steps_last = (
      (h.relaying.more ++ put_of p ∷ []) ++ took_of p ∷ [],
      journals ∙ two_longer h.relaying h.space source h.shows h.reader h.there,
      two_steps h.relaying h.space source h.shows h.reader h.there,
    )

    pub longer_last : length m.journal < length journal'
    longer_last = two_longer_by p m.journal n journal' journals

    -- The record is in the pool, and the reader was told that it sees it
    module _ (floor' : FloorState) (nets : floor'.net ≡ floor.net) (desks : floor'.desk ≡ desk_showing floor.desk p.to p.link) (pools : floor'.pool ≡ pool_refilled floor.pool h.relaying.grip (showing source))
        (back : List (Actor S)) (backs : back ≡ both) where
      set_both : (x y : Actor S) → x ≡ y → slice_set back p.to x ≡ slice_set both p.to y
      set_both x y is = ap (λ l. slice_set l p.to x) backs ∙ ap (λ z. slice_set both p.to z) is

      -- it is out, after want of memory
      pub lost_last : (asked : Want) (gone : Actor S) (out' : List ℕ) (place : ℕ) → gone ≡ given_up (gone_on (Saw 0) h.went asked h.passes h.reader) → out' ≡ m.out ++ place ∷ [] → place ≡ length journal' →
          IsSound stands floor'.net m.budget journal' out' (slice_set back p.to gone) floor'.desk floor'.pool
      lost_last asked gone out' place is outs places =
          lost_round h.relaying h.space source h.shows h.reader h.there h.told h.went h.was asked h.passes h.shown h.all h.none floor'.net journal' out' (slice_set back p.to gone) floor'.desk floor'.pool reader place
          (nets ∙ h.relaying.net_is) journals outs places (set_both gone (given_up (gone_on (Saw 0) h.went asked h.passes h.reader)) is) desks pools

      -- it may come home
      pub comes_last : (last ≢ Ends.Lacks) → floor'.ready ≡ floor.ready → (asked : Want) → asked ≡ h.asked → MayCome floor' p.to asked
      comes_last other readies asked asks =
          let so = h.resumed other in record {
            used = subst (λ k. IsInUse k floor'.desk) (sym (nets ∙ h.relaying.net_is)) (subst (λ d. IsInUse m.net d) (sym desks)
                (used_round h.relaying h.space source h.shows h.reader h.there h.told h.went h.was h.asked h.passes h.shown h.all h.none));
            live = ap (λ d. Telling.ended_at d p.to) desks ∙ live_round h.relaying h.space source h.shows h.reader h.there h.told h.went h.was h.asked h.passes h.shown h.all h.none so.0;
            can = subst (λ w. CanCome floor'.desk floor'.pool p.to w) (sym asks) (subst (λ d. CanCome d floor'.pool p.to h.asked) (sym desks)
                (subst (λ z. CanCome (desk_showing floor.desk p.to p.link) z p.to h.asked) (sym pools)
                (comes_round h.relaying h.space source h.shows h.reader h.there h.told h.went h.was h.asked h.passes h.shown h.all h.none so.0)));
            early = subst (λ w. StaysEarly floor'.desk floor'.pool p.to w) (sym asks) (subst (λ d. StaysEarly d floor'.pool p.to h.asked) (sym desks)
                (subst (λ z. StaysEarly (desk_showing floor.desk p.to p.link) z p.to h.asked) (sym pools)
                (early_round h.relaying h.space source h.shows h.reader h.there h.told h.went h.was h.asked h.passes h.shown h.all h.none so.0)));
            here = ap (λ z. is_member z p.to) readies ∙ h.relaying.reads;
            strand = subst (λ (k : Net). p.to < length k.strands) (sym (nets ∙ h.relaying.net_is)) h.relaying.pair.within;
          }

      -- and the core is sound once it is home
      pub home_last : (last ≢ Ends.Lacks) → (w gone : Actor S) → w ≡ reader → gone ≡ asking_for (bare w.asked) w → (floor'' : FloorState) → floor''.net ≡ floor'.net →
          HasReturned floor'.desk floor'.pool p.to w.asked floor''.desk floor''.pool → IsSound stands floor''.net m.budget journal' m.out (slice_set back p.to gone) floor''.desk floor''.pool
      home_last other w gone same is floor'' net_still returned =
          let so = h.resumed other in
          home_round h.relaying h.space source h.shows h.reader h.there h.told h.went h.was h.asked h.passes h.shown h.all h.none so.0 so.1
          floor''.net journal' (slice_set back p.to gone) floor''.desk floor''.pool reader (net_still ∙ nets ∙ h.relaying.net_is) journals
          (set_both gone (gone_on (Saw 0) h.went (bare h.asked) h.passes h.reader) (is ∙ ap (λ (z : Actor S). asking_for (bare z.asked) z) same))
          (subst (λ d. HasReturned d (pool_refilled floor.pool h.relaying.grip (showing source)) p.to h.asked floor''.desk floor''.pool) desks
          (subst (λ z. HasReturned floor'.desk z p.to h.asked floor''.desk floor''.pool) pools
          (subst (λ (z : Actor S). HasReturned floor'.desk floor'.pool p.to z.asked floor''.desk floor''.pool) same returned)))

      -- one or the other, as it was tried
      pub home_or_lost : (result : Result Relayed NoMemory) → (last ≢ Ends.Lacks) → (w gone : Actor S) → w ≡ reader → (floor'' : FloorState) → floor''.net ≡ floor'.net → (out' : List ℕ) (place : ℕ) → place ≡ length journal' →
          IfOk result (λ next. (next ≡ Next.Home) × HasReturned floor'.desk floor'.pool p.to w.asked floor''.desk floor''.pool × (gone ≡ asking_for (bare w.asked) w) × (out' ≡ m.out)) →
          OnErr result ((floor''.desk ≡ floor'.desk) × (floor''.pool ≡ floor'.pool) × ((asked : Want) × (gone ≡ given_up (asking_for asked w))) × (out' ≡ m.out ++ place ∷ [])) →
          IsSound stands floor''.net m.budget journal' out' (slice_set back p.to gone) floor''.desk floor''.pool
      home_or_lost (Ok next) other w gone same floor'' net_still out' place places home lost =
          sound_at refl refl home.3 refl refl refl (home_last other w gone same home.2 floor'' net_still home.1)
      home_or_lost (Err e) other w gone same floor'' net_still out' place places home lost =
          sound_at net_still refl refl refl lost.0 lost.1 (lost_last lost.2.0 gone out' place (lost.2.1 ∙ ap (λ (z : Actor S). given_up (asking_for lost.2.0 z)) same) lost.3 places)

    -- it comes home with a longer journal
    pub goes_home : (result : Result Relayed NoMemory) (floor' floor'' : FloorState) (w gone : Actor S) (out' : List ℕ) →
        IfOk result (λ next. (next ≡ Next.Home) × HasReturned floor'.desk floor'.pool p.to w.asked floor''.desk floor''.pool × (gone ≡ asking_for (bare w.asked) w) × (out' ≡ m.out)) →
        IfOk result (λ next. HasRelayed m.net m.out m.journal journal' × (out' ≡ m.out) × Follows next floor'' p m.journal journal')
    goes_home (Ok next) floor' floor'' w last_of out' home = (steps_last, home.3, subst (λ k. Follows k floor'' p m.journal journal') (sym home.0) longer_last)
    goes_home (Err e) floor' floor'' w last_of out' home = tt
