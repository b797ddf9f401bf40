-- A sound core stays sound through a turn and a coming home.
use Rattle.std.proofs.Common.{◌≡◌, ◌≢◌, inl, inr, ℕ, zero, suc, ◌≤◌, ◌<◌, Bool, true, false, cond, ◌||◌, ◌==◌, List, [], ◌∷◌, ◌++◌, length, refl, sym, ◌∙◌, ap, subst, arith, Option, Some, None, slice_get, slice_set, length-set, is_some}
use Rattle.std.proofs.lemmas.Bool.{ne_eqb}
use Rattle.std.proofs.lemmas.Option.{slice_get_within, slice_get_read}
use Rattle.std.specs.Prelude.{take, slice_index_or}
use Rattle.std.specs.Option.{option_map, option_map_or}
use Rattle.pipe_model.specs.declared.net.Net.{Net}
use Rattle.pipe_model.specs.declared.net.Strand.{Strand}
use Rattle.pipe_model.specs.declared.step.Entry.{Entry}
use Rattle.pipe_model.specs.declared.step.Seen.{Seen}
use Rattle.pipe_model.specs.declared.step.Seen.TheVariants as Told
use Rattle.pipe_model.specs.declared.step.Want.{Want as Asked}
use Rattle.pipe_model.specs.Event.{Event, Want, has_ended, last_seen_on}
use Rattle.pipe_model.specs.Event.Event.{Up, Saw, SawEnd, SawAllEnd, Took, Put, Refused, Primed, Opened, Joined, Severed, Ended}
use Rattle.pipe_model.specs.Next.{next, wanted_by, IsOwn}
use Rattle.pipe_model.specs.Table.{form}
use Rattle.pipe_model.specs.State.{Who, State, past, nothing_yet, with_event, with_some_event, strand_at, link_in}
use Rattle.pipe_model.specs.Licence.{Left, none_left, want_after, want_at, at_hand, answer, sight_of, licence}
use Rattle.pipe_model.specs.Play.{play}
use Rattle.pipe_model.proofs.Numbers.{equal_or_not, test_same}
use Rattle.pipe_model.proofs.Lists.{at_some, get_set_same, get_set_other, length_more}
use Rattle.record_pool.specs.PoolState.{PoolState}
use Rattle.record_pool.specs.Places.{bytes_at}
use Rattle.stage_steps.specs.Coroutine.{told, bytes_with, meaning, last_seen, IsSeenBefore}
use Rattle.stage_steps.specs.PassesOn.{PassesOn}
use Rattle.run_desk.specs.Desk.{DeskState}
use Rattle.run_desk.specs.Telling.{sight_through}
use Rattle.run_desk.specs.Standing.{left_out, left_in}
use Rattle.run_desk.specs.Turns.{desk_after_turn, pool_after_turn, CanTurn, CanCome, bare, hand_on}
use Rattle.connectors.specs.WireState.{IsHeldIn}
use Rattle.run_desk.specs.Holding.{RunStands, waiting_of}
use Rattle.run_desk.specs.Telling as Telling
use Rattle.run_desk.proofs.Runs.{run_can, run_made, run_can_come, run_home, run_gone}
use Rattle.run_desk.proofs.Acts.{goes}
use Rattle.run_desk.proofs.Conditions as conditions
use Rattle.run_desk.proofs.Limits.{sights_held}
use Rattle.run_desk.proofs.Offers.{sight_bytes}
use Rattle.run_desk.proofs.Shown.{shows_it}
use Rattle.run_desk.proofs.Sees.{seen_is}
use Rattle.run_desk.proofs.Waits.{waiting_made, waiting_home}
use Rattle.confluence_laws.proofs.Basics.{at_same, at_other}
use Rattle.confluence_laws.proofs.Reached.{play_reached, saw_it}
use Rattle.confluence_laws.proofs.LeftOut.{licensed_too}
use Rattle.confluence_laws.proofs.Lengths.{play_last, legal_last}
use Rattle.core_machine.specs.declared.actor.Actor.{Actor}
use Rattle.core_machine.specs.Actors.{is_end, come_back, looks_in, bytes_told, DoesPass}
use Rattle.core_machine.specs.Answered.{LeastReady, LeastEvent, Shows}
use Rattle.core_machine.specs.Floor.{FloorState, IsInUse, CanMake, StaysEarly}
use Rattle.core_machine.specs.Jobs.{JobStands, HasGoneOn}
use Rattle.core_machine.specs.Machine.{is_of, is_at, left_by, without, is_among, looks_at, IsLawful}
use Rattle.core_machine.specs.Sound.{IsLast, IsActor, AreActors, IsSound}
use Rattle.core_machine.specs.Woken.{AsksEarly, HasReturned, LeastAwake, LeastEventAwake}
use Rattle.core_machine.proofs.Away.{left_turned, last_turned, apart_turned, left_home, apart_home, last_home, among_last, among_left, one_strand, fewer_out}
use Rattle.core_machine.proofs.Runs.{licensed_inside}
use Rattle.core_machine.proofs.Plays.{get_take, looks_here, looks_nowhere, play_length, end_seen, shows_bare, early_on}

-- what holds on a floor holds on another that differs by the set alone
pub on_floor : (P : Net → DeskState → PoolState → Type 0) (f h : FloorState) → h.net ≡ f.net → h.desk ≡ f.desk → h.pool ≡ f.pool → P f.net f.desk f.pool → P h.net h.desk h.pool
on_floor P f h net desk pool holds = subst (λ n. P n h.desk h.pool) (sym net) (subst (λ d. P f.net d h.pool) (sym desk) (subst (λ p. P f.net f.desk p) (sym pool) holds))

module _ {S : Type 0} (stands : S → Strand → List Event → Type 0) (net : Net) (budget : ℕ) (journal : List Entry) (out : List ℕ) (actors : List (Actor S)) (d : DeskState) (pool : PoolState)
    (sound : IsSound stands net budget journal out actors d pool) where
  abbrev pub st : State
  st = play net journal

  abbrev pub left : Left
  left = left_by journal out

  pub own : (t : Who) (q : Strand) → strand_at net st t ≡ Some q → IsOwn q (past st t)
  own t q is = (play_reached net sound.formed journal sound.legal).own t q is

  pub short : (t : Who) → length (past st t) < 18446744073709551615
  short t = let a = play_length net nothing_yet journal t in let b = sound.within in let c = sound.bounded in omega (arith, a, b, c)

  few : waiting_of d.wires ≤ 50000000
  few = let a = sound.waiting in let b = sound.within in let c = sound.bounded in omega (arith, a, b, c)

  -- Readiness

  pub desk_sees : (s : Who) (k : ℕ) → Telling.seen_at d s k ≡ option_map told (licence net st left s k)
  desk_sees s k = seen_is net (bytes_at pool) st left d sound.formed sound.run.kept s k

  some_map : (x : Option Event) → is_some (option_map told x) ≡ is_some x
  some_map None = refl
  some_map (Some e) = refl

  pub ready_is : (s : Who) (k : ℕ) → is_some (Telling.seen_at d s k) ≡ is_some (licence net st left s k)
  ready_is s k = ap is_some (desk_sees s k) ∙ some_map (licence net st left s k)

  pub none_is : (s : Who) (k : ℕ) → Telling.seen_at d s k ≡ None → licence net st left s k ≡ None
  none_is s k is = go (licence net st left s k) (sym (desk_sees s k) ∙ is)
    where
      go : (x : Option Event) → option_map told x ≡ None → x ≡ None
      go None e = refl
      go (Some f) e = cc

  pub some_is : (s : Who) (k : ℕ) (seen : Seen) → Telling.seen_at d s k ≡ Some seen → (e : Event) × (licence net st left s k ≡ Some e) × (told e ≡ seen)
  some_is s k seen is = go (licence net st left s k) refl (sym (desk_sees s k) ∙ is)
    where
      go : (x : Option Event) → licence net st left s k ≡ x → option_map told x ≡ Some seen → (e : Event) × (licence net st left s k ≡ Some e) × (told e ≡ seen)
      go None at e = cc
      go (Some f) at e = (f, at, cc)

  pub seen_back : (s : Who) (k : ℕ) (e : Event) → licence net st left s k ≡ Some e → Telling.seen_at d s k ≡ Some (told e)
  seen_back s k e is = desk_sees s k ∙ ap (option_map told) is

  least_is : (b : Bool) (r : Option (ℕ × ℕ)) → LeastAwake d r → LeastReady (record { net = net; budget = budget; journal = journal; out = out; is_broken = b }) r
  least_is b None is = λ s k. none_is s k (is s k)
  least_is b (Some r) is = (sym (ready_is r.0 r.1) ∙ is.0.0, λ k p. none_is r.0 k (is.0.1 k p), λ t k p. none_is t k (is.1 t k p))

  pub event_is : (b : Bool) (r : Option (ℕ × ℕ × Seen)) → LeastEventAwake d r → LeastEvent (record { net = net; budget = budget; journal = journal; out = out; is_broken = b }) r
  event_is b None is = least_is b None is
  event_is b (Some r) is = (least_is b (Some (r.0, r.1)) is.0, some_is r.0 r.1 r.2 is.1)

  -- and the other way round: what it is of the core it is on the desk
  pub event_back : (b : Bool) (r : ℕ × ℕ × Seen) → LeastEvent (record { net = net; budget = budget; journal = journal; out = out; is_broken = b }) (Some r) → LeastEventAwake d (Some r)
  event_back b r is = (((ready_is r.0 r.1 ∙ is.0.0, λ k p. none_back r.0 k (is.0.1 k p)), λ t k p. none_back t k (is.0.2 t k p)), seen_back r.0 r.1 is.1.0 is.1.1 ∙ ap Some is.1.2)
    where
      none_back : (s : Who) (k : ℕ) → licence net st left s k ≡ None → Telling.seen_at d s k ≡ None
      none_back s k none = desk_sees s k ∙ ap (option_map told) none

  asks_early : AsksEarly d
  asks_early = early_on net st sound.formed own (bytes_at pool) left d sound.run.kept

  pub in_use : IsInUse net d
  in_use = record { texts = bytes_at pool; st = st; left = left; kept = sound.run.kept; early = asks_early }

  pub ended_here : (s : Who) → s < length net.strands → Telling.ended_at d s ≡ has_ended (past st s)
  ended_here s place =
      let a = at_some d.seats s (subst (λ n. s < n) (sym sound.run.kept.laid.seat_count) place) in
      ap Telling.ended_of a.1 ∙ (sound.run.kept.seats s a.0 a.1).ended

  pub lawful : (b : Bool) → IsLawful (record { net = net; budget = budget; journal = journal; out = out; is_broken = b })
  lawful b = record { legal = sound.legal; within = sound.within; bounded = sound.bounded }

  -- Records

  pub sight_held : (s i : ℕ) → IsHeldIn pool (sight_through d.sights (Telling.sight_door d s i))
  sight_held s i = sights_held d.wires d.sights pool sound.run.pooled (Telling.sight_door d s i)

  pub hand_held : (s i : ℕ) → IsHeldIn pool (hand_on (Telling.wire_in d s i))
  hand_held s i = go (hand_on (Telling.wire_in d s i)) refl
    where
      go : (x : Option ℕ) → hand_on (Telling.wire_in d s i) ≡ x → IsHeldIn pool x
      go None is = tt
      go (Some grip) is = conditions.hand_held net st left d pool sound.formed sound.run (Telling.in_door d s i) grip is

  -- the record that a licensed look shows
  pub looks_long : (s k : ℕ) (e : Event) (i : ℕ) → licence net st left s k ≡ Some e → told e ≡ Told.Saw i →
      length (option_map_or (bytes_at pool) (hand_on (Telling.wire_in d s i)) []) ≡ length (bytes_with true e)
  looks_long s k e i may is = go e may is
    where
      go : (f : Event) → licence net st left s k ≡ Some f → told f ≡ Told.Saw i → length (option_map_or (bytes_at pool) (hand_on (Telling.wire_in d s i)) []) ≡ length (bytes_with true f)
      go (Saw j rec) may is =
          let same : j ≡ i = cc in
          let there = shows_it net (bytes_at pool) st left d sound.run.kept s i rec (subst (λ z. at_hand net st left (link_in net st s z) ≡ Some rec) same (saw_it net st left s k j rec may)) in
          ap (λ x. length (option_map_or (bytes_at pool) x [])) there.1 ∙ ap length there.2
      go (Up l c) may is = cc
      go (SawEnd j) may is = cc
      go SawAllEnd may is = cc
      go (Took j) may is = cc
      go (Put o r) may is = cc
      go (Refused o) may is = cc
      go (Primed b) may is = cc
      go (Opened j) may is = cc
      go (Joined j c) may is = cc
      go (Severed j) may is = cc
      go (Ended c) may is = cc

  -- the record that a strand saw last, where that was its last event
  pub bytes_are : (s : Who) (e : Event) (h : List Event) (i : ℕ) → past st s ≡ e ∷ h → has_ended h ≡ false → told e ≡ Told.Saw i →
      option_map_or (bytes_at pool) (sight_through d.sights (Telling.sight_door d s i)) [] ≡ bytes_with true e
  bytes_are s e h i past_is going is = go e past_is is
    where
      go : (f : Event) → past st s ≡ f ∷ h → told f ≡ Told.Saw i → option_map_or (bytes_at pool) (sight_through d.sights (Telling.sight_door d s i)) [] ≡ bytes_with true f
      go (Saw j rec) past_is is =
          let same : j ≡ i = cc in
          sight_bytes net (bytes_at pool) st left d sound.run.kept s (ap has_ended past_is ∙ going) i
          ∙ ap (last_seen_on i) past_is ∙ ap (λ b. cond b rec (last_seen_on i h)) (ap (λ z. z == i) same ∙ test_same i)
      go (Up l c) past_is is = cc
      go (SawEnd j) past_is is = cc
      go SawAllEnd past_is is = cc
      go (Took j) past_is is = cc
      go (Put o r) past_is is = cc
      go (Refused o) past_is is = cc
      go (Primed b) past_is is = cc
      go (Opened j) past_is is = cc
      go (Joined j c) past_is is = cc
      go (Severed j) past_is is = cc
      go (Ended c) past_is is = cc

  -- the same, whatever a strand was told last and whether it looks
  pub told_are : (b : Bool) (s : Who) (e : Event) (h : List Event) (seen : Seen) → past st s ≡ e ∷ h → has_ended h ≡ false → told e ≡ seen → bytes_told b d pool s seen ≡ bytes_with b e
  told_are b s e h seen past_is going is = ap (bytes_told b d pool s) (sym is) ∙ go b e past_is
    where
      go : (b : Bool) (f : Event) → past st s ≡ f ∷ h → bytes_told b d pool s (told f) ≡ bytes_with b f
      go false f past_is = refl
      go true (Saw i rec) past_is = bytes_are s (Saw i rec) h i past_is going refl
      go true (Up l c) past_is = refl
      go true (SawEnd i) past_is = refl
      go true SawAllEnd past_is = refl
      go true (Took i) past_is = refl
      go true (Put o r) past_is = refl
      go true (Refused o) past_is = refl
      go true (Primed p) past_is = refl
      go true (Opened i) past_is = refl
      go true (Joined i c) past_is = refl
      go true (Severed i) past_is = refl
      go true (Ended c) past_is = refl

  -- who looks is told by what is kept of it
  pub looks_are : (s : Who) → looks_in actors s ≡ looks_at net s
  looks_are s = go (slice_get actors s) refl (slice_get net.strands s) refl
    where
      none_some : {X : Type 0} (xs : List X) → s < length xs → slice_get xs s ≡ None → ⊥
      none_some xs inside off = (let a = at_some xs s inside in let z : Some a.0 ≡ None = sym a.1 ∙ off in cc)

      go : (x : Option (Actor S)) → slice_get actors s ≡ x → (y : Option Strand) → slice_get net.strands s ≡ y → looks_in actors s ≡ looks_at net s
      go None off None out = looks_nowhere actors s off ∙ ap (λ y. option_map_or (λ (p : Strand). (form p).looks) y false) (sym out)
      go None off (Some p) is = let n = slice_get_within net.strands s _ is in let c = sound.strands.count in absurd (none_some actors (omega (arith, n, c)) off)
      go (Some a) at None out = let n = slice_get_within actors s _ at in let c = sound.strands.count in absurd (none_some net.strands (omega (arith, n, c)) out)
      go (Some a) at (Some p) is = looks_here actors s a at ∙ (sound.strands.each s p a is at).looks ∙ ap (λ y. option_map_or (λ (p : Strand). (form p).looks) y false) (sym is)

  pub its_looks : (s : Who) (a : Actor S) → slice_get actors s ≡ Some a → a.looks ≡ looks_at net s
  its_looks s a at = sym (looks_here actors s a at) ∙ looks_are s

  -- what is read at a strand's place is what is kept of it
  pub actor_at : (s : Who) (a : Actor S) → s < length net.strands → a ≡ slice_index_or actors s a → slice_get actors s ≡ Some a
  actor_at s a within read = let count = sound.strands.count in slice_get_read actors (length actors) s a refl (omega (arith, within, count)) read

  -- where it says that its coroutine passes a record on, that does
  pub does_pass : (s : Who) (a : Actor S) → s < length net.strands → slice_get actors s ≡ Some a → DoesPass stands a
  does_pass s a within at = let p = at_some net.strands s within in (sound.strands.each s p.0 a p.1 at).passes

  -- A turn

  module _ (s : Who) (k : ℕ) (e : Event) (may : licence net st left s k ≡ Some e) where
    abbrev pub entry : Entry
    entry = record { strand = s; stream = k }

    pub is_home : left s ≡ false
    is_home = go (left s) refl
      where
        go : (b : Bool) → left s ≡ b → left s ≡ false
        go true is = let none : licence net st left s k ≡ None = ap (λ b. answer (sight_of net st left s) k (cond b None (want_after (strand_at net st s) (past st s)))) is in cc
        go false is = is

    may_all : licence net st none_left s k ≡ Some e
    may_all = licensed_too net st left s k e may

    pub now : play net (journal ++ entry ∷ []) ≡ with_event st s e
    now = play_last net nothing_yet journal entry ∙ ap (with_some_event st s) may_all

    pub in_range : s < length net.strands
    in_range = licensed_inside net st left s k e may

    pub out_room : length out < length net.strands
    out_room = fewer_out net journal out s sound.last sound.apart in_range is_home

    pub its_actor : (a : Actor S) × (slice_get actors s ≡ Some a)
    its_actor = at_some actors s (let b = in_range in let c = sound.strands.count in omega (arith, b, c))

    pub stage_at : (a : Actor S) → slice_get actors s ≡ Some a → (x : S) × (a.stage ≡ Some x)
    stage_at a at = there a.stage (sound.strands.home s a at is_home)
      where
        there : (y : Option S) → is_some y ≡ true → (x : S) × (y ≡ Some x)
        there None e = cc
        there (Some x) e = (x, refl)

    pub its_stage : (a : Actor S) × (x : S) × (slice_get actors s ≡ Some a) × (a.stage ≡ Some x)
    its_stage = let a = its_actor in let x = stage_at a.0 a.1 in (a.0, x.0, a.1, x.1)

    pub turned_past : past (play net (journal ++ entry ∷ [])) s ≡ e ∷ past st s
    turned_past = ap (λ y. past y s) now ∙ at_same st s e

    pub goes_on : has_ended (past st s) ≡ false
    goes_on = goes net st left s k e may

    pub is_live : Telling.ended_at d s ≡ false
    is_live = ended_here s in_range ∙ goes_on

    pub lawful_turned : length journal < budget → (b : Bool) → IsLawful (record { net = net; budget = budget; journal = journal ++ entry ∷ []; out = out ++ suc (length journal) ∷ []; is_broken = b })
    lawful_turned space b = record {
      legal = legal_last net nothing_yet journal entry sound.legal (ap is_some may_all);
      within = let a = length_more journal entry in omega (arith, a, space);
      bounded = sound.bounded;
    }

    pub can_turn : (seen : Seen) → told e ≡ seen → CanTurn d pool s seen
    can_turn seen at = subst (CanTurn d pool s) at (run_can net st left d pool sound.formed own sound.run few short s k e may)

    pub can_make : (seen : Seen) → told e ≡ seen → CanMake net d pool s seen
    can_make seen at = record { used = in_use; can = can_turn seen at; live = is_live; strand = in_range }

    module _ (a : Actor S) (stage : S) (there : slice_get actors s ≡ Some a) (was : a.stage ≡ Some stage) (seen : Seen) (seen_at : told e ≡ seen) (b : Actor S) (b_out : b.stage ≡ None) (b_looks : b.looks ≡ a.looks) (b_end : b.saw_end ≡ (a.saw_end || is_end seen))
        (space : length journal < budget) (d' : DeskState) (pool' : PoolState) (desk_is : d' ≡ desk_after_turn d s seen) (pool_is : pool' ≡ pool_after_turn d pool s seen) where
      abbrev longer : List Entry
      longer = journal ++ entry ∷ []

      abbrev out' : List ℕ
      out' = out ++ suc (length journal) ∷ []

      left_is : left_by longer out' ≡ left_out left s
      left_is = left_turned net journal entry out sound.last

      same_past : (u : Who) → u ≢ s → past (play net longer) u ≡ past st u
      same_past u apart = ap (λ z. past z u) now ∙ at_other st s e u apart

      want_same : (u : Who) → u ≢ s → want_at net (play net longer) (left_by longer out') u ≡ want_at net st left u
      want_same u apart = ap (λ l. want_at net (play net longer) l u) left_is
          ∙ ap (λ b. cond (cond b true (left u)) None (want_after (strand_at net st u) (past (play net longer) u))) (ne_eqb u s apart)
          ∙ ap (λ h. cond (left u) None (want_after (strand_at net st u) h)) (same_past u apart)

      want_none : want_at net (play net longer) (left_by longer out') s ≡ None
      want_none = ap (λ l. want_at net (play net longer) l s) left_is ∙ ap (λ b. cond (cond b true (left s)) None (want_after (strand_at net st s) (past (play net longer) s))) (test_same s)

      actors_turned : AreActors stands net longer out' (slice_set actors s b)
      actors_turned = record {
        count = length-set actors s b ∙ sound.strands.count;
        each = λ u p x is at. elim (equal_or_not u s) [
          | inl z ↦ here u p x z is at
          | inr z ↦
              let old = sound.strands.each u p x is (sym (get_set_other actors s u b z) ∙ at) in
              subst (λ h. IsActor stands h (want_at net (play net longer) (left_by longer out') u) p x) (sym (same_past u z)) (subst (λ w. IsActor stands (past st u) w p x) (sym (want_same u z)) old)
        ];
        home = λ u x at home.
            let l : left_out left s u ≡ false = ap (λ z. z u) (sym left_is) ∙ home in
            (elim (equal_or_not u s) [
              | inl z ↦ (let no : true ≡ false = sym (ap (λ b. cond b true (left u)) (ap (λ y. y == s) z ∙ test_same s)) ∙ l in absurd (let q : ⊥ = cc in q))
              | inr z ↦ sound.strands.home u x (sym (get_set_other actors s u b z) ∙ at) (sym (ap (λ b. cond b true (left u)) (ne_eqb u s z)) ∙ l)
            ]);
      }
        where
          none_some : {y : S} → ◌≡◌ {A = Option S} None (Some y) → ⊥
          none_some q = cc

          here : (u : Who) (p : Strand) (x : Actor S) → u ≡ s → strand_at net (play net longer) u ≡ Some p → slice_get (slice_set actors s b) u ≡ Some x →
              IsActor stands (past (play net longer) u) (want_at net (play net longer) (left_by longer out') u) p x
          here u p x z is at =
              let old = sound.strands.each s p a (ap (strand_at net st) (sym z) ∙ is) there in
              let got : Some b ≡ Some x = sym (get_set_same actors s b a there) ∙ ap (slice_get (slice_set actors s b)) (sym z) ∙ at in
              let x_is : b ≡ x = cc in
              let h_is : past (play net longer) u ≡ e ∷ past st s = ap (past (play net longer)) z ∙ ap (λ y. past y s) now ∙ at_same st s e in
              let w_is : want_at net (play net longer) (left_by longer out') u ≡ None = ap (want_at net (play net longer) (left_by longer out')) z ∙ want_none in
              let P : List Event → Option Want → Actor S → Type 0 = λ h w y. IsActor stands h w p y in
              let new : P (e ∷ past st s) None b = record {
                saw_end = b_end ∙ ap (λ y. a.saw_end || is_end y) (sym seen_at) ∙ end_seen e (past st s) a.saw_end old.saw_end;
                asked = λ w q. cc;
                stands_for = λ y q. absurd (none_some (sym b_out ∙ q));
                looks = b_looks ∙ old.looks;
                passes = λ y yes q. absurd (none_some (sym b_out ∙ q));
              } in
              subst (λ h. P h (want_at net (play net longer) (left_by longer out') u) x) (sym h_is) (subst (λ w. P (e ∷ past st s) w x) (sym w_is) (subst (P (e ∷ past st s) None) x_is new))

      pub sound_turned : IsSound stands net budget longer out' (slice_set actors s b) d' pool'
      sound_turned = record {
        formed = sound.formed;
        legal = legal_last net nothing_yet journal entry sound.legal (ap is_some may_all);
        within = let a = length_more journal entry in omega (arith, a, space);
        bounded = sound.bounded;
        last = last_turned net journal entry in_range same_past out sound.last is_home;
        apart = apart_turned net journal entry out sound.last sound.apart is_home;
        run = subst (λ y. RunStands net y (left_by longer out') d' pool') (sym now)
            (subst (λ y. RunStands net (with_event st s e) y d' pool') (sym left_is)
            (subst (λ y. RunStands net (with_event st s e) (left_out left s) y pool') (sym desk_is ∙ refl)
            (subst (λ y. RunStands net (with_event st s e) (left_out left s) (desk_after_turn d s seen) y) (sym pool_is)
            (subst (λ y. RunStands net (with_event st s e) (left_out left s) (desk_after_turn d s y) (pool_after_turn d pool s y)) seen_at
            (run_made net st left d pool sound.formed own sound.run few short s k e may)))));
        waiting =
            let more = waiting_made d s seen in
            let was = sound.waiting in
            let longer = length_more journal entry in
            let same : waiting_of d'.wires ≡ waiting_of (desk_after_turn d s seen).wires = ap (λ (z : DeskState). waiting_of z.wires) desk_is in
            omega (arith, more, was, longer, same);
        strands = actors_turned;
      }

      pub job_turned : JobStands stands net longer (record { strand = s; place = suc (length journal); seen = seen; stage = stage })
      job_turned = record {
        place_is = sym (length_more journal entry);
        before = journal;
        entry = entry;
        entry_is = refl;
        journal_is = refl;
        event = e;
        licensed = may_all;
        seen_is = seen_at;
        stood = λ p is. (sound.strands.each s p a is there).stands_for stage was;
        room = let a = play_length net nothing_yet journal s in let b = sound.bounded in omega (arith, a, b, space);
      }

      pub job_event : job_turned.event ≡ e
      unfolding job_turned
      job_event = refl

  -- A coming home

  module _ (s : Who) (p : ℕ) (stage : S) (want : Asked) (among : is_among p out ≡ true) (done : HasGoneOn stands net (take p journal) s p stage want) where
    its : is_at journal s p ≡ true
    its = go p done.mine
      where
        go : (q : ℕ) → is_at (take q journal) s q ≡ true → is_at journal s q ≡ true
        go zero m = cc
        go (suc q) m = ap (is_of s) (sym (get_take journal q)) ∙ m

    last : IsLast net journal p
    last = among_last net journal s p its out among sound.last

    home_past : past st s ≡ past (play net (take p journal)) s
    home_past = last.since s its

    away : left s ≡ true
    away = among_left net journal s p its out among

    pub place : s < length net.strands
    place = subst (λ z. z < length net.strands) (one_strand net journal s p its last.whose.0 p its last.whose.2) last.whose.1

    strand : (q : Strand) × (strand_at net st s ≡ Some q)
    strand = at_some net.strands s place

    pub actor : (a : Actor S) × (slice_get actors s ≡ Some a)
    actor = at_some actors s (let b = place in let c = sound.strands.count in omega (arith, b, c))

    asks : has_ended (past st s) ≡ false → Some (meaning want (last_seen (past st s))) ≡ next strand.0 (past st s)
    asks going = subst (λ h. has_ended h ≡ false → Some (meaning want (last_seen h)) ≡ next strand.0 h) (sym home_past) (done.asks strand.0 strand.1) going

    seen : IsSeenBefore want (past st s)
    seen = subst (IsSeenBefore want) (sym home_past) (done.seen strand.0 strand.1)

    pub ended_is : Telling.ended_at d s ≡ has_ended (past st s)
    ended_is = ended_here s place

    pub can_home : Telling.ended_at d s ≡ false → CanCome d pool s want
    can_home not_ended = run_can_come net st left d pool sound.formed own sound.run few s strand.0 want away strand.1 (sym ended_is ∙ not_ended) (asks (sym ended_is ∙ not_ended)) seen

    came : (d' : DeskState) (pool' : PoolState) → HasReturned d pool s want d' pool' → RunStands net st (left_in left s) d' pool'
    came d' pool' returned = elim returned [
      | inl gone ↦ subst (λ x. RunStands net st (left_in left s) x pool') (sym gone.1) (subst (RunStands net st (left_in left s) d) (sym gone.2) (run_gone net st left d pool sound.formed own sound.run s (sym ended_is ∙ gone.0)))
      | inr come ↦ run_home net st left d pool sound.formed own sound.run few s strand.0 want away strand.1 (sym ended_is ∙ come.0) (asks (sym ended_is ∙ come.0)) seen d' pool' come.1
    ]

    -- no more wait then
    came_waiting : (d' : DeskState) (pool' : PoolState) → HasReturned d pool s want d' pool' → waiting_of d'.wires ≤ length journal
    came_waiting d' pool' returned = elim returned [
      | inl gone ↦ subst (λ (z : DeskState). waiting_of z.wires ≤ length journal) (sym gone.1) sound.waiting
      | inr come ↦ subst (λ n. n ≤ length journal) (sym (waiting_home d d' pool pool' s want come.1)) sound.waiting
    ]

    pub came_early : Telling.ended_at d s ≡ false → StaysEarly d pool s want
    came_early not_ended d' pool' come = early_on net st sound.formed own (bytes_at pool') (left_in left s) d' (came d' pool' (inr (not_ended, come))).kept

    -- the strand stays out: of what was kept of it its coroutine is gone, and what it asks for is anything
    module _ (a b : Actor S) (there : slice_get actors s ≡ Some a) (b_out : b.stage ≡ None) (b_looks : b.looks ≡ a.looks) (b_end : b.saw_end ≡ a.saw_end) where
      none_wanted : want_at net st left s ≡ None
      none_wanted = ap (λ z. cond z None (want_after (strand_at net st s) (past st s))) away

      actors_out : AreActors stands net journal out (slice_set actors s b)
      actors_out = record {
        count = length-set actors s b ∙ sound.strands.count;
        each = λ u q x is at. elim (equal_or_not u s) [
          | inl z ↦ here u q x z is at
          | inr z ↦ sound.strands.each u q x is (sym (get_set_other actors s u b z) ∙ at)
        ];
        home = λ u x at home. elim (equal_or_not u s) [
          | inl z ↦ (let no : true ≡ false = sym away ∙ ap left (sym z) ∙ home in absurd (let q : ⊥ = cc in q))
          | inr z ↦ sound.strands.home u x (sym (get_set_other actors s u b z) ∙ at) home
        ];
      }
        where
          none_some : {y : S} → ◌≡◌ {A = Option S} None (Some y) → ⊥
          none_some q = cc

          here : (u : Who) (q : Strand) (x : Actor S) → u ≡ s → strand_at net st u ≡ Some q → slice_get (slice_set actors s b) u ≡ Some x → IsActor stands (past st u) (want_at net st left u) q x
          here u q x z is at =
              let old = sound.strands.each s q a (ap (strand_at net st) (sym z) ∙ is) there in
              let got : Some b ≡ Some x = sym (get_set_same actors s b a there) ∙ ap (slice_get (slice_set actors s b)) (sym z) ∙ at in
              let x_is : b ≡ x = cc in
              let w_is : want_at net st left u ≡ None = ap (want_at net st left) z ∙ none_wanted in
              let P : List Event → Option Want → Actor S → Type 0 = λ h w y. IsActor stands h w q y in
              let new : P (past st s) None b = record {
                saw_end = b_end ∙ old.saw_end;
                asked = λ w q. cc;
                stands_for = λ y q. absurd (none_some (sym b_out ∙ q));
                looks = b_looks ∙ old.looks;
                passes = λ y yes q. absurd (none_some (sym b_out ∙ q));
              } in
              subst (λ t. P (past st t) (want_at net st left u) x) (sym z) (subst (λ w. P (past st s) w x) (sym w_is) (subst (P (past st s) None) x_is new))

      pub sound_out : IsSound stands net budget journal out (slice_set actors s b) d pool
      sound_out = record {
        formed = sound.formed;
        legal = sound.legal;
        within = sound.within;
        bounded = sound.bounded;
        last = sound.last;
        apart = sound.apart;
        run = sound.run;
        waiting = sound.waiting;
        strands = actors_out;
      }

    left_now : left_by journal (without p out) ≡ left_in left s
    left_now = left_home net journal s p its out sound.apart among

    module _ (d' : DeskState) (pool' : PoolState) (a : Actor S) (there : slice_get actors s ≡ Some a) (returned : HasReturned d pool s want d' pool')
        (asked : Asked) (bared : Telling.ended_at d s ≡ false → asked ≡ bare want) (passes : Bool) (passing : passes ≡ true → PassesOn stands stage) where
      abbrev new : Actor S
      new = come_back stage asked passes a

      want_stays : (u : Who) → u ≢ s → want_at net st (left_by journal (without p out)) u ≡ want_at net st left u
      want_stays u apart = ap (λ l. want_at net st l u) left_now
          ∙ ap (λ b. cond (cond b false (left u)) None (want_after (strand_at net st u) (past st u))) (ne_eqb u s apart)

      want_now : want_at net st (left_by journal (without p out)) s ≡ next strand.0 (past st s)
      want_now = ap (λ l. want_at net st l s) left_now ∙ ap (λ b. cond (cond b false (left s)) None (want_after (strand_at net st s) (past st s))) (test_same s)
          ∙ ap (λ x. want_after x (past st s)) strand.1

      actors_home : AreActors stands net journal (without p out) (slice_set actors s new)
      actors_home = record {
        count = length-set actors s new ∙ sound.strands.count;
        each = λ u q x is at. elim (equal_or_not u s) [
          | inl z ↦ here u q x z is at
          | inr z ↦
              subst (λ w. IsActor stands (past st u) w q x) (sym (want_stays u z)) (sound.strands.each u q x is (sym (get_set_other actors s u new z) ∙ at))
        ];
        home = λ u x at home. elim (equal_or_not u s) [
          | inl z ↦
              let got : Some new ≡ Some x = sym (get_set_same actors s new a there) ∙ ap (slice_get (slice_set actors s new)) (sym z) ∙ at in
              let x_is : new ≡ x = cc in
              ap (λ y. is_some y.stage) (sym x_is)
          | inr z ↦
              let l : left_in left s u ≡ false = ap (λ y. y u) (sym left_now) ∙ home in
              sound.strands.home u x (sym (get_set_other actors s u new z) ∙ at) (sym (ap (λ b. cond b false (left u)) (ne_eqb u s z)) ∙ l)
        ];
      }
        where
          shown : (w : Want) → next strand.0 (past st s) ≡ Some w → Shows (past st s) asked w
          shown w is = go (has_ended (past st s)) refl
            where
              go : (b : Bool) → has_ended (past st s) ≡ b → Shows (past st s) asked w
              go true ended = let none : next strand.0 (past st s) ≡ None = ap (λ b. cond b None (wanted_by (form strand.0).row strand.0.ports.has_output (past st s))) ended in absurd (let q : ⊥ = cc in q)
              go false going =
                  let m : Some (meaning want (last_seen (past st s))) ≡ Some w = asks going ∙ is in
                  let w_is : w ≡ meaning want (last_seen (past st s)) = cc in
                  subst (λ x. Shows (past st s) x w) (sym (bared (ended_is ∙ going))) (shows_bare (past st s) want w w_is)

          here : (u : Who) (q : Strand) (x : Actor S) → u ≡ s → strand_at net st u ≡ Some q → slice_get (slice_set actors s new) u ≡ Some x →
              IsActor stands (past st u) (want_at net st (left_by journal (without p out)) u) q x
          here u q x z is at =
              let one : Some strand.0 ≡ Some q = sym strand.1 ∙ ap (strand_at net st) (sym z) ∙ is in
              let q_is : strand.0 ≡ q = cc in
              let old = sound.strands.each s strand.0 a strand.1 there in
              let got : Some new ≡ Some x = sym (get_set_same actors s new a there) ∙ ap (slice_get (slice_set actors s new)) (sym z) ∙ at in
              let x_is : new ≡ x = cc in
              let P : Who → Strand → Actor S → Type 0 = λ t r y. IsActor stands (past st t) (want_at net st (left_by journal (without p out)) t) r y in
              let fresh : P s strand.0 new = record {
                saw_end = old.saw_end;
                asked = λ w w_is. shown w (sym want_now ∙ w_is);
                stands_for = λ y y_is. (let y_at : stage ≡ y = cc in subst (λ v. stands v strand.0 (past st s)) y_at (subst (stands stage strand.0) (sym home_past) (done.stood strand.0 strand.1)));
                looks = old.looks;
                passes = λ y yes y_is. (let y_at : stage ≡ y = cc in subst (PassesOn stands) y_at (passing yes));
              } in
              subst (λ t. P t q x) (sym z) (subst (λ r. P s r x) q_is (subst (P s strand.0) x_is fresh))

      pub sound_home : IsSound stands net budget journal (without p out) (slice_set actors s new) d' pool'
      sound_home = record {
        formed = sound.formed;
        legal = sound.legal;
        within = sound.within;
        bounded = sound.bounded;
        last = last_home net journal s p its out sound.last;
        apart = apart_home net journal s p its out sound.apart;
        run = subst (λ l. RunStands net st l d' pool') (sym left_now) (came d' pool' returned);
        waiting = came_waiting d' pool' returned;
        strands = actors_home;
      }
