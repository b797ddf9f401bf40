-- What a run keeps suffices for a turn that the licence allows, and for a coming home with what is wanted.
use Rattle.std.proofs.Common.{◌≡◌, inl, inr, ℕ, ◌+◌, ◌-◌, ◌^◌, ◌<◌, ◌≤◌, true, false, cond, ◌&&◌, List, length, refl, sym, ◌∙◌, ap, subst, arith, Option, Some, None, is_some, slice_get, ℤ}
use Rattle.std.specs.Prelude.{IsSome}
use Rattle.std.proofs.lemmas.Bool.Decides.{Decides-int_eq}
use Rattle.std.proofs.lemmas.Option.{slice_get_within}
use Rattle.pipe_model.specs.declared.net.Net.{Net}
use Rattle.pipe_model.specs.declared.net.Link.{Link}
use Rattle.pipe_model.specs.declared.net.Strand.{Strand}
use Rattle.pipe_model.specs.Event.{Event, has_ended, has_reached, code_of}
use Rattle.pipe_model.specs.Event.Event.{Up, Saw, Took, Put, Refused, Ended}
use Rattle.pipe_model.specs.Event.Want.{Commit, Take, Write, Done}
use Rattle.pipe_model.specs.Next.{IsOwn}
use Rattle.pipe_model.specs.State.{Who, State, past, strand_at, link_in, link_out}
use Rattle.pipe_model.specs.Licence.{Left, want_after, want_at, may_put, may_refuse, commits_to, licence}
use Rattle.pipe_model.specs.WellFormed.{IsWellFormed}
use Rattle.pipe_model.proofs.Lists.{beside}
use Rattle.pipe_model.proofs.FewLinks.{few_links}
use Rattle.stage_steps.specs.Coroutine.{told}
use Rattle.record_pool.specs.PoolState.{PoolState}
use Rattle.record_pool.specs.Places.{IsHeld, holders_at, bytes_at}
use Rattle.connectors.specs.WireState.{WireState, IsPaced, at_hand, IsHeldIn, CanTake, CanSettle}
use Rattle.commit_levels.specs.UnitState.{IsLevel, IsLive, IsAt}
use Rattle.commit_levels.specs.declared.member.Progress.TheVariants.{NotAsked, Asked, Reached}
use Rattle.confluence_laws.proofs.Basics.{from_out, took_asked, refused_asked, done_asked}
use Rattle.confluence_laws.proofs.Owns.{commit_asked}
use Rattle.confluence_laws.proofs.Fitting.{wants_take}
use Rattle.run_desk.specs.Desk.{DeskState}
use Rattle.run_desk.specs.Telling.{in_door, out_door, sights_of, sight_door, sight_through, through, wire_in, wire_out}
use Rattle.run_desk.specs.Standing.{IsWire, link_through}
use Rattle.run_desk.specs.Holding.{waiting_of, RunStands}
use Rattle.run_desk.specs.Turns.{hand_on, Behind, CanTurn}
use Rattle.run_desk.proofs.Begins.{not_reached}
use Rattle.run_desk.proofs.Limits.{few_holders, offers_held, hand_taken, hands_held, sights_held, can_forget}
use Rattle.run_desk.proofs.Queues.{queues_as}
use Rattle.run_desk.proofs.Shown.{sight_of_hand}
use Rattle.run_desk.proofs.Wants.{few_tooks, few_puts, IsWanting, wanting, fits, put_may, put_wanted, refusal_may, offer_there, put_ahead, refusal_level, refusal_plain}

-- a wire that stands for a link
pub record IsLinked (net : Net) (st : State) (left : Left) (d : DeskState) (pool : PoolState) (there : Option Link) (wire : WireState) : Type 0 where
  pub place : ℕ
  pub link : Link
  pub at_wire : slice_get d.wires place ≡ Some wire
  pub found : there ≡ Some link
  pub is : IsWire net (bytes_at pool) st left link wire

module _ (net : Net) (st : State) (left : Left) (d : DeskState) (pool : PoolState) (formed : IsWellFormed net) (run : RunStands net st left d pool) where
  linked : (door : Option ℕ) (there : Option Link) (wire : WireState) → there ≡ link_through net.links door → through d.wires door ≡ Some wire → IsLinked net st left d pool there wire
  linked None there wire leads at = cc
  linked (Some k) there wire leads at =
      let l = beside d.wires net.links k wire run.kept.laid.wire_count at in
      record { place = k; link = l.0; at_wire = at; found = leads ∙ l.1; is = run.kept.wires k l.0 wire l.1 at }

  -- the wire behind an output stands for its link
  pub out_linked : (s : Who) (o : ℕ) (wire : WireState) → wire_out d s o ≡ Some wire → IsLinked net st left d pool (link_out net st s o) wire
  out_linked s o wire at = linked (out_door d s o) (link_out net st s o) wire (run.kept.laid.out_doors s o) at

  in_linked : (s : Who) (i : ℕ) (wire : WireState) → wire_in d s i ≡ Some wire → IsLinked net st left d pool (link_in net st s i) wire
  in_linked s i wire at = linked (in_door d s i) (link_in net st s i) wire (run.kept.laid.in_doors s i) at

  -- the record at hand is held
  offer_held : (door : Option ℕ) → Behind (λ wire. IsHeldIn pool wire.offer) d.wires door
  offer_held None wire at = cc
  offer_held (Some k) wire at = offers_held d.wires d.sights pool run.pooled k wire at

  -- the record at hand behind a door is held
  pub hand_held : (door : Option ℕ) (grip : ℕ) → hand_on (through d.wires door) ≡ Some grip → IsHeld pool grip
  hand_held door grip hand = subst (IsHeldIn pool) hand (hands_held d.wires d.sights pool run.pooled door)

  -- and so is what was seen
  pub sight_held : (door : Option ℕ) → IsHeldIn pool (sight_through d.sights door)
  sight_held door = sights_held d.wires d.sights pool run.pooled door

  -- every record can have a holder more
  pub few_held : waiting_of d.wires ≤ 50000000 → (grip : ℕ) → holders_at pool grip < 4294967295
  few_held few grip = omega (arith, few, few_links net formed, formed.few, few_holders d.wires d.sights pool run.pooled grip, run.kept.laid.wire_count, run.kept.laid.sight_count)

  -- Commit levels

  -- a strand of the net is a member of the unit
  pub within : (s : Who) (strand : Strand) → strand_at net st s ≡ Some strand → s < length d.unit
  within s strand there = omega (arith, slice_get_within net.strands s _ there, run.kept.member_count)

  -- a strand that goes on is a member that has not ended
  pub live : (s : Who) → has_ended (past st s) ≡ false → IsLive d.unit s
  live s going m at = (run.kept.members s m at).ended ∙ ap (λ b. cond b (Some (code_of (past st s))) None) going

  asked_at : (s : Who) (level : ℤ) → IsLevel level → want_at net st left s ≡ Some (Commit level) → has_reached level (past st s) ≡ false → IsAt d.unit s level Asked
  asked_at s level is wants not_yet m at =
      (run.kept.members s m at).progress level is
      ∙ ap (λ b. cond b Reached (cond (commits_to level (want_at net st left s)) Asked NotAsked)) not_yet
      ∙ ap (λ w. cond (commits_to level w) Asked NotAsked) wants
      ∙ ap (λ b. cond b Asked NotAsked) ((Decides-int_eq level level).1 refl)

  -- one that is out and has not reached a level has not asked for it
  pub not_asked_at : (s : Who) (level : ℤ) → IsLevel level → left s ≡ true → has_reached level (past st s) ≡ false → IsAt d.unit s level NotAsked
  not_asked_at s level is out not_yet m at =
      (run.kept.members s m at).progress level is
      ∙ ap (λ b. cond b Reached (cond (commits_to level (want_at net st left s)) Asked NotAsked)) not_yet
      ∙ ap (λ b. cond (commits_to level (cond b None (want_after (strand_at net st s) (past st s)))) Asked NotAsked) out

  -- A turn

  module _ (own : (t : Who) (q : Strand) → strand_at net st t ≡ Some q → IsOwn q (past st t)) (s : Who) (k : ℕ) where
    can_rise : (level code : ℤ) → licence net st left s k ≡ Some (Up level code) → CanTurn d pool s (told (Up level code))
    can_rise level code may =
        let wants = commit_asked (want_at net st left s) level code (fits net st left s k (Up level code) may) in
        let w = wanting net st left s (Commit level) wants in
        let is = run.kept.early s level wants in
        (within s w.strand w.there, live s w.going, is, asked_at s level is wants (not_reached w.strand (past st s) (own s w.strand w.there) level w.wants))

    can_take : ((t : Who) → length (past st t) < 18446744073709551615) → (i : ℕ) → licence net st left s k ≡ Some (Took i) → CanTurn d pool s (told (Took i))
    can_take short i may = (shown, held (in_door d s i) shown, few_taken)
      where
        w : IsWanting net st left s (Take i)
        w = wanting net st left s (Take i) (took_asked (want_at net st left s) i (fits net st left s k (Took i) may))

        shown : Behind (λ wire. IsSome (at_hand wire)) d.wires (in_door d s i)
        shown wire at = run.pacing.shown s i wire w.going (wants_take w.strand (past st s) (own s w.strand w.there) i w.wants) at

        held : (door : Option ℕ) → Behind (λ wire. IsSome (at_hand wire)) d.wires door → Behind (λ wire. CanTake pool wire wire.queue) d.wires door
        held None hand wire at = cc
        held (Some j) hand wire at = hand_taken d.wires d.sights pool run.pooled j wire at (hand wire at)

        few_taken : Behind (λ wire. wire.tooks < 2 ^ 64 - 1) d.wires (in_door d s i)
        few_taken wire at =
            let l = in_linked s i wire at in
            let most : 2 ^ 64 - 1 ≡ 18446744073709551615 = refl in
            omega (arith, most, l.is.tooks, few_tooks l.link.input (past st l.link.to), short l.link.to)

    -- what a strand wants to write is offered on the wire
    offer_at : (o : ℕ) (rec : List ℕ) (wire : WireState) → want_at net st left s ≡ Some (Write o rec) → wire_out d s o ≡ Some wire → IsSome wire.offer
    offer_at o rec wire wants at =
        let l = out_linked s o wire at in
        let is = from_out net formed st s o l.link l.found in
        offer_there net (bytes_at pool) st left l.link wire s o rec l.is is.0 is.1 wants

    can_put : ((t : Who) → length (past st t) < 18446744073709551615) → (o : ℕ) (rec : List ℕ) → licence net st left s k ≡ Some (Put o rec) → CanTurn d pool s (told (Put o rec))
    can_put short o rec may wire at = by_queue wire.queue refl
      where
        l : IsLinked net st left d pool (link_out net st s o) wire
        l = out_linked s o wire at

        by_pace : {a b : ℕ} → wire.puts ≡ a → wire.tooks ≡ b → a < b → IsPaced wire.offer wire.puts wire.tooks None → wire.tooks ≡ wire.puts + 1
        by_pace p t less (inl even) = absurd (omega (arith, p, t, less, even))
        by_pace p t less (inr more) = more.0

        offer_is : IsSome wire.offer
        offer_is = offer_at o rec wire (put_wanted net st left s k o rec may) at

        by_queue : (q : Option (List ℕ)) → wire.queue ≡ q → CanSettle pool wire q
        by_queue None is =
            let plain : l.link.queue ≡ false = sym (queues_as net (bytes_at pool) st left l.link wire l.is) ∙ ap is_some is in
            let less = put_ahead st l.link plain (ap (may_put st) (sym l.found) ∙ put_may net st left s k o rec may) in
            (by_pace l.is.puts l.is.tooks less (subst (IsPaced wire.offer wire.puts wire.tooks) is (run.pacing.paced l.place wire l.at_wire)), offer_held (out_door d s o) wire at)
        by_queue (Some waiting) is =
            let most : 2 ^ 64 - 1 ≡ 18446744073709551615 = refl in (
              offer_is,
              run.pacing.roomy l.place wire l.at_wire ∙ ap (λ q. is_some q && is_some wire.offer) is ∙ offer_is,
              omega (arith, most, l.is.puts, few_puts l.link.output (past st l.link.from), short l.link.from),
            )

    can_refuse : (o : ℕ) → licence net st left s k ≡ Some (Refused o) → CanTurn d pool s (told (Refused o))
    can_refuse o may = (rendezvous, offers, even, offer_held (out_door d s o))
      where
        refusal : (l : Link) → link_out net st s o ≡ Some l → may_refuse st (Some l) ≡ true
        refusal l found = ap (may_refuse st) (sym found) ∙ refusal_may net st left s k o may

        none : (q : Option (List ℕ)) → is_some q ≡ false → q ≡ None
        none None e = refl
        none (Some waiting) e = cc

        rendezvous : Behind (λ wire. wire.queue ≡ None) d.wires (out_door d s o)
        rendezvous wire at =
            let l = out_linked s o wire at in
            none wire.queue (queues_as net (bytes_at pool) st left l.link wire l.is ∙ refusal_plain st l.link (refusal l.link l.found))

        offers : Behind (λ wire. IsSome wire.offer) d.wires (out_door d s o)
        offers wire at =
            let w = refused_asked (want_at net st left s) o (fits net st left s k (Refused o) may) in
            offer_at o w.0 wire w.1 at

        even : Behind (λ wire. wire.tooks ≡ wire.puts) d.wires (out_door d s o)
        even wire at =
            let l = out_linked s o wire at in
            let same = refusal_level st l.link (refusal l.link l.found) in
            omega (arith, l.is.puts, l.is.tooks, same)

    can_end : (code : ℤ) → licence net st left s k ≡ Some (Ended code) → CanTurn d pool s (told (Ended code))
    can_end code may =
        let w = wanting net st left s (Done code) (done_asked (want_at net st left s) code (fits net st left s k (Ended code) may)) in
        (within s w.strand w.there, live s w.going, can_forget d.wires (sights_of (slice_get d.doors s)) d.sights pool run.pooled)

    can_look : waiting_of d.wires ≤ 50000000 → (i : ℕ) (rec : List ℕ) → CanTurn d pool s (told (Saw i rec))
    can_look few i rec = (
      λ grip hand. sight_of_hand net st d run.kept.laid s i grip hand,
      λ grip hand. hand_held (in_door d s i) grip hand,
      λ grip hand. few_held few grip,
      sight_held (sight_door d s i),
    )

-- whoever has a licence can move
pub can_move : (net : Net) (st : State) (left : Left) (d : DeskState) (pool : PoolState) (s : Who) (k : ℕ) (e : Event) → IsWellFormed net →
    ((t : Who) (q : Strand) → strand_at net st t ≡ Some q → IsOwn q (past st t)) → ((t : Who) → length (past st t) < 18446744073709551615) →
    RunStands net st left d pool → waiting_of d.wires ≤ 50000000 → licence net st left s k ≡ Some e → CanTurn d pool s (told e)
can_move net st left d pool s k (Up level code) formed own short run few may = can_rise net st left d pool formed run own s k level code may
can_move net st left d pool s k (Saw i rec) formed own short run few may = can_look net st left d pool formed run own s k few i rec
can_move net st left d pool s k (Took i) formed own short run few may = can_take net st left d pool formed run own s k short i may
can_move net st left d pool s k (Put o rec) formed own short run few may = can_put net st left d pool formed run own s k short o rec may
can_move net st left d pool s k (Refused o) formed own short run few may = can_refuse net st left d pool formed run own s k o may
can_move net st left d pool s k (Ended code) formed own short run few may = can_end net st left d pool formed run own s k code may
can_move net st left d pool s k _ formed own short run few may = tt
