-- What a run keeps suffices for a strand to come home with what it wants.
use Rattle.std.proofs.Common.{◌≡◌, inl, inr, ℕ, ◌≤◌, true, false, cond, not, List, refl, sym, ◌∙◌, ap, subst, arith, Option, Some, None, is_some, slice_get, ℤ}
use Rattle.std.specs.Prelude.{IsSome}
use Rattle.std.specs.Option.{option_map}
use Rattle.std.proofs.lemmas.Option.{slice_get_within}
use Rattle.pipe_model.specs.declared.net.Net.{Net}
use Rattle.pipe_model.specs.declared.net.Link.{Link}
use Rattle.pipe_model.specs.declared.net.Strand.{Strand}
use Rattle.pipe_model.specs.declared.step.Out.{Out}
use Rattle.pipe_model.specs.declared.step.Out.TheVariants.{Same, Fresh}
use Rattle.pipe_model.specs.declared.step.Want.{Want as Asking}
use Rattle.pipe_model.specs.declared.step.Want.TheVariants as want
use Rattle.pipe_model.specs.Event.{has_ended}
use Rattle.pipe_model.specs.Event.Want.{Commit, Write}
use Rattle.pipe_model.specs.Next.{next, IsOwn}
use Rattle.pipe_model.specs.Members.{flag_at, has}
use Rattle.pipe_model.specs.Row.{Known}
use Rattle.pipe_model.specs.Shape.{Shape}
use Rattle.pipe_model.specs.Shape.Shape.{Absent, Sources, Lists, Sinks, Firsts, Turns, Rounds, Gates, Dams, Queues}
use Rattle.pipe_model.specs.Table.{line_of}
use Rattle.pipe_model.specs.State.{Who, State, past, strand_at, link_out}
use Rattle.pipe_model.specs.Licence.{Left, want_after, want_at, offered}
use Rattle.pipe_model.specs.WellFormed.{IsWellFormed}
use Rattle.pipe_model.proofs.Truths.{both, not_second}
use Rattle.pipe_model.proofs.Lists.{at_some}
use Rattle.stage_steps.specs.Coroutine.{last_seen, written, meaning, IsSeenBefore}
use Rattle.record_pool.specs.PoolState.{PoolState}
use Rattle.record_pool.specs.Places.{bytes_at}
use Rattle.connectors.specs.WireState.{IsHeldIn}
use Rattle.confluence_laws.proofs.Basics.{from_out}
use Rattle.confluence_laws.proofs.Facts.{asking}
use Rattle.confluence_laws.proofs.Fitting.{past_of, wants_write, stands_for}
use Rattle.run_desk.specs.declared.seat.Ask.TheVariants as Now
use Rattle.run_desk.specs.Desk.{DeskState}
use Rattle.run_desk.specs.Telling.{out_door, sight_door, through, wire_out}
use Rattle.run_desk.specs.Standing.{link_through}
use Rattle.run_desk.specs.Holding.{waiting_of, RunStands}
use Rattle.run_desk.specs.Turns.{Behind, CanAsk, CanHold, CanCome}
use Rattle.run_desk.proofs.Begins.{not_reached}
use Rattle.run_desk.proofs.Conditions.{sight_held, few_held, within, live, not_asked_at, out_linked}
use Rattle.run_desk.proofs.Early.{early_level}
use Rattle.run_desk.proofs.Offers.{sight_there}

-- nothing is offered where no text is
no_offer : (texts : ℕ → List ℕ) (x : Option ℕ) → option_map texts x ≡ None → x ≡ None
no_offer texts None e = refl
no_offer texts (Some g) e = cc

-- no strand waits for the answer to a write
asks_no_write : (s : Strand) (shape : Shape) (k : Known) (o : ℕ) (rec : List ℕ) → asking s shape k (Write o rec) → ⊥
asks_no_write s Absent k o rec asked = asked
asks_no_write s (Sources pairs) k o rec asked = asked
asks_no_write s (Lists order t) k o rec asked = let z = asked.want_is in cc
asks_no_write s (Sinks keeping) k o rec asked = let z = asked.want_is in cc
asks_no_write s (Firsts width outs) k o rec asked = let z = asked.want_is in cc
asks_no_write s (Turns width t) k o rec asked = let z = asked.want_is in cc
asks_no_write s (Rounds width t) k o rec asked = let z = asked.want_is in cc
asks_no_write s Gates k o rec asked = let z = asked.want_is in cc
asks_no_write s Dams k o rec asked = elim asked.want_is [ inl is ↦ cc | inr is ↦ (let z = is.0 in cc) ]
asks_no_write s Queues k o rec asked = let z = asked.want_is in cc

module _ (net : Net) (st : State) (left : Left) (d : DeskState) (pool : PoolState) (formed : IsWellFormed net) (run : RunStands net st left d pool) (s : Who) (strand : Strand) (there : strand_at net st s ≡ Some strand) (own : IsOwn strand (past st s)) (out : left s ≡ true) (going : has_ended (past st s) ≡ false) where
  come_to : (level : ℤ) → next strand (past st s) ≡ Some (Commit level) → CanAsk d s (Now.Commit level)
  come_to level wants =
      let is = early_level level (stands_for strand (past st s) own (Commit level) wants).2 in
      (within net st left d pool formed run s strand there, live net st left d pool formed run s going, is, not_asked_at net st left d pool formed run s level is out (not_reached strand (past st s) own level wants))

  -- whoever writes has a link there
  writes_link : (o : ℕ) (rec : List ℕ) → next strand (past st s) ≡ Some (Write o rec) → is_some (link_out net st s o) ≡ true
  writes_link o rec wants =
      elim (wants_write strand (past st s) own o rec wants) [
        | inl writer ↦ sym ((formed.told s strand there).has_output o) ∙ (both (flag_at strand.ports.has_output o) (not (has (past_of strand (past st s)).refused o)) writer.live).0
        | inr asker ↦ absurd (asks_no_write strand (line_of strand.kind).shape (past_of strand (past st s)).known o rec asker.asked)
      ]

  has_wire : (o : ℕ) → is_some (link_out net st s o) ≡ true → IsSome (wire_out d s o)
  has_wire o is = by_door (out_door d s o) (sym (ap is_some (run.kept.laid.out_doors s o)) ∙ is)
    where
      by_link : (k : ℕ) (x : Option Link) → slice_get net.links k ≡ x → is_some x ≡ true → is_some (slice_get d.wires k) ≡ true
      by_link k None at e = cc
      by_link k (Some link) at e = ap is_some (at_some d.wires k (omega (arith, slice_get_within net.links k _ at, run.kept.laid.wire_count))).1

      by_door : (door : Option ℕ) → is_some (link_through net.links door) ≡ true → IsSome (through d.wires door)
      by_door None e = cc
      by_door (Some k) e = by_link k (slice_get net.links k) refl e

  -- where nothing is offered yet
  come_writing : (o : ℕ) (rec : List ℕ) → next strand (past st s) ≡ Some (Write o rec) → CanAsk d s (Now.Write o)
  come_writing o rec wants = (has_wire o (writes_link o rec wants), free, goes_on, unreserved)
    where
      free : Behind (λ wire. wire.offer ≡ None) d.wires (out_door d s o)
      free wire at =
          let l = out_linked net st left d pool formed run s o wire at in
          let is = from_out net formed st s o l.link l.found in
          no_offer (bytes_at pool) wire.offer
          (l.is.offer ∙ ap (λ z. offered l.link.output (want_at net st left z)) is.0 ∙ ap (λ b. offered l.link.output (cond b None (want_after (strand_at net st s) (past st s)))) out)

      -- so no place is reserved for it
      unreserved : Behind (λ wire. wire.reserved ≡ false) d.wires (out_door d s o)
      unreserved wire at =
          let l = out_linked net st left d pool formed run s o wire at in
          run.pacing.roomy l.place wire l.at_wire ∙ not_second (is_some wire.queue) (is_some wire.offer) (ap is_some (free wire at))

      goes_on : Behind (λ wire. wire.out_closed ≡ false) d.wires (out_door d s o)
      goes_on wire at =
          let l = out_linked net st left d pool formed run s o wire at in
          let is = from_out net formed st s o l.link l.found in
          l.is.out_closed ∙ ap (λ z. has_ended (past st z)) is.0 ∙ going

  -- and what it writes can be held
  can_hold : waiting_of d.wires ≤ 50000000 → (o : ℕ) (rec : Out) → IsSeenBefore (want.Write o rec) (past st s) → CanHold d pool s rec
  can_hold few o (Same i) seen =
      let there = sight_there net (bytes_at pool) st left d run.kept s going i seen in
      (there.0, there.1, subst (IsHeldIn pool) there.1 (sight_held net st left d pool formed run (sight_door d s i)), few_held net st left d pool formed run few there.0)
  can_hold few o (Fresh bytes) seen = tt

-- whoever was out can come home with what it wants
pub can_come : (net : Net) (st : State) (left : Left) (d : DeskState) (pool : PoolState) (s : Who) (strand : Strand) (w : Asking) → IsWellFormed net →
    ((t : Who) (q : Strand) → strand_at net st t ≡ Some q → IsOwn q (past st t)) → RunStands net st left d pool → waiting_of d.wires ≤ 50000000 → left s ≡ true → strand_at net st s ≡ Some strand →
    has_ended (past st s) ≡ false → Some (meaning w (last_seen (past st s))) ≡ next strand (past st s) → IsSeenBefore w (past st s) → CanCome d pool s w
can_come net st left d pool s strand (want.Commit level) formed own run few out there going wants seen =
    come_to net st left d pool formed run s strand there (own s strand there) out going level (sym wants)
can_come net st left d pool s strand (want.Write o rec) formed own run few out there going wants seen = (
  come_writing net st left d pool formed run s strand there (own s strand there) out going o (written rec (last_seen (past st s))) (sym wants),
  can_hold net st left d pool formed run s strand there (own s strand there) out going few o rec seen,
)
can_come net st left d pool s strand _ formed own run few out there going wants seen = tt
