-- Whom a turn concerns is woken by it.
use Rattle.std.proofs.Common.{◌≡◌, ◌≢◌, ◌⊎◌, ℕ, ◌+◌, ◌<◌, Bool, true, false, cond, ◌&&◌, ◌||◌, not, ◌==◌, List, length, refl, sym, ◌∙◌, ap, subst, Option, Some, None, is_some, slice_get, ℤ, pos, negsuc}
use Rattle.std.specs.Option.{option_map}
use Rattle.pipe_model.specs.declared.net.Net.{Net}
use Rattle.pipe_model.specs.declared.net.Link.{Link}
use Rattle.pipe_model.specs.declared.step.Seen.{Seen}
use Rattle.pipe_model.specs.declared.step.Seen.TheVariants.{Up, Saw, SawEnd, SawAllEnd, Took, Put, Refused, Cut, Primed, Opened, Joined, Ended}
use Rattle.pipe_model.specs.Event.{has_ended}
use Rattle.pipe_model.specs.State.{State, past}
use Rattle.pipe_model.specs.Licence.{Left}
use Rattle.pipe_model.specs.WellFormed.{IsWellFormed}
use Rattle.record_pool.specs.PoolState.{PoolState}
use Rattle.connectors.specs.WireState.{WireState, hand_of, lined_up, taken, settled, cleared}
use Rattle.run_desk.specs.declared.seat.Seat.{Seat}
use Rattle.run_desk.specs.Desk.{DeskState}
use Rattle.run_desk.specs.Standing.{DeskStands, link_through}
use Rattle.run_desk.specs.Turns.{desk_after_turn, CanTurn, seat_after, out_shut, in_shut, ends, sees}
use Rattle.run_desk.specs.Telling as Telling
use Rattle.run_desk.proofs.Lists.{changed_here, changed_there}
use Rattle.run_desk.proofs.Queues.{queues_as}
use Rattle.core_machine.specs.Floor.{IsInUse}
use Rattle.core_machine.specs.Members.{Members, is_member}
use Rattle.core_machine.specs.Woken.{IsCovering, IsWhole, IsLarger, IsWaitingIn, IsStageIn, AreEndsIn, may_settle}
use Rattle.core_machine.proofs.Fulls.{reached_code, same_code}
use Rattle.core_machine.proofs.Stills.{IsStill, Reads, still_same, still_changed, still_closed, leads_to, leads_from}
use Rattle.core_machine.proofs.Wakes.{IsAround, clash, covers_on, full_levels}

-- Wires

-- nobody sees a record on a rendezvous where there is no offer
hidden : {A : Type 0} (b : Bool) → is_some (cond {A = Option ℕ} b None None) ≡ true → A
hidden true p = cc
hidden false p = cc

-- as where it was withdrawn
cleared_reads : (wire : WireState) → wire.queue ≡ None → Reads (Some wire) (Some (cleared wire))
cleared_reads wire plain = (λ p. hidden (wire.puts == wire.tooks) (ap (λ q. is_some (hand_of (cleared wire) q)) (sym plain) ∙ p), λ p. p)

-- or put by who may write more
settled_reads : (wire : WireState) → wire.queue ≡ None → wire.out_closed ≡ false → Reads (Some wire) (Some (settled wire))
settled_reads wire plain writes = (λ p. hidden (wire.puts + 1 == wire.tooks) (ap (λ q. is_some (hand_of (settled wire) (lined_up q wire.offer))) (sym plain) ∙ p), λ p. no_over p)
  where
    no_over : (wire.out_closed && wire.puts + 1 == wire.tooks) ≡ true → Telling.is_over (Some wire) ≡ true
    no_over p = let z : false ≡ true = sym (ap (λ b. b && wire.puts + 1 == wire.tooks) writes) ∙ p in cc

-- a wire is no queue where its link is none
pub no_waiting : (q : Option (List ℕ)) (b : Bool) → is_some q ≡ b → b ≡ false → q ≡ None
no_waiting None b same plain = refl
no_waiting (Some waiting) b same plain = cc

-- Seats

-- who is told something asks for nothing
asks_nothing : (seen : Seen) (x : Option Seat) → Telling.ask_of (option_map (seat_after seen) x) ≡ Telling.ask_of None
asks_nothing seen None = refl
asks_nothing seen (Some seat) = refl

-- where nothing may be settled, what is settled for the stage of a seat was before
settled_seat : (seen : Seen) (x : Option Seat) → (ends seen || (sees seen && not (is_some (Telling.primed_of x)))) ≡ false →
    is_some (Telling.primed_of (option_map (seat_after seen) x)) ≡ true → is_some (Telling.primed_of x) ≡ true
settled_seat seen None nothing p = p
settled_seat seen (Some seat) nothing p = go seat.has_seen seat.has_ended (ends seen) (sees seen) nothing p
  where
    go : (seen ended ends sees : Bool) → (ends || (sees && not (is_some (cond seen (Some true) (cond ended (Some false) None))))) ≡ false →
        is_some (cond (seen || sees) (Some true) (cond (ended || ends) (Some false) None)) ≡ true → is_some (cond seen (Some true) (cond ended (Some false) None)) ≡ true
    go true ended ends sees nothing p = refl
    go false true ends sees nothing p = refl
    go false false true sees nothing p = cc
    go false false false true nothing p = cc
    go false false false false nothing p = cc

-- and of a strand
pub was_settled : (d : DeskState) (s : ℕ) (seen : Seen) → may_settle d s seen ≡ false →
    is_some (Telling.primed_of (slice_get (desk_after_turn d s seen).seats s)) ≡ true → is_some (Telling.primed_of (slice_get d.seats s)) ≡ true
was_settled d s seen nothing p = settled_seat seen (slice_get d.seats s) nothing (ap (λ z. is_some (Telling.primed_of z)) (sym (changed_here d.seats (seat_after seen) s)) ∙ p)

-- who hasn't ended may write more on each of its outputs
module _ (net : Net) (texts : ℕ → List ℕ) (st : State) (left : Left) (d : DeskState) (kept : DeskStands net texts st left d) (s : ℕ) (live : Telling.ended_at d s ≡ false) where
  going : has_ended (past st s) ≡ false
  going = go (slice_get d.seats s) refl
    where
      go : (x : Option Seat) → slice_get d.seats s ≡ x → has_ended (past st s) ≡ false
      go None at = ap has_ended (kept.nobody s at)
      go (Some seat) at = sym (kept.seats s seat at).ended ∙ ap Telling.ended_of (sym at) ∙ live

  still_open : (o j : ℕ) (link : Link) (wire : WireState) → Telling.out_door d s o ≡ Some j → slice_get net.links j ≡ Some link → slice_get d.wires j ≡ Some wire → wire.out_closed ≡ false
  still_open o j link wire door l at = (kept.wires j link wire l at).out_closed ∙ ap (λ z. has_ended (past st z)) (leads_from net st d kept.laid s o j link door l) ∙ going

  -- who reads what it put into a queue was woken, and where it put at a rendezvous nobody sees more
  settled_for : (new : Members) (u : ℕ) → is_member new u ≡ false → (o j : ℕ) (link : Link) (wire : WireState) → IsWaitingIn net.links new (Telling.out_door d s o) →
      Telling.out_door d s o ≡ Some j → slice_get net.links j ≡ Some link → link.to ≡ u → slice_get d.wires j ≡ Some wire → Reads (Some wire) (Some (settled wire))
  settled_for new u off o j link wire woken door l to at = by_link link.queue refl
    where
      by_link : (b : Bool) → link.queue ≡ b → Reads (Some wire) (Some (settled wire))
      by_link true queue = clash new u (ap (is_member new) (sym to) ∙ woken link (ap (link_through net.links) door ∙ l) queue) off
      by_link false queue = settled_reads wire (no_waiting wire.queue link.queue (queues_as net texts st left link wire (kept.wires j link wire l at)) queue) (still_open o j link wire door l at)

module _ (net : Net) (texts : ℕ → List ℕ) (st : State) (left : Left) (d : DeskState) (kept : DeskStands net texts st left d) (pool : PoolState) (s : ℕ) (live : Telling.ended_at d s ≡ false) (new : Members) where
  module _ (u : ℕ) (apart : u ≢ s) (off : is_member new u ≡ false) where
    -- a strand that wasn't woken sees no more on the wires
    still_made : (seen : Seen) → CanTurn d pool s seen → AreEndsIn d net.links s seen new → IsStill net.links u d.wires (desk_after_turn d s seen).wires
    still_made (Took i) can woken = still_changed net.links u d.wires taken (Telling.in_door d s i)
        (λ j link wire door l to at. absurd (apart (sym to ∙ leads_to net st d kept.laid s i j link door l)))
        (λ j link wire door l from at. clash new u (ap (is_member new) (sym from) ∙ woken link (ap (link_through net.links) door ∙ l)) off)
    still_made (Put o) can woken = still_changed net.links u d.wires settled (Telling.out_door d s o)
        (λ j link wire door l to at. settled_for net texts st left d kept s live new u off o j link wire woken door l to at)
        (λ j link wire door l from at. absurd (apart (sym from ∙ leads_from net st d kept.laid s o j link door l)))
    still_made (Refused o) can woken = still_changed net.links u d.wires cleared (Telling.out_door d s o)
        (λ j link wire door l to at. cleared_reads wire (can.0 wire (ap (Telling.through d.wires) door ∙ at)))
        (λ j link wire door l from at. (λ p. p, λ p. p))
    still_made (Ended c) can woken = still_closed net.links u d.wires out_shut in_shut (Telling.outputs_of (slice_get d.doors s)) (Telling.inputs_of (slice_get d.doors s))
        (λ x wire p. p) (λ x wire p. p)
        (λ j link place door l to. clash new u (ap (is_member new) (sym to) ∙ woken.0 place (Some j) door link l) off)
        (λ j link place door l from. clash new u (ap (is_member new) (sym from) ∙ woken.1 place (Some j) door link l) off)
    still_made (Up l c) can woken = still_same net.links u d.wires
    still_made (Saw i) can woken = still_same net.links u d.wires
    still_made (SawEnd i) can woken = still_same net.links u d.wires
    still_made SawAllEnd can woken = still_same net.links u d.wires
    still_made (Cut i) can woken = still_same net.links u d.wires
    still_made (Primed b) can woken = still_same net.links u d.wires
    still_made (Opened k) can woken = still_same net.links u d.wires
    still_made (Joined k c) can woken = still_same net.links u d.wires

  same_doors : (seen : Seen) → (desk_after_turn d s seen).doors ≡ d.doors
  same_doors (Up l c) = refl
  same_doors (Saw i) = refl
  same_doors (SawEnd i) = refl
  same_doors SawAllEnd = refl
  same_doors (Took i) = refl
  same_doors (Put o) = refl
  same_doors (Refused o) = refl
  same_doors (Cut i) = refl
  same_doors (Primed b) = refl
  same_doors (Opened k) = refl
  same_doors (Joined k c) = refl
  same_doors (Ended c) = refl

  -- which levels were full before, and what was woken where they are now
  module _ (low zero : Bool) where
    levels_made : (seen : Seen) → CanTurn d pool s seen →
        low ≡ (not (ends seen) || is_some (Telling.level_code d (negsuc 0))) → zero ≡ (not (ends seen) || is_some (Telling.level_code d (pos 0))) →
        (low ≡ false → is_some (Telling.level_code (desk_after_turn d s seen) (negsuc 0)) ≡ true → IsWhole new) → (zero ≡ false → is_some (Telling.level_code (desk_after_turn d s seen) (pos 0)) ≡ true → IsWhole new) →
        (u : ℕ) → u < new.size → is_member new u ≡ false → (level : ℤ) → (level ≡ negsuc 0) ⊎ (level ≡ pos 0) →
        is_some (Telling.level_code (desk_after_turn d s seen) level) ≡ true → is_some (Telling.level_code d level) ≡ true
    levels_made (Ended c) can low_is zero_is fills_low fills_zero u inside off level early = full_levels d (desk_after_turn d s (Ended c)) new low zero low_is zero_is fills_low fills_zero u inside off level early
    levels_made (Up l c) can low_is zero_is fills_low fills_zero u inside off level early = reached_code d (desk_after_turn d s (Up l c)) s l level can.3 refl
    levels_made (Saw i) can low_is zero_is fills_low fills_zero u inside off level early = same_code d (desk_after_turn d s (Saw i)) level refl
    levels_made (SawEnd i) can low_is zero_is fills_low fills_zero u inside off level early = same_code d (desk_after_turn d s (SawEnd i)) level refl
    levels_made SawAllEnd can low_is zero_is fills_low fills_zero u inside off level early = same_code d (desk_after_turn d s SawAllEnd) level refl
    levels_made (Took i) can low_is zero_is fills_low fills_zero u inside off level early = same_code d (desk_after_turn d s (Took i)) level refl
    levels_made (Put o) can low_is zero_is fills_low fills_zero u inside off level early = same_code d (desk_after_turn d s (Put o)) level refl
    levels_made (Refused o) can low_is zero_is fills_low fills_zero u inside off level early = same_code d (desk_after_turn d s (Refused o)) level refl
    levels_made (Cut i) can low_is zero_is fills_low fills_zero u inside off level early = same_code d (desk_after_turn d s (Cut i)) level refl
    levels_made (Primed b) can low_is zero_is fills_low fills_zero u inside off level early = same_code d (desk_after_turn d s (Primed b)) level refl
    levels_made (Opened k) can low_is zero_is fills_low fills_zero u inside off level early = same_code d (desk_after_turn d s (Opened k)) level refl
    levels_made (Joined k c) can low_is zero_is fills_low fills_zero u inside off level early = same_code d (desk_after_turn d s (Joined k c)) level refl

    module _ (seen : Seen) where
      abbrev n : DeskState
      n = desk_after_turn d s seen

      seat_here : slice_get n.seats s ≡ option_map (seat_after seen) (slice_get d.seats s)
      seat_here = changed_here d.seats (seat_after seen) s

      nobody_here : (k : ℕ) → is_some (Telling.seen_at n s k) ≡ true → is_member new s ≡ true
      nobody_here k p =
          let nothing : is_some (Telling.seen_by n s k (Telling.ask_of None)) ≡ true =
          subst (λ z. is_some (Telling.seen_by n s k z) ≡ true) (ap Telling.ask_of seat_here ∙ asks_nothing seen (slice_get d.seats s)) p in
          absurd (let r : ⊥ = cc in r)

      -- the desk after a turn differs by what happened at the strand
      around_made : CanTurn d pool s seen → AreEndsIn d net.links s seen new →
          low ≡ (not (ends seen) || is_some (Telling.level_code d (negsuc 0))) → zero ≡ (not (ends seen) || is_some (Telling.level_code d (pos 0))) →
          (is_some (Telling.primed_of (slice_get n.seats s)) ≡ true → (is_some (Telling.primed_of (slice_get d.seats s)) ≡ true) ⊎ IsStageIn n s new) →
          (low ≡ false → is_some (Telling.level_code n (negsuc 0)) ≡ true → IsWhole new) → (zero ≡ false → is_some (Telling.level_code n (pos 0)) ≡ true → IsWhole new) →
          IsAround net d n s new
      around_made can woken low_is zero_is stage fills_low fills_zero = record {
        seats = λ u apart. changed_there d.seats (seat_after seen) s u apart;
        doors = same_doors seen;
        still = λ u apart off. still_made u apart off seen can woken;
        levels = levels_made seen can low_is zero_is fills_low fills_zero;
        primer = stage;
        here = nobody_here;
      }

-- who was woken stays in a larger set
more_ends : (d : DeskState) (links : List Link) (s : ℕ) (seen : Seen) (set more : Members) → ((t : ℕ) → is_member set t ≡ true → is_member more t ≡ true) → AreEndsIn d links s seen set → AreEndsIn d links s seen more
more_ends d links s (Took i) set more larger woken = λ link l. larger link.from (woken link l)
more_ends d links s (Put o) set more larger woken = λ link l queue. larger link.to (woken link l queue)
more_ends d links s (Ended c) set more larger woken = (λ place door at link l. larger link.to (woken.0 place door at link l), λ place door at link l. larger link.from (woken.1 place door at link l))
more_ends d links s (Up l c) set more larger woken = woken
more_ends d links s (Saw i) set more larger woken = woken
more_ends d links s (SawEnd i) set more larger woken = woken
more_ends d links s SawAllEnd set more larger woken = woken
more_ends d links s (Refused o) set more larger woken = woken
more_ends d links s (Cut i) set more larger woken = woken
more_ends d links s (Primed b) set more larger woken = woken
more_ends d links s (Opened k) set more larger woken = woken
more_ends d links s (Joined k c) set more larger woken = woken

-- after a turn the set covers the strands that may go on, where those next to it and those for whom it settled something were woken
pub covers_out : (net : Net) (d : DeskState) → IsWellFormed net → IsInUse net d →
    (pool : PoolState) (s : ℕ) (seen : Seen) (old set new : Members) (low zero : Bool) → old.size ≡ length net.strands → CanTurn d pool s seen → Telling.ended_at d s ≡ false →
    IsLarger old set → AreEndsIn d net.links s seen set → IsLarger set new →
    low ≡ (not (ends seen) || is_some (Telling.level_code d (negsuc 0))) → zero ≡ (not (ends seen) || is_some (Telling.level_code d (pos 0))) →
    (is_some (Telling.primed_of (slice_get (desk_after_turn d s seen).seats s)) ≡ true → (is_some (Telling.primed_of (slice_get d.seats s)) ≡ true) ⊎ IsStageIn (desk_after_turn d s seen) s new) →
    (low ≡ false → is_some (Telling.level_code (desk_after_turn d s seen) (negsuc 0)) ≡ true → IsWhole new) → (zero ≡ false → is_some (Telling.level_code (desk_after_turn d s seen) (pos 0)) ≡ true → IsWhole new) →
    IsCovering d old → IsCovering (desk_after_turn d s seen) new
covers_out net d formed used pool s seen old set new low zero size can live larger woken larger' low_is zero_is stage fills_low fills_zero covers =
    covers_on net used.st formed d (desk_after_turn d s seen) used.kept.laid s new (larger'.0 ∙ larger.0 ∙ size)
    (around_made net used.texts used.st used.left d used.kept pool s live new low zero seen can (more_ends d net.links s seen set new larger'.1 woken)
    low_is zero_is stage fills_low fills_zero)
    old (λ t held. larger'.1 t (larger.1 t held)) covers (λ u apart level asks. used.early u level asks)
