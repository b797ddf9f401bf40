-- Where the consumer stands below the strand that writes, or right behind it while that waits, nobody below it may go on.
use Rattle.std.proofs.Common.{arith, ℕ, ◌≡◌, ◌≢◌, ◌<◌, ◌⊎◌, inl, inr, ◌+◌, ◌||◌, not, Bool, length, Some, true, false, refl, sym, ◌∙◌, ap, subst, slice_get}
use Rattle.std.proofs.lemmas.Option.{slice_get_within}
use Rattle.pipe_model.proofs.Numbers.{equal_or_not}
use Rattle.pipe_model.proofs.Truths.{both}
use Rattle.pipe_model.specs.declared.step.Seen.TheVariants.{Saw}
use Rattle.run_desk.specs.Telling as Telling
use Rattle.run_desk.specs.declared.seat.Ask.TheVariants as Now
use Rattle.core_machine.specs.Ahead.{HasGoneQuietly, HasSeenOrPut, IsAheadOn}
use Rattle.core_machine.specs.Floor.{FloorState}
use Rattle.core_machine.specs.declared.floor.Ahead.TheVariants as Known
use Rattle.core_machine.proofs.Aheads.{asks_write, known_of, reads_as, read_next}
use Rattle.core_machine.proofs.Plays.{links_inside}
use Rattle.core_machine.proofs.floor.Floor.ahead_of_offer_on.Goals as goal

denied : (b : Bool) → not b ≡ true → b ≡ false
denied true e = cc
denied false e = refl

-- a strand that is at most one behind stands below, right behind, or is the same
near_is : (to s : ℕ) → to < s + 2 → (to < s) ⊎ ((to ≡ s + 1) ⊎ (to ≡ s))
near_is to s near = elim (equal_or_not to s) [
  | inl e ↦ inr (inr e)
  | inr apart ↦ elim (equal_or_not to (s + 1)) [ inl e ↦ inr (inl e) | inr other ↦ inl (below to s near apart other) ]
]
  where
    below : (a b : ℕ) → a < b + 2 → a ≢ b → a ≢ b + 1 → a < b
    below a b p q r = grind arith

pub waits-requires : goal.waits-requires
waits-requires c =
    let f = c.self.inside in
    let v : ◌≡◌ {A = FloorState} (record { net = f.net; desk = f.desk; pool = f.pool; ready = f.ready }) c.args.self.now = c.self.view_is in
    let inside = slice_get_within c.args.self.now.net.links c.args.link c.args.its c.requires.its in
    subst (λ (z : FloorState). c.args.link < length z.desk.wires) (sym v) (subst (λ m. c.args.link < m) (sym c.requires.wires) inside)

pub reads-requires : goal.reads-requires
reads-requires c =
    let f = c.self.inside in
    let v : ◌≡◌ {A = FloorState} (record { net = f.net; desk = f.desk; pool = f.pool; ready = f.ready }) c.args.self.now = c.self.view_is in
    let j = c.args.link in
    let seats = subst (λ (z : FloorState). length z.desk.seats ≡ length z.net.strands) (sym v) c.requires.seats in
    let at = subst (λ (z : FloorState). slice_get z.net.links j ≡ Some c.args.its) (sym v) c.requires.its in
    (links_inside f.net (length f.desk.seats) c.self.invariant.formed seats j c.args.its at).1

pub returns-then-reads : goal.returns-then-reads
returns-then-reads c = λ d pool k seen o asked gone told writes door.
    let f = c.self.inside in
    let v : ◌≡◌ {A = FloorState} (record { net = f.net; desk = f.desk; pool = f.pool; ready = f.ready }) c.args.self.now = c.self.view_is in
    let s = c.args.strand in
    let j = c.args.link in
    let there = subst (λ (z : FloorState). Telling.out_door z.desk s o ≡ Some j) (sym v) door in
    let at = subst (λ (z : FloorState). slice_get z.net.links j ≡ Some c.args.its) (sym v) c.requires.its in
    let link = c.args.its in
    let wire = Telling.through f.desk.wires (Some j) in
    let waits = both (Telling.shows wire) (not (Telling.can_put wire || Telling.can_refuse wire)) (sym c.waits.ensures ∙ c.if-waits.true) in
    let shut : (Telling.can_put (Telling.wire_out f.desk s o) || Telling.can_refuse (Telling.wire_out f.desk s o)) ≡ false =
    ap (λ z. Telling.can_put (Telling.through f.desk.wires z) || Telling.can_refuse (Telling.through f.desk.wires z)) there ∙ denied (Telling.can_put wire || Telling.can_refuse wire) waits.1 in
    let asks = reads_as (Telling.ask_at f.desk link.to) link.input (sym c.reads.ensures ∙ c.if-reads.true) in
    let went = subst (λ (z : FloorState). HasGoneQuietly z.net d pool s k seen asked z.desk z.pool) (sym v) gone in
    let near : (link.to < s) ⊎ ((link.to ≡ s + 1) × ((Telling.can_put (Telling.wire_out f.desk s o) || Telling.can_refuse (Telling.wire_out f.desk s o)) ≡ false)) = elim (near_is link.to s c.if-is_near.true) [
      | inl below ↦ inl below
      | inr (inl behind) ↦ inr (behind, shut)
      | inr (inr same) ↦ let no : Now.Read link.input ≡ Now.Write o = sym asks ∙ ap (Telling.ask_at f.desk) same ∙ asks_write f.net d pool s k seen asked f.desk f.pool went o writes in cc no
    ] in
    subst (λ (z : FloorState). IsAheadOn z.desk (Known.Saw link.to link.input)) v
    (known_of f.desk (Known.Saw link.to link.input) (link.to, link.input, Saw link.input) refl
    (read_next f.net d pool s k seen asked f.desk f.pool
    went (subst (λ (z : FloorState). HasSeenOrPut z.net d s seen) (sym v) told)
    o writes j link there at near waits.0 asks))
