-- What a strand that comes home to write makes of the wire where a place was reserved for it.
use Rattle.std.proofs.Common.{◌≡◌, ℕ, ◌+◌, ◌-◌, Bool, false, List, refl, sym, ◌∙◌, ap, subst, arith, Option, Some, None, is_some, slice_get, slice_set}
use Rattle.std.specs.Prelude.{IsSome}
use Rattle.std.specs.Option.{option_map}
use Rattle.std.proofs.lemmas.List.{set-set, set-get_or}
use Rattle.std.proofs.lemmas.Option.{get_or_from_slice_get}
use Rattle.pipe_model.specs.declared.step.Out.{Out}
use Rattle.pipe_model.specs.declared.step.Out.TheVariants.{Same, Fresh}
use Rattle.pipe_model.proofs.Lists.{get_set_same}
use Rattle.record_pool.specs.PoolState.{PoolState}
use Rattle.connectors.specs.WireState.{WireState, with_room, offered, noded_in, unreserved, CanUnreserve}
use Rattle.run_desk.specs.declared.seat.Ask.TheVariants.{Write}
use Rattle.run_desk.specs.Desk.{DeskState}
use Rattle.run_desk.specs.Telling.{out_door, through}
use Rattle.run_desk.specs.Turns.{list_changed_at, list_changed_behind, pool_with_room, pool_without_room, without_room, offers, asking, Behind, IsHold, CanHold, HasOffered, HasWritten}
use Rattle.run_desk.proofs.Lists.{changed_here, map_back}
use Rattle.run_desk.proofs.Pooled.{can_hold_still}

-- Lists

-- two changes behind one door are one
pub changed_twice : {A : Type 0} (f g : A → A) (xs : List A) (door : Option ℕ) → list_changed_behind (list_changed_behind xs f door) g door ≡ list_changed_behind xs (λ x. g (f x)) door
changed_twice f g xs None = refl
changed_twice {A} f g xs (Some k) = go (slice_get xs k) refl
  where
    go : (x : Option A) → slice_get xs k ≡ x → list_changed_at (list_changed_at xs k f x) k g (slice_get (list_changed_at xs k f x) k) ≡ list_changed_at xs k (λ y. g (f y)) x
    go None at = ap (list_changed_at xs k g) at
    go (Some x) at = ap (list_changed_at (slice_set xs k (f x)) k g) (get_set_same xs k (f x) x at) ∙ set-set xs k (f x) (g (f x))

-- where the wire behind a door is as before, so are all
pub unchanged : (f : WireState → WireState) (wires : List WireState) (door : Option ℕ) → Behind (λ wire. f wire ≡ wire) wires door → list_changed_behind wires f door ≡ wires
unchanged f wires None same = refl
unchanged f wires (Some k) same = go (slice_get wires k) refl
  where
    go : (x : Option WireState) → slice_get wires k ≡ x → list_changed_at wires k f x ≡ wires
    go None at = refl
    go (Some wire) at = ap (slice_set wires k) (same wire at ∙ sym (get_or_from_slice_get wires k wire wire at)) ∙ set-get_or wires k wire

-- what stands behind a door after the change there
pub through_changed : (f : WireState → WireState) (wires : List WireState) (door : Option ℕ) → through (list_changed_behind wires f door) door ≡ option_map f (through wires door)
through_changed f wires None = refl
through_changed f wires (Some k) = changed_here wires f k

pub leads_still : (f : WireState → WireState) (wires : List WireState) (door : Option ℕ) → IsSome (through wires door) → IsSome (through (list_changed_behind wires f door) door)
leads_still f wires door some = subst IsSome (sym (through_changed f wires door)) (by_wire (through wires door) some)
  where
    by_wire : (x : Option WireState) → IsSome x → IsSome (option_map f x)
    by_wire None is = cc
    by_wire (Some wire) is = refl

-- what holds of the wire there after the change, where it holds of what the change makes of it
pub behind_changed : (P : WireState → Type 0) (f : WireState → WireState) (wires : List WireState) (door : Option ℕ) → Behind (λ wire. P (f wire)) wires door → Behind P (list_changed_behind wires f door) door
behind_changed P f wires door each wire at =
    let was = map_back f (through wires door) wire (sym (through_changed f wires door) ∙ at) in
    subst P (sym was.2) (each was.0 was.1)

-- A place that is reserved

-- it can be given back
pub room_counted : (pool : PoolState) (wires : List WireState) (door : Option ℕ) →
    Behind (λ wire. CanUnreserve (pool_with_room pool (through wires door)) wire.reserved) (list_changed_behind wires with_room door) door
room_counted pool wires door = behind_changed (λ wire. CanUnreserve (pool_with_room pool (through wires door)) wire.reserved) with_room wires door each
  where
    by_queue : (q : Option (List ℕ)) → CanUnreserve (noded_in pool q) (is_some q)
    by_queue None = tt
    by_queue (Some waiting) = omega arith

    each : Behind (λ wire. CanUnreserve (pool_with_room pool (through wires door)) (is_some wire.queue)) wires door
    each wire at = subst (λ x. CanUnreserve (pool_with_room pool x) (is_some wire.queue)) (sym at) (by_queue wire.queue)

-- and then all is as it was
pub wires_back : (wires : List WireState) (door : Option ℕ) → Behind (λ wire. wire.reserved ≡ false) wires door → list_changed_behind (list_changed_behind wires with_room door) without_room door ≡ wires
wires_back wires door free = changed_twice with_room without_room wires door ∙ unchanged (λ wire. without_room (with_room wire)) wires door each
  where
    each : Behind (λ wire. without_room (with_room wire) ≡ wire) wires door
    each wire at = ap (λ (b : Bool). record wire { reserved = b }) (sym (free wire at))

pub pool_back : (pool : PoolState) (wires : List WireState) (door : Option ℕ) →
    pool_without_room (pool_with_room pool (through wires door)) (through (list_changed_behind wires with_room door) door) ≡ pool
pool_back pool wires door = ap (pool_without_room (pool_with_room pool (through wires door))) (through_changed with_room wires door) ∙ by_wire (through wires door)
  where
    by_queue : (q : Option (List ℕ)) → unreserved (noded_in pool q) (is_some q) ≡ pool
    by_queue None = refl
    by_queue (Some waiting) = let same : pool.nodes + 1 - 1 ≡ pool.nodes = omega arith in ap (λ (n : ℕ). record pool { nodes = n }) same

    by_wire : (x : Option WireState) → pool_without_room (pool_with_room pool x) (option_map with_room x) ≡ pool
    by_wire None = refl
    by_wire (Some wire) = by_queue wire.queue

-- The desk

abbrev pub with_room_at : DeskState → Option ℕ → DeskState
with_room_at d door = record d { wires = list_changed_behind d.wires with_room door }

-- what can be held can be held there
pub can_hold_room : (d : DeskState) (pool : PoolState) (x : Option WireState) (s : ℕ) (door : Option ℕ) (out : Out) → CanHold d pool s out → CanHold (with_room_at d door) (pool_with_room pool x) s out
can_hold_room d pool x s door (Same i) can = can_hold_still d pool x s (Same i) can
can_hold_room d pool x s door (Fresh bytes) can = tt

hold_same : (d : DeskState) (pool : PoolState) (s : ℕ) (door : Option ℕ) (out : Out) (grip : ℕ) (after : PoolState) → IsHold (with_room_at d door) pool s out grip after → IsHold d pool s out grip after
hold_same d pool s door (Same i) grip after is = is
hold_same d pool s door (Fresh bytes) grip after is = is

-- so the strand has come home
pub has_written : (d : DeskState) (pool : PoolState) (s o : ℕ) (door : Option ℕ) (out : Out) (new : DeskState) (after : PoolState) → door ≡ out_door d s o →
    HasOffered (with_room_at d door) (pool_with_room pool (through d.wires door)) s o door out new after → HasWritten d pool s o out new after
has_written d pool s o door out new after is has = record {
  grip = has.grip;
  hold = hold_same d (pool_with_room pool (through d.wires (out_door d s o))) s door out has.grip after
      (subst (λ z. IsHold (with_room_at d door) (pool_with_room pool (through d.wires z)) s out has.grip after) is has.hold);
  home = has.home ∙ ap home_with (changed_twice with_room (λ wire. offered wire has.grip) d.wires door) ∙ ap (λ z. home_with (list_changed_behind d.wires (offers has.grip) z)) is;
}
  where
    home_with : List WireState → DeskState
    home_with wires = record d { seats = list_changed_behind d.seats (asking (Write o)) (Some s); wires = wires }
