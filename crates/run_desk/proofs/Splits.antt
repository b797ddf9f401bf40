-- One of two holds on a record is made a hold on a copy of it, and a pool is only what it has at its places.
use Rattle.std.proofs.Common.{◌≡◌, ◌≢◌, inl, inr, ℕ, ◌<◌, List, [], ◌∷◌, length, refl, sym, ◌∙◌, ap, subst, arith, Option, Some, None, slice_get}
use Rattle.std.specs.Prelude.{IsSome}
use Rattle.std.specs.Option.{option_map}
use Rattle.pipe_model.specs.declared.net.Net.{Net}
use Rattle.pipe_model.specs.State.{State}
use Rattle.pipe_model.specs.Licence.{Left}
use Rattle.pipe_model.proofs.Numbers.{equal_or_not}
use Rattle.record_pool.specs.PoolState.{Held, PoolState}
use Rattle.record_pool.specs.Places.{place_at, record_at, IsHeld, holders_of, holders_at, bytes_of, bytes_at, with_record, fresh, given, one_less}
use Rattle.record_pool.proofs.Records.{record_at-same, record_at-other}
use Rattle.run_desk.specs.Desk.{DeskState}
use Rattle.run_desk.specs.Telling.{joined, sight_door, sight_through}
use Rattle.run_desk.specs.Standing.{DeskStands}
use Rattle.run_desk.specs.Holding.{IsPooled, RunStands}
use Rattle.run_desk.specs.Turns.{list_changed_behind, no_sight}
use Rattle.run_desk.proofs.Lists.{changed_here, changed_length}
use Rattle.run_desk.proofs.SightDoors.{through_changed}
use Rattle.run_desk.proofs.Counts.{hold, count_unseen, count_seen}
use Rattle.run_desk.proofs.Gives.{holders_held, holders_given, held_same, held_here, bytes_given, bytes_fresh}
use Rattle.run_desk.proofs.Pooled.{pooled_given, pooled_fresh}
use Rattle.run_desk.proofs.Texts.{retext}

-- the pool where one hold on a record is given back, and a copy of the record is at an empty place
abbrev pub split_pool : PoolState → ℕ → ℕ → PoolState
split_pool pool grip g = with_record (given pool grip) g (Some (fresh (bytes_at pool grip)))

-- the desk whose sight of this number holds the copy
abbrev pub split_desk : DeskState → ℕ → ℕ → DeskState
split_desk d n g = record d { sights = list_changed_behind d.sights (λ old. Some g) (Some n) }

-- a record that is held is at no empty place
pub apart_of : (pool : PoolState) (grip g : ℕ) → IsHeld pool grip → record_at pool g ≡ None → g ≢ grip
apart_of pool grip g held free same = let none : IsSome {T = Held} None = subst (λ (z : Option Held). IsSome z) (ap (record_at pool) (sym same) ∙ free) held in cc

-- a place that is empty stays so where a hold is given back
pub free_given : (pool : PoolState) (grip g : ℕ) → g ≢ grip → record_at pool g ≡ None → record_at (given pool grip) g ≡ None
free_given pool grip g apart free = record_at-other pool grip g (one_less (record_at pool grip)) apart ∙ free

-- what else is held has the bytes that it had, and so has what has two holds
split_bytes : (pool : PoolState) (grip g x : ℕ) → holders_at pool grip ≡ 2 → record_at pool g ≡ None → g ≢ grip → 0 < holders_at pool x → bytes_at (split_pool pool grip g) x ≡ bytes_at pool x
split_bytes pool grip g x two free apart some =
    bytes_fresh (given pool grip) (bytes_at pool grip) g x (free_given pool grip g apart free) held ∙ (bytes_given pool (Some grip) x held).1
  where
    left : 0 < holders_at (given pool grip) x
    left = elim (equal_or_not x grip) [
      | inl is ↦ omega (arith, holders_given pool (Some grip) x, ap (holders_at pool) is, two, held_here x grip is)
      | inr other ↦ omega (arith, holders_given pool (Some grip) x, held_same x grip other, some)
    ]

    held : IsHeld (given pool grip) x
    held = holders_held (given pool grip) x left

-- what a sight holds has the same bytes, where the sight of a number holds a copy of what it held
split_sight : (texts : ℕ → List ℕ) (sights : List (Option ℕ)) (n grip g : ℕ) → slice_get sights n ≡ Some (Some grip) → texts g ≡ texts grip → (door : Option ℕ) →
    option_map texts (sight_through (list_changed_behind sights (λ old. Some g) (Some n)) door) ≡ option_map texts (sight_through sights door)
split_sight texts sights n grip g at same None = refl
split_sight texts sights n grip g at same (Some m) = elim (equal_or_not m n) [
  | inl is ↦
      let now : sight_through (list_changed_behind sights (λ old. Some g) (Some n)) (Some m) ≡ Some g =
      ap (λ z. joined (slice_get (list_changed_behind sights (λ old. Some g) (Some n)) z)) is ∙ ap joined (changed_here sights (λ old. Some g) n ∙ ap (option_map (λ old. Some g)) at) in
      let was : sight_through sights (Some m) ≡ Some grip = ap (λ z. joined (slice_get sights z)) is ∙ ap joined at in
      ap (option_map texts) now ∙ ap Some same ∙ sym (ap (option_map texts) was)
  | inr other ↦ ap (option_map texts) (through_changed sights (λ old. Some g) n (Some m) (λ e. other (let it : m ≡ n = cc in it)))
]

-- one of the two holds on a record, a sight, is made a copy of the record at an empty place
pub split : (net : Net) (st : State) (left : Left) (d : DeskState) (pool : PoolState) (t n grip g : ℕ) → RunStands net st left d pool → sight_door d t 0 ≡ Some n → slice_get d.sights n ≡ Some (Some grip) →
    holders_at pool grip ≡ 2 → record_at pool g ≡ None → RunStands net st left (split_desk d n g) (split_pool pool grip g)
split net st left d pool t n grip g stands door at two free = record {
  kept = kept;
  pooled = pooled;
  pacing = record { paced = stands.pacing.paced; roomy = stands.pacing.roomy; shown = stands.pacing.shown };
}
  where
    texts : ℕ → List ℕ
    texts = bytes_at (split_pool pool grip g)

    there : IsHeld pool grip
    there = holders_held pool grip (omega (arith, two))

    apart : g ≢ grip
    apart = apart_of pool grip g there free

    was : sight_through d.sights (Some n) ≡ Some grip
    was = ap joined at

    given_one : IsPooled d.wires (list_changed_behind d.sights no_sight (Some n)) (given pool grip)
    given_one = pooled_given d.wires d.wires d.sights (list_changed_behind d.sights no_sight (Some n)) pool (Some grip) stands.pooled
        (λ x. omega (arith, count_unseen x d.sights (Some n), ap (hold x) was)) refl

    pooled : IsPooled d.wires (split_desk d n g).sights (split_pool pool grip g)
    pooled = pooled_fresh d.wires d.wires (list_changed_behind d.sights no_sight (Some n)) (split_desk d n g).sights (given pool grip) (bytes_at pool grip) g given_one (free_given pool grip g apart free)
        (λ x. omega (arith, count_unseen x d.sights (Some n), count_seen x g d.sights n (Some grip) at, ap (hold x) was)) refl

    again : DeskStands net texts st left d
    again = retext net (bytes_at pool) texts st left d stands.kept
        (λ x some. split_bytes pool grip g x two free apart (omega (arith, some, stands.pooled.counted x)))

    copied : texts g ≡ texts grip
    copied = ap bytes_of (record_at-same (given pool grip) g (Some (fresh (bytes_at pool grip)))) ∙ sym (split_bytes pool grip g grip two free apart (omega (arith, two)))

    kept : DeskStands net texts st left (split_desk d n g)
    kept = record {
      laid = record {
        seat_count = again.laid.seat_count;
        wire_count = again.laid.wire_count;
        sight_count = omega (arith, changed_length d.sights (λ old. Some g) (Some n), again.laid.sight_count);
        sights_there = λ s i m is. omega (arith, changed_length d.sights (λ old. Some g) (Some n), again.laid.sights_there s i m is);
        sights_apart = again.laid.sights_apart;
        in_doors = again.laid.in_doors;
        out_doors = again.laid.out_doors;
        firsts = again.laid.firsts;
      };
      seats = again.seats;
      nobody = again.nobody;
      wires = again.wires;
      sights = λ s i going. split_sight texts d.sights n grip g at copied (sight_door d s i) ∙ again.sights s i going;
      member_count = again.member_count;
      members = again.members;
      early = again.early;
    }

-- a pool with the same at each place, and as many places in queues, is as good
pub same_run : (net : Net) (st : State) (left : Left) (d : DeskState) (pool other : PoolState) → RunStands net st left d pool → ((x : ℕ) → record_at other x ≡ record_at pool x) → other.nodes ≡ pool.nodes →
    RunStands net st left d other
same_run net st left d pool other stands same nodes = record {
  kept = retext net (bytes_at pool) (bytes_at other) st left d stands.kept (λ x some. ap bytes_of (same x));
  pooled = record {
    counted = λ x. ap holders_of (same x) ∙ stands.pooled.counted x;
    alive = λ x held is. stands.pooled.alive x held (sym (same x) ∙ is);
    nodes = nodes ∙ stands.pooled.nodes;
  };
  pacing = stands.pacing;
}

-- behind the last place it is empty
pub empty_place : (pool : PoolState) → record_at pool (length pool.records) ≡ None
empty_place pool = by_places pool.records
  where
    by_places : (places : List (Option Held)) → place_at places (length places) ≡ None
    by_places [] = refl
    by_places (place ∷ rest) = by_places rest
