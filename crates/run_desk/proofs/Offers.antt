-- What a record that is offered holds, and that the other records stay.
use Rattle.std.proofs.Common.{◌≡◌, inl, inr, ℕ, ◌<◌, false, List, [], refl, sym, ◌∙◌, ap, subst, arith, Option, Some, None}
use Rattle.std.specs.Prelude.{IsSome, unwrap_or}
use Rattle.std.specs.Option.{option_map, option_map_or}
use Rattle.pipe_model.specs.declared.net.Net.{Net}
use Rattle.pipe_model.specs.declared.step.Out.{Out}
use Rattle.pipe_model.specs.declared.step.Out.TheVariants.{Same, Fresh}
use Rattle.pipe_model.specs.Event.{has_ended, last_seen_on}
use Rattle.pipe_model.specs.State.{Who, State, past}
use Rattle.pipe_model.specs.Licence.{Left}
use Rattle.pipe_model.proofs.Numbers.{equal_or_not}
use Rattle.stage_steps.specs.Coroutine.{written, last_seen, record_seen_on}
use Rattle.stage_steps.proofs.Lasts.{last_is}
use Rattle.record_pool.specs.PoolState.{Held, PoolState}
use Rattle.record_pool.specs.Places.{record_at, bytes_of, bytes_at, holders_of, holders_at, fresh, one_more, shared}
use Rattle.record_pool.proofs.Records.{changed_here, others_stay}
use Rattle.run_desk.specs.Desk.{DeskState}
use Rattle.run_desk.specs.Telling.{sight_through}
use Rattle.run_desk.specs.Telling as Telling
use Rattle.run_desk.specs.Standing.{DeskStands}
use Rattle.run_desk.specs.Turns.{IsFresh, IsHold}
use Rattle.run_desk.specs.Holding.{holds_of}

-- a share keeps the bytes
shared_bytes : (place : Option Held) → bytes_of (one_more place) ≡ bytes_of place
shared_bytes None = refl
shared_bytes (Some held) = refl

-- Sights

module _ (net : Net) (texts : ℕ → List ℕ) (st : State) (left : Left) (d : DeskState) (kept : DeskStands net texts st left d) (s : Who) (going : has_ended (past st s) ≡ false) (i : ℕ) where
  -- the bytes of what a strand that hasn't ended saw last
  pub sight_bytes : option_map_or texts (sight_through d.sights (Telling.sight_door d s i)) [] ≡ last_seen_on i (past st s)
  sight_bytes = by_sight (sight_through d.sights (Telling.sight_door d s i)) ∙ ap (λ r. unwrap_or r []) (kept.sights s i going) ∙ last_is i (past st s)
    where
      by_sight : (x : Option ℕ) → option_map_or texts x [] ≡ unwrap_or (option_map texts x) []
      by_sight None = refl
      by_sight (Some grip) = refl

  -- it is there where a record was seen
  pub sight_there : IsSome (record_seen_on i (past st s)) → (grip : ℕ) × (sight_through d.sights (Telling.sight_door d s i) ≡ Some grip)
  sight_there some = by_sight (sight_through d.sights (Telling.sight_door d s i)) (kept.sights s i going)
    where
      by_sight : (x : Option ℕ) → option_map texts x ≡ record_seen_on i (past st s) → (grip : ℕ) × (x ≡ Some grip)
      by_sight None e = let no : IsSome {T = List ℕ} None = subst (λ (z : Option (List ℕ)). IsSome z) (sym e) some in cc
      by_sight (Some grip) e = (grip, refl)

-- Holds

module _ (pool after : PoolState) where
  -- a new record has its bytes
  fresh_text : (bytes : List ℕ) (grip : ℕ) → IsFresh pool bytes grip after → bytes_at after grip ≡ bytes
  fresh_text bytes grip is = ap bytes_of (changed_here pool after grip (Some (fresh bytes)) is.1)

  -- and a shared one those that it had
  share_text : (seen : ℕ) → after ≡ shared pool seen → (other : ℕ) → bytes_at after other ≡ bytes_at pool other
  share_text seen is other = elim (equal_or_not other seen) [
    | inl e ↦
        let here : bytes_at after seen ≡ bytes_at pool seen = ap bytes_of (changed_here pool after seen (one_more (record_at pool seen)) is) ∙ shared_bytes (record_at pool seen) in
        subst (λ z. bytes_at after z ≡ bytes_at pool z) (sym e) here
    | inr apart ↦ ap bytes_of (others_stay pool after seen (one_more (record_at pool seen)) is other apart)
  ]

  module _ (d : DeskState) (counted : (grip : ℕ) → holders_at pool grip ≡ holds_of d.wires d.sights grip) where
    -- a new record takes no place of one that is held
    fresh_stay : (bytes : List ℕ) (grip : ℕ) → IsFresh pool bytes grip after → (other : ℕ) → 0 < holds_of d.wires d.sights other → bytes_at after other ≡ bytes_at pool other
    fresh_stay bytes grip is other held = elim (equal_or_not other grip) [
      | inl e ↦
          let none : holders_of (record_at pool other) ≡ 0 = ap (λ z. holders_of (record_at pool z)) e ∙ ap holders_of is.0 in
          absurd (omega (arith, held, none, counted other))
      | inr apart ↦ ap bytes_of (others_stay pool after grip (Some (fresh bytes)) is.1 other apart)
    ]

    -- what is held has its bytes after an offer is made
    pub hold_stay : (s : Who) (out : Out) (grip : ℕ) → IsHold d pool s out grip after → (other : ℕ) → 0 < holds_of d.wires d.sights other → bytes_at after other ≡ bytes_at pool other
    hold_stay s (Fresh bytes) grip is = fresh_stay bytes grip is
    hold_stay s (Same i) grip is = λ other held. share_text grip is.1 other

  -- what is offered is what is to be written
  pub hold_text : (net : Net) (st : State) (left : Left) (d : DeskState) (s : Who) → DeskStands net (bytes_at pool) st left d → has_ended (past st s) ≡ false →
      (out : Out) (grip : ℕ) → IsHold d pool s out grip after → bytes_at after grip ≡ written out (last_seen (past st s))
  hold_text net st left d s kept going (Fresh bytes) grip is = fresh_text bytes grip is
  hold_text net st left d s kept going (Same i) grip is =
      share_text grip is.1 grip ∙ sym (ap (λ z. option_map_or (bytes_at pool) z []) is.0) ∙ sight_bytes net (bytes_at pool) st left d kept s going i
