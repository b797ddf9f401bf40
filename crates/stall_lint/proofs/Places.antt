-- Where groups stand, when one place is written.
use Rattle.std.proofs.Common.{◌≡◌, ◌≢◌, ◌⊎◌, inl, inr, ℕ, suc, false, List, refl, sym, ◌∙◌, ap, subst, Option, Some, slice_get, slice_set}
use Rattle.pipe_model.specs.declared.net.Net.{Net}
use Rattle.pipe_model.proofs.Lists.{get_set_other, get_set_same}
use Rattle.pipe_model.proofs.Numbers.{equal_or_not}
use Rattle.stall_lint.specs.declared.hops.Hop.{Hop}
use Rattle.stall_lint.specs.declared.trees.Place.{Place}
use Rattle.stall_lint.specs.Growing.{AreKept, IsOn, IsOpen, IsReached, IsUp, Places, Stands}

-- a group stands in one way
pub one_place : (places : Places) (g : ℕ) (p q : Place) → Stands places g p → Stands places g q → p ≡ q
one_place places g p q here there = cc

pub one_depth : (places : Places) (g d e : ℕ) → IsOpen places g d → IsOpen places g e → d ≡ e
one_depth places g d e one two = sym one.deep ∙ ap (λ p. p.depth) (one_place places g one.place two.place one.here two.here) ∙ two.deep

-- What is kept

pub all_kept : (places : Places) → AreKept places places
all_kept places g place here = record { place = place; here = here; up = refl; depth = refl }

pub kept_on : (old mid new : Places) → AreKept old mid → AreKept mid new → AreKept old new
kept_on old mid new before after g place here =
    let a = before g place here in
    let b = after g a.place a.here in
    record { place = b.place; here = b.here; up = b.up ∙ a.up; depth = b.depth ∙ a.depth }

pub reached_on : (old new : Places) (g : ℕ) → AreKept old new → IsReached old g → IsReached new g
reached_on old new g kept reached = let a = kept g reached.0 reached.1 in (a.place, a.here)

pub up_kept : (old new : Places) (j g h : ℕ) → AreKept old new → IsUp old j g h → IsUp new j g h
up_kept old new j g h kept up =
    let below = kept g up.below up.from in
    let above = kept h up.above up.to in
    record { below = below.place; above = above.place; from = below.here; to = above.here; up = below.up ∙ up.up; deeper = below.depth ∙ up.deeper ∙ ap suc (sym above.depth) }

-- One place is written

module _ (old : Places) (a : ℕ) (was : Option Place) (at : slice_get old a ≡ Some was) (new : Place) where
  abbrev written : Places
  written = slice_set old a (Some new)

  pub stands_there : Stands written a new
  stands_there = get_set_same old a (Some new) was at

  pub stands_else : (g : ℕ) (p : Place) → g ≢ a → Stands old g p → Stands written g p
  stands_else g p apart here = get_set_other old a g (Some new) apart ∙ here

  pub stands_cases : (g : ℕ) (p : Place) → Stands written g p → ((g ≡ a) × (p ≡ new)) ⊎ ((g ≢ a) × Stands old g p)
  stands_cases g p here = elim (equal_or_not g a) [
    | inl same ↦ inl (same, one_place written a p new (subst (λ z. Stands written z p) same here) stands_there)
    | inr apart ↦ inr (apart, sym (get_set_other old a g (Some new) apart) ∙ here)
  ]

  -- where the new place only adds that the group is done, or it wasn't reached
  pub kept_written : ((p : Place) → was ≡ Some p → (new.up ≡ p.up) × (new.depth ≡ p.depth)) → AreKept old written
  kept_written alike g p here = elim (equal_or_not g a) [
    | inl same ↦ (
        let e : Some was ≡ Some (Some p) = sym at ∙ ap (slice_get old) (sym same) ∙ here in
        let it = alike p (cc e) in
        record { place = new; here = subst (λ z. Stands written z new) (sym same) stands_there; up = it.0; depth = it.1 })
    | inr apart ↦ record { place = p; here = stands_else g p apart here; up = refl; depth = refl }
  ]

  pub open_else : (g d : ℕ) → g ≢ a → IsOpen old g d → IsOpen written g d
  open_else g d apart waits = record { place = waits.place; here = stands_else g waits.place apart waits.here; deep = waits.deep; undone = waits.undone }

  pub open_cases : (g d : ℕ) → IsOpen written g d → ((g ≡ a) × (new.depth ≡ d) × (new.is_done ≡ false)) ⊎ ((g ≢ a) × IsOpen old g d)
  open_cases g d waits = elim (stands_cases g waits.place waits.here) [
    | inl there ↦ inl (there.0, ap (λ p. p.depth) (sym there.1) ∙ waits.deep, ap (λ p. p.is_done) (sym there.1) ∙ waits.undone)
    | inr other ↦ inr (other.0, record { place = waits.place; here = other.1; deep = waits.deep; undone = waits.undone })
  ]

  pub on_else : (net : Net) (labels : List ℕ) (k : ℕ) (hop : Hop) → (on : IsOn net labels old k hop) → on.from ≢ a → on.to ≢ a → AreKept old written → IsOn net labels written k hop
  on_else net labels k hop on from to kept = record {
    from = on.from;
    to = on.to;
    leads = on.leads;
    before = open_else on.from k from on.before;
    after = open_else on.to (suc k) to on.after;
    up = up_kept old written hop.link on.to on.from kept on.up;
  }
