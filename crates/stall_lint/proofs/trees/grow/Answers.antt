-- At first no group was reached, and at last all were.
use Rattle.std.proofs.Common.{◌≡◌, ℕ, length, replicate, sym, ap, subst, arith, inl, inr, Option, Some, None, Vec, Global}
use Rattle.std.specs.Option.{option_map}
use Rattle.std.proofs.lemmas.List.{length-replicate}
use Rattle.pipe_model.proofs.Lists.{get_copy}
use Rattle.pipe_model.proofs.Numbers.{equal_or_not}
use Rattle.stall_lint.specs.Growing.{Grew, IsReached, Stands}
use Rattle.stall_lint.specs.declared.hops.Hop.{Hop}
use Rattle.stall_lint.specs.declared.trees.Place.{Place}
use Rattle.stall_lint.proofs.AllGrown.{none_grown, rooted}
use Rattle.stall_lint.proofs.Places.{reached_on}
use Rattle.stall_lint.proofs.trees.grow.Goals as goal

not_reached : (n g : ℕ) (place : Place) → Stands (replicate n None) g place → ⊥
not_reached n g place here = let e : Some place ≡ None = get_copy n None (Some place) g here in cc e

pub loop-root-init : goal.loop-root-init
loop-root-init c =
    let net = c.args.net.now in
    let labels = c.args.groups.now.labels.items in
    let count = c.len.result in
    let items = c.in_ok-places.ensures in
    let long : length c.in_ok-places.places.items ≡ length labels = (let copies = ap length items in let n = length-replicate count (let none : Option Place = None in none) in omega (arith, copies, n, c.len.ensures, c.args.groups.now.labels.ok.0)) in
    record {
      grown = none_grown net labels c.in_ok-edges.edges.items c.in_ok-places.places.items c.in_ok-edges.ensures long (λ g place here. not_reached count g place (subst (λ z. Stands z g place) items here));
      reached = λ g lt. absurd (omega (arith, lt));
    }

pub loop-root-preserved : goal.loop-root-preserved
loop-root-preserved c =
    let net = c.args.net.now in
    let labels = c.args.groups.now.labels.items in
    let root = c.loop-root.root in
    let old = c.loop-root.places.items in
    let edges = c.grow_at.new.edges.items in
    let places = c.grow_at.new.places.items in
    let grew : Grew net labels root old edges places None = subst (λ (z : Option (Vec Hop Global)). Grew net labels root old edges places (option_map (λ (hops : Vec Hop Global). hops.items) z)) c.in_default.is c.in_ok-circle.ensures in
    record {
      grown = grew.0;
      reached = λ g lt. elim (equal_or_not g root) [
        | inl same ↦ subst (IsReached places) (sym same) grew.2
        | inr other ↦ reached_on old places g grew.1 (c.loop-root.invariant.reached g (omega (arith, lt, other)))
      ];
    }

pub returns : goal.returns
returns c =
    let net = c.args.net.now in
    let labels = c.args.groups.now.labels.items in
    let all = c.loop-root-test.false in
    rooted net c.requires.formed c.args.groups.now c.requires.groups c.loop-root.edges.items c.loop-root.places.items c.loop-root.invariant.grown
    (λ g lt. c.loop-root.invariant.reached g (omega (arith, lt, all, c.len-root-end.ensures, c.args.groups.now.labels.ok.0)))
