-- The tree begins at its root, and goes on by steps.
use Rattle.std.proofs.Common.{◌≡◌, false, refl, sym, ◌∙◌, ap, subst, length, arith, Option, Some, None, slice_get, slice_set}
use Rattle.std.specs.Option.{is_some}
use Rattle.std.proofs.lemmas.Option.{slice_get_read}
use Rattle.stall_lint.specs.Growing.{IsGrowing, Steps}
use Rattle.stall_lint.specs.declared.trees.Place.{Place}
use Rattle.stall_lint.specs.declared.trees.Step.TheVariants.{At, Ends}
use Rattle.stall_lint.proofs.AllGrown.{begins, begun_kept, begun_reached}
use Rattle.stall_lint.proofs.Places.{kept_on, reached_on}
use Rattle.stall_lint.proofs.trees.grow_at.Goals as goal

nothing : {A : Type 0} (x : Option A) → is_some x ≡ false → x ≡ None
nothing None e = refl
nothing (Some y) e = cc

pub grow-init : goal.grow-init
grow-init c =
    let net = c.args.net.now in
    let labels = c.args.groups.now.labels.items in
    let edges = c.args.edges.now.items in
    let places = c.args.places.now.items in
    let root = c.args.root in
    let wide = c.requires.grown.trees.places_count in
    let lt = c.requires.within in
    let none = nothing c.index.result.now (sym c.is_some.ensures ∙ c.if-is_some.false) in
    let unreached : slice_get places root ≡ Some None = slice_get_read places (length places) root c.index.result.now refl (omega (arith, wide, lt)) c.index.ensures ∙ ap Some none in
    let place : Place = record { up = None; depth = 0; is_done = false } in
    record {
      grows = subst (λ z. IsGrowing net labels edges (slice_set places root (Some place)) z root) (sym c.new-way.ensures.items) (begins net labels edges places c.requires.grown root unreached place refl refl refl);
      kept = begun_kept net labels edges places c.requires.grown root unreached place refl refl refl;
      root = begun_reached net labels edges places c.requires.grown root unreached place refl refl refl;
    }

pub grow-preserved : goal.grow-preserved
grow-preserved c =
    let net = c.args.net.now in
    let labels = c.args.groups.now.labels.items in
    let edges = c.grow.edges.items in
    let places = c.grow.places.items in
    let way = c.grow.way.items in
    let new_edges = c.go_on.new.edges.items in
    let new_places = c.go_on.new.places.items in
    let new_way = c.go_on.new.way.items in
    let went : Steps net labels edges places way new_edges new_places new_way (At c.in-At.group) = subst (Steps net labels edges places way new_edges new_places new_way) c.in-At.is c.in_ok-group.ensures in
    record {
      grows = went.0;
      kept = kept_on c.args.places.now.items places new_places c.grow.invariant.kept went.1;
      root = reached_on places new_places c.args.root went.1 c.grow.invariant.root;
    }

pub returns-in-Ends : goal.returns-in-Ends
returns-in-Ends c =
    let net = c.args.net.now in
    let labels = c.args.groups.now.labels.items in
    let edges = c.grow.edges.items in
    let places = c.grow.places.items in
    let way = c.grow.way.items in
    let new_edges = c.go_on.new.edges.items in
    let new_places = c.go_on.new.places.items in
    let new_way = c.go_on.new.way.items in
    let went : Steps net labels edges places way new_edges new_places new_way Ends = subst (Steps net labels edges places way new_edges new_places new_way) c.in-Ends.is c.in_ok-group.ensures in
    (went.0, kept_on c.args.places.now.items places new_places c.grow.invariant.kept went.1, reached_on places new_places c.args.root went.1 c.grow.invariant.root)
