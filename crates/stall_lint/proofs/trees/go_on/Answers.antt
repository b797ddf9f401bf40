-- An edge is taken, and leads to a group that wasn't reached, or is a way up, or closes a circle; or all edges of the group were followed.
use Rattle.std.proofs.Common.{◌≡◌, ℕ, ◌++◌, ◌∷◌, false, List, [], drop, length, refl, sym, ◌∙◌, ap, subst, arith, Some, None, slice_get, slice_index_or, slice_set, suc, ◌<◌}
use Rattle.std.proofs.lemmas.List.{nil_from_length}
use Rattle.std.proofs.lemmas.Option.{slice_get_read, slice_get_within}
use Rattle.pipe_model.proofs.Lists.{length_more}
use Rattle.stall_lint.specs.Circles.{IsCircle}
use Rattle.stall_lint.specs.Growing.{IsGrowing, IsOpen, IsReachedBy, Stands, work}
use Rattle.stall_lint.specs.declared.trees.Place.{Place}
use Rattle.stall_lint.proofs.Branches.{ended_grown, entered, entered_kept, finished_kept, hop_joins, last_exit, leads_to, less_back, less_entered, less_passed, next_within, passed, up_by_reached, up_to_done, went_back}
use Rattle.stall_lint.proofs.Closing.{closes}
use Rattle.stall_lint.proofs.Places.{all_kept}
use Rattle.stall_lint.proofs.trees.go_on.Goals as goal
use Rattle.stall_lint.proofs.trees.go_on.Goals.{then-place-via-then-place, then-place-via-else-place+then-is_up}

read : {A : Type 0} (xs : List A) (k : ℕ) (x : A) → k < length xs → x ≡ slice_index_or xs k x → slice_get xs k ≡ Some x
read xs k x lt is = slice_get_read xs (length xs) k x refl lt is

pub returns-in_default-pop : goal.returns-in_default-pop
returns-in_default-pop c =
    let net = c.args.net.now in
    let labels = c.args.groups.now.labels.items in
    let are = c.requires.groups.labels in
    let edges = c.args.edges.now.items in
    let places = c.args.places.now.items in
    let way = c.args.way.now.items in
    let at = c.args.at in
    let none = c.in_default-pop.ensures.cases in (
      ended_grown net labels are edges places way at c.requires.growing c.take.result c.take.new.edges.items c.take.ensures c.in_default.is c.finish.new.places.items c.finish.ensures (nil_from_length way (omega (arith, none.0, c.args.way.now.ok.0))),
      finished_kept net labels are edges places way at c.requires.growing c.take.result c.take.new.edges.items c.take.ensures c.in_default.is c.finish.new.places.items c.finish.ensures,
    )

pub index-requires : goal.index-requires
index-requires c =
    let labels = c.args.groups.now.labels.items in
    let exit = last_exit c.args.net.now labels c.requires.groups.labels c.args.edges.now.items c.args.places.now.items c.args.way.now.items c.args.at c.requires.growing c.take.result c.take.new.edges.items c.take.ensures c.pop.new.self.items c.in-Some-pop.hop c.in-Some-pop.ensures.items in
    let lt = slice_get_within labels c.in-Some-pop.hop.exit exit.0 exit.1 in
    omega (arith, lt, c.args.groups.now.labels.ok.0)

pub returns-in_default : goal.returns-in_default
returns-in_default c =
    let net = c.args.net.now in
    let labels = c.args.groups.now.labels.items in
    let are = c.requires.groups.labels in
    let edges = c.args.edges.now.items in
    let places = c.args.places.now.items in
    let way = c.args.way.now.items in
    let at = c.args.at in
    let rest = c.pop.new.self.items in
    let hop = c.in-Some-pop.hop in
    let was : way ≡ rest ++ hop ∷ [] = c.in-Some-pop.ensures.items in
    let exit = last_exit net labels are edges places way at c.requires.growing c.take.result c.take.new.edges.items c.take.ensures rest hop was in
    let is : slice_get labels hop.exit ≡ Some c.index.result.now = read labels hop.exit c.index.result.now (slice_get_within labels hop.exit exit.0 exit.1) c.index.ensures in (
      went_back net labels are edges places way at c.requires.growing c.take.result c.take.new.edges.items c.take.ensures c.in_default.is c.finish.new.places.items c.finish.ensures rest hop was c.index.result.now is,
      finished_kept net labels are edges places way at c.requires.growing c.take.result c.take.new.edges.items c.take.ensures c.in_default.is c.finish.new.places.items c.finish.ensures,
      less_back net labels are edges places way at c.requires.growing c.take.result c.take.new.edges.items c.take.ensures c.in_default.is c.finish.new.places.items c.finish.ensures rest hop was c.index.result.now is,
    )

pub index-next-requires : goal.index-next-requires
index-next-requires c =
    let labels = c.args.groups.now.labels.items in
    let leads = c.hop_from-hop.ensures in
    let lt = slice_get_within labels c.hop_from-hop.result.entry leads.0 leads.1.entry in
    omega (arith, lt, c.args.groups.now.labels.ok.0)

pub index-requires-2 : goal.index-requires-2
index-requires-2 c =
    let net = c.args.net.now in
    let labels = c.args.groups.now.labels.items in
    let are = c.requires.groups.labels in
    let hop = c.hop_from-hop.result in
    let leads = leads_to net labels are hop c.in-Some.edge c.args.at c.index-next.result.now c.hop_from-hop.ensures c.index-next.ensures in
    let lt = next_within net labels are c.args.edges.now.items c.args.places.now.items c.args.way.now.items c.args.at c.requires.growing c.take.result c.take.new.edges.items c.take.ensures hop c.in-Some.edge c.args.at c.index-next.result.now leads in
    omega (arith, lt, c.args.places.now.ok.0)

pub index_mut-requires : goal.index_mut-requires
index_mut-requires c =
    let net = c.args.net.now in
    let labels = c.args.groups.now.labels.items in
    let are = c.requires.groups.labels in
    let hop = c.hop_from-hop.result in
    let leads = leads_to net labels are hop c.in-Some.edge c.args.at c.index-next.result.now c.hop_from-hop.ensures c.index-next.ensures in
    let lt = next_within net labels are c.args.edges.now.items c.args.places.now.items c.args.way.now.items c.args.at c.requires.growing c.take.result c.take.new.edges.items c.take.ensures hop c.in-Some.edge c.args.at c.index-next.result.now leads in
    omega (arith, lt, c.args.places.now.ok.0)

pub returns-in_default-index : goal.returns-in_default-index
returns-in_default-index c =
    let net = c.args.net.now in
    let labels = c.args.groups.now.labels.items in
    let are = c.requires.groups.labels in
    let edges = c.args.edges.now.items in
    let places = c.args.places.now.items in
    let way = c.args.way.now.items in
    let at = c.args.at in
    let hop = c.hop_from-hop.result in
    let j = c.in-Some.edge in
    let next = c.index-next.result.now in
    let new = c.take.new.edges.items in
    let leads = leads_to net labels are hop j at next c.hop_from-hop.ensures c.index-next.ensures in
    let lt = next_within net labels are edges places way at c.requires.growing c.take.result new c.take.ensures hop j at next leads in
    let unreached : slice_get places next ≡ Some None = read places next c.index-2.result.now lt c.index-2.ensures ∙ ap Some c.in_default-index.is in
    let child : Place = record { up = Some j; depth = c.len.result; is_done = false } in
    let more = length_more way hop in
    let pushed : c.push.new.self.items ≡ way ++ hop ∷ [] = c.in_ok-push.ensures.items in
    let long = ap length pushed in
    let deep : c.len.result ≡ suc (length way) = omega (arith, long, more, c.len.ensures, c.push.new.self.ok.0) in (
      subst (λ z. IsGrowing net labels new (slice_set places next (Some child)) z next) (sym pushed) (entered net labels are edges places way at c.requires.growing c.take.result new c.take.ensures hop j next leads c.in-Some.is unreached child refl deep refl),
      entered_kept net labels are edges places way at c.requires.growing c.take.result new c.take.ensures hop j next leads c.in-Some.is unreached child refl deep refl,
      subst (λ z. work new z < work edges way) (sym pushed) (less_entered net labels are edges places way at c.requires.growing c.take.result new c.take.ensures hop j next leads c.in-Some.is unreached child refl deep refl),
    )

pub returns-then-place : goal.returns-then-place
returns-then-place c =
    let net = c.args.net.now in
    let labels = c.args.groups.now.labels.items in
    let are = c.requires.groups.labels in
    let edges = c.args.edges.now.items in
    let places = c.args.places.now.items in
    let way = c.args.way.now.items in
    let at = c.args.at in
    let growing = c.requires.growing in
    let hop = c.hop_from-hop.result in
    let j = c.in-Some.edge in
    let next = c.index-next.result.now in
    let new = c.take.new.edges.items in
    let leads = leads_to net labels are hop j at next c.hop_from-hop.ensures c.index-next.ensures in
    let joins = hop_joins net labels are hop j at next leads in
    let lt = next_within net labels are edges places way at growing c.take.result new c.take.ensures hop j at next leads in
    let here : Stands places next c.in-Some-index.place = read places next c.index-2.result.now lt c.index-2.ensures ∙ ap Some c.in-Some-index.is in
    let less = less_passed net labels are edges places way at growing c.take.result new c.take.ensures j c.in-Some.is in
    elim c.then-place.branch [
      | then-place-via-then-place w ↦ (record { trees = passed net labels are edges places way at growing c.take.result new c.take.ensures j next c.in-Some.is joins (up_to_done net labels are edges places way at growing c.take.result new c.take.ensures j next c.in-Some-index.place joins here w.if-place.true); walk = growing.walk }, all_kept places, less)
      | then-place-via-else-place+then-is_up w ↦ (record { trees = passed net labels are edges places way at growing c.take.result new c.take.ensures j next c.in-Some.is joins (up_by_reached net labels are edges places way at growing c.take.result new c.take.ensures j next joins (subst (λ z. IsReachedBy z at j) w.deref.ensures.value w.if-is_up.ensures)); walk = growing.walk }, all_kept places, less)
    ]

pub circle-requires : goal.circle-requires
circle-requires c =
    let net = c.args.net.now in
    let labels = c.args.groups.now.labels.items in
    let are = c.requires.groups.labels in
    let places = c.args.places.now.items in
    let growing = c.requires.growing in
    let hop = c.hop_from-hop.result in
    let j = c.in-Some.edge in
    let next = c.index-next.result.now in
    let place = c.in-Some-index.place in
    let leads = leads_to net labels are hop j c.args.at next c.hop_from-hop.ensures c.index-next.ensures in
    let lt = next_within net labels are c.args.edges.now.items places c.args.way.now.items c.args.at growing c.take.result c.take.new.edges.items c.take.ensures hop j c.args.at next leads in
    let here : Stands places next place = read places next c.index-2.result.now lt c.index-2.ensures ∙ ap Some c.in-Some-index.is in
    let waits : IsOpen places next place.depth = record { place = place; here = here; deep = refl; undone = c.if-place.false } in
    let le = growing.walk.within next place.depth waits in
    let long = ap length c.deref-2.ensures.value in
    omega (arith, le, long)

pub returns : goal.returns
returns c =
    let net = c.args.net.now in
    let labels = c.args.groups.now.labels.items in
    let are = c.requires.groups.labels in
    let edges = c.args.edges.now.items in
    let places = c.args.places.now.items in
    let way = c.args.way.now.items in
    let at = c.args.at in
    let growing = c.requires.growing in
    let hop = c.hop_from-hop.result in
    let j = c.in-Some.edge in
    let next = c.index-next.result.now in
    let place = c.in-Some-index.place in
    let leads = leads_to net labels are hop j at next c.hop_from-hop.ensures c.index-next.ensures in
    let lt = next_within net labels are edges places way at growing c.take.result c.take.new.edges.items c.take.ensures hop j at next leads in
    let here : Stands places next place = read places next c.index-2.result.now lt c.index-2.ensures ∙ ap Some c.in-Some-index.is in
    let waits : IsOpen places next place.depth = record { place = place; here = here; deep = refl; undone = c.if-place.false } in
    let items : c.in_ok-circle.field-0.items ≡ drop place.depth way ++ hop ∷ [] = c.in_ok-circle.ensures ∙ ap (λ z. drop place.depth z ++ hop ∷ []) c.deref-2.ensures.value in
    subst (IsCircle net) (sym items) (closes net labels are edges places way at growing hop j next place.depth leads waits (subst (λ z. ¬ IsReachedBy z at j) c.deref.ensures.value c.if-is_up.ensures))
