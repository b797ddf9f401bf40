-- A tree begins at its root, and when all groups were reached the trees are a certificate.
use Rattle.std.proofs.Common.{◌≡◌, ◌⊎◌, inl, inr, ℕ, suc, ◌<◌, ◌≤◌, Bool, true, false, ◌&&◌, ◌==◌, List, [], length, length-set, refl, sym, ◌∙◌, ap, arith, Option, Some, None, slice_get, slice_set, slice_index_or}
use Rattle.std.proofs.lemmas.Option.{get_or_from_slice_get, slice_get_within}
use Rattle.pipe_model.specs.declared.net.Net.{Net}
use Rattle.pipe_model.specs.declared.net.Link.{Link}
use Rattle.pipe_model.specs.Members.{has}
use Rattle.pipe_model.specs.State.{Who, same}
use Rattle.pipe_model.specs.WellFormed.{IsWellFormed}
use Rattle.pipe_model.proofs.Lists.{at_some, beside, found_at}
use Rattle.stall_lint.specs.declared.groups.Groups.{Groups}
use Rattle.stall_lint.specs.declared.hops.Hop.{Hop}
use Rattle.stall_lint.specs.declared.trees.Place.{Place}
use Rattle.stall_lint.specs.Grouped.{AreGroups}
use Rattle.stall_lint.specs.Groups.{IsFollowed, IsInner}
use Rattle.stall_lint.specs.Groups.InOneGroup.{alone, down}
use Rattle.stall_lint.specs.Groups.IsFollowed.{at_join, onward}
use Rattle.stall_lint.specs.Growing.{AreGrown, AreKept, AreTrees, IsGrowing, IsOn, IsOpen, IsReached, IsReachedBy, IsUp, IsWay, Places, Stands}
use Rattle.stall_lint.specs.Listed.{AreListed, Joins, edges_at}
use Rattle.stall_lint.specs.Rooted.{IsAbove, IsRooted}
use Rattle.stall_lint.proofs.Places.{kept_written, open_cases, stands_cases, stands_there, up_kept}

-- No group was reached yet

pub none_grown : (net : Net) (labels : List ℕ) (edges : List (List ℕ)) (places : Places) → AreListed net labels (length net.links) edges → length places ≡ length labels → ((g : ℕ) (place : Place) → ¬ Stands places g place) → AreGrown net labels edges places
none_grown net labels edges places listed count none = record {
  trees = record {
    edges_count = listed.count;
    places_count = count;
    most = λ g place here. absurd (none g place here);
    ups = λ g j reached. absurd (none g reached.0 reached.1);
    among = listed.among;
    left = λ j g h joins. inl (listed.all j g h (slice_get_within net.links j joins.link joins.at) joins);
    done = λ g place here done. absurd (none g place here);
  };
  done = λ g place here. absurd (none g place here);
}

-- A tree begins

module _ (net : Net) (labels : List ℕ) (edges : List (List ℕ)) (places : Places) (grown : AreGrown net labels edges places) (root : ℕ) (unreached : slice_get places root ≡ Some None) (place : Place) (top : place.up ≡ None) (deep : place.depth ≡ 0) (undone : place.is_done ≡ false) where
  abbrev begun : Places
  begun = slice_set places root (Some place)

  pub begun_kept : AreKept places begun
  begun_kept = kept_written places root None unreached place (λ p e. cc e)

  pub begun_reached : IsReached begun root
  begun_reached = (place, stands_there places root None unreached place)

  -- only the root is open
  only_root : (g d : ℕ) → IsOpen begun g d → (g ≡ root) × (d ≡ 0)
  only_root g d waits = elim (open_cases places root None unreached place g d waits) [
    | inl it ↦ (it.0, sym it.1 ∙ deep)
    | inr old ↦ (let e : true ≡ false = sym (grown.done g old.1.place old.1.here) ∙ old.1.undone in absurd (cc e))
  ]

  pub begins : IsGrowing net labels edges begun [] root
  begins = record { trees = trees; walk = way }
    where
      trees : AreTrees net labels edges begun
      trees = record {
        edges_count = grown.trees.edges_count;
        places_count = length-set places root (Some place) ∙ grown.trees.places_count;
        most = most;
        ups = ups;
        among = grown.trees.among;
        left = λ j g h joins. elim (grown.trees.left j g h joins) [
          | inl there ↦ inl there
          | inr up ↦ inr (elim up [ inl one ↦ inl (up_kept places begun j g h begun_kept one) | inr other ↦ inr (up_kept places begun j h g begun_kept other) ])
        ];
        done = done;
      }
        where
          most : (g : ℕ) (p : Place) → Stands begun g p → p.depth ≤ length net.strands
          most g p here = elim (stands_cases places root None unreached place g p here) [
            | inl new ↦ (let e = ap (λ q. q.depth) new.1 in omega (arith, e, deep))
            | inr old ↦ grown.trees.most g p old.1
          ]

          ups : (g j : ℕ) → IsReachedBy begun g j → (h : ℕ) × Joins net labels j g h × IsUp begun j g h
          ups g j reached = elim (stands_cases places root None unreached place g reached.0 reached.1) [
            | inl new ↦ (let e : None ≡ Some j = sym top ∙ ap (λ q. q.up) (sym new.1) ∙ reached.2 in absurd (cc e))
            | inr old ↦ (let above = grown.trees.ups g j (reached.0, old.1, reached.2) in (above.0, above.1, up_kept places begun j g above.0 begun_kept above.2))
          ]

          done : (g : ℕ) (p : Place) → Stands begun g p → p.is_done ≡ true → edges_at edges g ≡ []
          done g p here is = elim (stands_cases places root None unreached place g p here) [
            | inl new ↦ (let e : true ≡ false = sym is ∙ ap (λ q. q.is_done) new.1 ∙ undone in absurd (cc e))
            | inr old ↦ grown.trees.done g p old.1 is
          ]

      way : IsWay net labels begun [] root
      way = record {
        on = on;
        here = record { place = place; here = stands_there places root None unreached place; deep = deep; undone = undone };
        within = λ g d waits. (let e = (only_root g d waits).1 in omega (arith, e));
        one = λ g h d first second. (only_root g d first).0 ∙ sym (only_root h d second).0;
      }
        where
          on : (k : ℕ) (hop : Hop) → slice_get [] k ≡ Some hop → IsOn net labels begun k hop
          on k hop at = cc at

-- All groups were reached

module _ (net : Net) (formed : IsWellFormed net) (groups : Groups) (are : AreGroups net groups) (edges : List (List ℕ)) (places : Places) (grown : AreGrown net groups.labels.items edges places) (reached : (g : ℕ) → g < length groups.labels.items → IsReached places g) where
  abbrev labels : List ℕ
  labels = groups.labels.items

  label : Who → ℕ
  label s = slice_index_or labels s 0

  depth_of : Option Place → ℕ
  depth_of None = 0
  depth_of (Some p) = p.depth

  up_of : Option Place → Option ℕ
  up_of None = None
  up_of (Some p) = p.up

  depth : ℕ → ℕ
  depth g = depth_of (slice_index_or places g None)

  up : ℕ → Option ℕ
  up g = up_of (slice_index_or places g None)

  depth_is : (g : ℕ) (p : Place) → Stands places g p → depth g ≡ p.depth
  unfolding depth depth_of
  depth_is g p here = ap depth_of (get_or_from_slice_get places g (Some p) None here)

  up_is : (g : ℕ) (p : Place) → Stands places g p → up g ≡ p.up
  unfolding up up_of
  up_is g p here = ap up_of (get_or_from_slice_get places g (Some p) None here)

  label_is : (s g : ℕ) → slice_get labels s ≡ Some g → label s ≡ g
  unfolding label
  label_is s g at = get_or_from_slice_get labels s g 0 at

  labelled : (s : Who) → s < length net.strands → slice_get labels s ≡ Some (label s)
  labelled s lt =
      let count = are.labels.count in
      let it = at_some labels s (omega (arith, count, lt)) in
      it.1 ∙ ap Some (sym (label_is s it.0 it.1))

  label_reached : (s : Who) → s < length net.strands → IsReached places (label s)
  label_reached s lt = let count = are.labels.count in let small = are.labels.within s (label s) (labelled s lt) in reached (label s) (omega (arith, count, small))

  -- an inner link is one of the net
  inner_place : (l : Link) → IsInner net l → (j : ℕ) × (slice_get net.links j ≡ Some l)
  inner_place l inner = by inner.followed
    where
      by : IsFollowed net inner.join inner.parts l → (j : ℕ) × (slice_get net.links j ≡ Some l)
      by (at_join i e) = (found_at (λ k. same k.to inner.join && k.input == i) net.links e).1
      by (onward t p stands apart here thin e) = (found_at (λ k. same k.to t && k.input == 0) net.links e).1

  within : (j : ℕ) (l : Link) → slice_get net.links j ≡ Some l → (l.from < length net.strands) × (l.to < length net.strands)
  within j l at = let joined = formed.joined j l at in (slice_get_within net.strands l.from joined.producer joined.from_strand, slice_get_within net.strands l.to joined.consumer joined.to_strand)

  is_above : (j g h : ℕ) (s t : Who) → IsUp places j g h → label t ≡ g → label s ≡ h → IsAbove label depth up j s t
  is_above j g h s t leads low high = (
    ap up low ∙ up_is g leads.below leads.from ∙ leads.up,
    ap depth low ∙ depth_is g leads.below leads.from ∙ leads.deeper ∙ ap suc (sym (depth_is h leads.above leads.to) ∙ ap depth (sym high)),
  )

  pub rooted : IsRooted net
  rooted = record { label = label; depth = depth; up = up; most = most; inner = inner; edge = edge }
    where
      most : (s : Who) → s < length net.strands → depth (label s) ≤ length net.strands
      most s lt = let it = label_reached s lt in let e = depth_is (label s) it.0 it.1 in let le = grown.trees.most (label s) it.0 it.1 in omega (arith, e, le)

      inner : (l : Link) → IsInner net l → label l.from ≡ label l.to
      inner l is =
          let place = inner_place l is in
          let lts = within place.0 l place.1 in
          are.labels.same l.from l.to (label l.from) (label l.to) (labelled l.from lts.0) (labelled l.to lts.1) (down l is alone)

      edge : (j : ℕ) (l : Link) → slice_get net.links j ≡ Some l → IsInner net l ⊎ (IsAbove label depth up j l.from l.to ⊎ IsAbove label depth up j l.to l.from)
      edge j l at = by flag.0 flag.1
        where
          flag : (b : Bool) × (slice_get groups.inner.items j ≡ Some b)
          flag = beside net.links groups.inner.items j l (sym are.inner.count) at

          by : (b : Bool) → slice_get groups.inner.items j ≡ Some b → IsInner net l ⊎ (IsAbove label depth up j l.from l.to ⊎ IsAbove label depth up j l.to l.from)
          by true is = inl (are.inner.marked j l at is)
          by false is =
              let lts = within j l at in
              let joins : Joins net labels j (label l.from) (label l.to) = record { link = l; at = at; edge = are.inner.unmarked j l at is; ends = inl (labelled l.from lts.0, labelled l.to lts.1) } in
              let it = label_reached l.from lts.0 in
              elim (grown.trees.left j (label l.from) (label l.to) joins) [
                | inl there ↦ (let e : false ≡ true = ap (λ z. has z j) (sym (grown.trees.done (label l.from) it.0 it.1 (grown.done (label l.from) it.0 it.1))) ∙ there in absurd (cc e))
                | inr ups ↦ inr (elim ups [ inl one ↦ inr (is_above j (label l.from) (label l.to) l.to l.from one refl refl) | inr other ↦ inl (is_above j (label l.to) (label l.from) l.from l.to other refl refl) ])
              ]
