-- Trees of groups grow: an edge is taken that is a way up, or leads to a group that wasn't reached, or all edges of a group were followed.
use Rattle.std.proofs.Common.{◌≡◌, ◌≢◌, ◌⊎◌, inl, inr, ℕ, zero, suc, ◌<◌, ◌≤◌, Bool, true, false, List, [], ◌∷◌, ◌++◌, length, length-set, refl, sym, ◌∙◌, ap, subst, arith, Option, Some, None, slice_get, slice_set, slice_index_or}
use Rattle.std.specs.List.{sum_by}
use Rattle.std.proofs.lemmas.List.Sums.{sum_by-set}
use Rattle.std.proofs.lemmas.Option.{get_or_from_slice_get, slice_get_within}
use Rattle.pipe_model.specs.declared.net.Net.{Net}
use Rattle.pipe_model.specs.declared.net.Link.{Link}
use Rattle.pipe_model.specs.Members.{has}
use Rattle.pipe_model.proofs.Lists.{few_by_keys, get_seam, length_more}
use Rattle.pipe_model.proofs.Numbers.{equal_or_not}
use Rattle.braid_check.proofs.Producing.{get_before}
use Rattle.stall_lint.specs.declared.hops.Hop.{Hop}
use Rattle.stall_lint.specs.declared.trees.Place.{Place}
use Rattle.stall_lint.specs.Circles.{AreEnds}
use Rattle.stall_lint.specs.Grouped.{AreLabels}
use Rattle.stall_lint.specs.Groups.{IsInner}
use Rattle.stall_lint.specs.Growing.{AreGrown, AreKept, AreTrees, HasEnd, IsFinished, IsGrowing, IsOn, IsOpen, IsReachedBy, IsUp, LeadsOn, LeadsTo, Places, Stands, work}
use Rattle.stall_lint.specs.Listed.{HaveLabels, IsPopped, IsTaken, Joins, edges_at}
use Rattle.stall_lint.proofs.Listing.{joins_back, joins_other, one_label, taken_at, taken_count, taken_else, taken_new, taken_old}
use Rattle.stall_lint.proofs.Places.{all_kept, kept_written, on_else, one_depth, one_place, open_cases, open_else, stands_cases, stands_there, up_kept}

-- An edge of a group leads from one of its ends to the other

module _ (net : Net) (labels : List ℕ) (j g : ℕ) (has_end : HasEnd net labels j g) (l : Link) (at : slice_get net.links j ≡ Some l) where
  same_link : has_end.1.link ≡ l
  same_link = let e : Some has_end.1.link ≡ Some l = sym has_end.1.at ∙ at in cc

  joins_at : HaveLabels labels l.from l.to g has_end.0 ⊎ HaveLabels labels l.from l.to has_end.0 g
  joins_at = subst (λ (z : Link). HaveLabels labels z.from z.to g has_end.0 ⊎ HaveLabels labels z.from z.to has_end.0 g) same_link has_end.1.ends

  edge : ¬ IsInner net l
  edge = subst (λ z. ¬ IsInner net z) same_link has_end.1.edge

  -- by the label that was read there the end that the link comes from is that of the group, or isn't
  module _ (read : ℕ) (is : read ≡ slice_index_or labels l.from read) where
    read_is : (a : ℕ) → slice_get labels l.from ≡ Some a → read ≡ a
    read_is a from = is ∙ get_or_from_slice_get labels l.from a read from

    pub leads_there : read ≡ g → LeadsOn net labels (record { exit = l.from; link = j; entry = l.to }) j g
    leads_there same = by joins_at
      where
        to : (h : ℕ) → slice_get labels l.from ≡ Some g → slice_get labels l.to ≡ Some h → LeadsOn net labels (record { exit = l.from; link = j; entry = l.to }) j g
        to h exit entry = (h, record { over = record { link = l; at = at; edge = edge; ends = inl (refl, refl) }; link = refl; exit = exit; entry = entry })

        by : HaveLabels labels l.from l.to g has_end.0 ⊎ HaveLabels labels l.from l.to has_end.0 g → LeadsOn net labels (record { exit = l.from; link = j; entry = l.to }) j g
        by (inl ends) = to has_end.0 ends.0 ends.1
        by (inr ends) = to g (ends.0 ∙ ap Some (sym (read_is has_end.0 ends.0) ∙ same)) ends.1

    pub leads_back : read ≢ g → LeadsOn net labels (record { exit = l.to; link = j; entry = l.from }) j g
    leads_back other = by joins_at
      where
        by : HaveLabels labels l.from l.to g has_end.0 ⊎ HaveLabels labels l.from l.to has_end.0 g → LeadsOn net labels (record { exit = l.to; link = j; entry = l.from }) j g
        by (inl ends) = absurd (other (read_is g ends.0))
        by (inr ends) = (has_end.0, record { over = record { link = l; at = at; edge = edge; ends = inr (refl, refl) }; link = refl; exit = ends.1; entry = ends.0 })

-- a place of a list with one thing more is one of the list, or the last
pub split_last : {A : Type 0} (xs : List A) (y : A) (k : ℕ) (x : A) → slice_get (xs ++ y ∷ []) k ≡ Some x → (slice_get xs k ≡ Some x) ⊎ ((k ≡ length xs) × (y ≡ x))
split_last [] y zero x at = inr (refl, cc)
split_last [] y (suc k) x at = cc
split_last (z ∷ zs) y zero x at = inl at
split_last (z ∷ zs) y (suc k) x at = elim (split_last zs y k x at) [ inl before ↦ inl before | inr last ↦ inr (ap suc last.0, last.1) ]

module _ (net : Net) (labels : List ℕ) (are : AreLabels net labels) where
  -- a way is no longer than there are strands, for its hops come to groups of different depths
  pub few : (places : Places) (way : List Hop) → ((k : ℕ) (hop : Hop) → slice_get way k ≡ Some hop → IsOn net labels places k hop) → length way ≤ length net.strands
  few places way on = few_by_keys (λ hop. slice_index_or labels hop.entry 0) (length net.strands) way one below
    where
      key : (k : ℕ) (hop : Hop) → (at : slice_get way k ≡ Some hop) → slice_index_or labels hop.entry 0 ≡ (on k hop at).to
      key k hop at = get_or_from_slice_get labels hop.entry (on k hop at).to 0 (on k hop at).leads.entry

      one : (j k : ℕ) (x y : Hop) → slice_get way j ≡ Some x → slice_get way k ≡ Some y → slice_index_or labels x.entry 0 ≡ slice_index_or labels y.entry 0 → j ≡ k
      one j k x y at_j at_k same =
          let a = on j x at_j in
          let b = on k y at_k in
          let group : a.to ≡ b.to = sym (key j x at_j) ∙ same ∙ key k y at_k in
          let deep = one_depth places b.to (suc j) (suc k) (subst (λ z. IsOpen places z (suc j)) group a.after) b.after in
          omega (arith, deep)

      below : (j : ℕ) (x : Hop) → slice_get way j ≡ Some x → slice_index_or labels x.entry 0 < length net.strands
      below j x at = let e = key j x at in omega (arith, e, are.within x.entry (on j x at).to (on j x at).leads.entry)

  -- a hop goes over an edge that joins the two groups
  pub hop_joins : (hop : Hop) (j g h : ℕ) → LeadsTo net labels hop j g h → Joins net labels j g h
  hop_joins hop j g h leads = subst (λ z. Joins net labels z g h) leads.link (record { link = leads.over.link; at = leads.over.at; edge = leads.over.edge; ends = by leads.over.ends })
    where
      by : AreEnds leads.over.link hop.exit hop.entry → HaveLabels labels leads.over.link.from leads.over.link.to g h ⊎ HaveLabels labels leads.over.link.from leads.over.link.to h g
      by (inl ends) = inl (ap (slice_get labels) ends.0 ∙ leads.exit, ap (slice_get labels) ends.1 ∙ leads.entry)
      by (inr ends) = inr (ap (slice_get labels) ends.0 ∙ leads.entry, ap (slice_get labels) ends.1 ∙ leads.exit)

  -- to the group whose label was read
  pub leads_to : (hop : Hop) (j g x : ℕ) → LeadsOn net labels hop j g → x ≡ slice_index_or labels hop.entry x → LeadsTo net labels hop j g x
  leads_to hop j g x leads is = subst (LeadsTo net labels hop j g) (sym (is ∙ get_or_from_slice_get labels hop.entry leads.0 x leads.1.entry)) leads.1

  module _ (edges : List (List ℕ)) (places : Places) (way : List Hop) (at : ℕ) (growing : IsGrowing net labels edges places way at) (taken : Option ℕ) (new : List (List ℕ)) (took : IsTaken edges at taken new) where
    abbrev trees : AreTrees net labels edges places
    trees = growing.trees

    within : at < length edges
    within = (let count = trees.edges_count in let wide = trees.places_count in let lt = slice_get_within places at (Some growing.walk.here.place) growing.walk.here.here in omega (arith, count, wide, lt))

    -- a group to which a hop leads has a place
    pub next_within : (hop : Hop) (j g h : ℕ) → LeadsTo net labels hop j g h → h < length places
    next_within hop j g h leads = let lt = are.within hop.entry h leads.entry in let count = are.count in let wide = trees.places_count in omega (arith, lt, count, wide)

    -- the last hop of the way goes from a group
    pub last_exit : (rest : List Hop) (hop : Hop) → way ≡ rest ++ hop ∷ [] → (g : ℕ) × (slice_get labels hop.exit ≡ Some g)
    last_exit rest hop was = let on = growing.walk.on (length rest) hop (ap (λ z. slice_get z (length rest)) was ∙ get_seam rest hop []) in (on.from, on.leads.exit)

    -- an edge that was taken is a way up
    left_on : (places' : Places) → AreKept places places' → ((j h : ℕ) → taken ≡ Some j → Joins net labels j at h → IsUp places' j at h ⊎ IsUp places' j h at) → (j g h : ℕ) → Joins net labels j g h → (has (edges_at new g) j ≡ true) ⊎ (IsUp places' j g h ⊎ IsUp places' j h g)
    left_on places' kept settled j g h joins = elim (trees.left j g h joins) [
      | inl there ↦ (elim (taken_new edges at taken new took within g j there) [
        | inl still ↦ inl still
        | inr it ↦ inr (subst (λ z. IsUp places' j z h ⊎ IsUp places' j h z) (sym it.0) (settled j h it.1 (subst (λ z. Joins net labels j z h) it.0 joins)))
      ])
      | inr up ↦ inr (elim up [ inl one ↦ inl (up_kept places places' j g h kept one) | inr other ↦ inr (up_kept places places' j h g kept other) ])
    ]

    -- a group that is done isn't the one where the tree grows
    done_else : (g : ℕ) (place : Place) → Stands places g place → place.is_done ≡ true → g ≢ at
    done_else g place here done same =
        let waits = growing.walk.here in
        let it : place ≡ waits.place = one_place places at place waits.place (subst (λ z. Stands places z place) same here) waits.here in
        let e : true ≡ false = sym done ∙ ap (λ p. p.is_done) it ∙ waits.undone in
        cc e

    none_left : (g : ℕ) (place : Place) → Stands places g place → place.is_done ≡ true → edges_at new g ≡ []
    none_left g place here done = taken_else edges at taken new took within g (done_else g place here done) ∙ trees.done g place here done

    -- no edge is added
    count_on : length new ≡ length labels
    count_on = taken_count edges at taken new took within ∙ trees.edges_count

    among_on : (g j : ℕ) → has (edges_at new g) j ≡ true → HasEnd net labels j g
    among_on g j on = trees.among g j (taken_old edges at taken new took within g j on)

    -- The edge is a way up already

    pub passed : (j h : ℕ) → taken ≡ Some j → Joins net labels j at h → IsUp places j at h ⊎ IsUp places j h at → AreTrees net labels new places
    passed j h it joins up = record {
      edges_count = count_on;
      places_count = trees.places_count;
      most = trees.most;
      ups = trees.ups;
      among = among_on;
      left = left_on places (all_kept places) settled;
      done = none_left;
    }
      where
        settled : (i g : ℕ) → taken ≡ Some i → Joins net labels i at g → IsUp places i at g ⊎ IsUp places i g at
        settled i g is other =
            let e : Some i ≡ Some j = sym is ∙ it in
            let same : i ≡ j = cc e in
            let there : g ≡ h = joins_other net labels j at g h (subst (λ z. Joins net labels z at g) same other) joins in
            subst (λ z. IsUp places z at g ⊎ IsUp places z g at) (sym same) (subst (λ z. IsUp places j at z ⊎ IsUp places j z at) (sym there) up)

    -- a group that is done has no edge left
    pub up_to_done : (j h : ℕ) (place : Place) → Joins net labels j at h → Stands places h place → place.is_done ≡ true → IsUp places j at h ⊎ IsUp places j h at
    up_to_done j h place joins here done = elim (trees.left j h at (joins_back net labels j at h joins)) [
      | inl there ↦ (let e = ap (λ z. has z j) (sym (trees.done h place here done)) ∙ there in cc e)
      | inr up ↦ (elim up [ inl one ↦ inr one | inr other ↦ inl other ])
    ]

    -- the edge over which the group was reached is a way up
    pub up_by_reached : (j h : ℕ) → Joins net labels j at h → IsReachedBy places at j → IsUp places j at h ⊎ IsUp places j h at
    up_by_reached j h joins reached =
        let up = trees.ups at j reached in
        inl (subst (λ z. IsUp places j at z) (joins_other net labels j at up.0 h up.1 joins) up.2)

    -- less is left to do
    less_left : (j : ℕ) → taken ≡ Some j → suc (sum_by length new) ≡ sum_by length edges
    less_left j it =
        let popped : edges_at edges at ≡ took.0 ++ j ∷ [] = subst (λ z. IsPopped (edges_at edges at) z took.0) it took.1 in
        let long = ap length popped in
        let more = length_more took.0 j in
        let sums = sum_by-set length edges at took.0 [] within in
        let now = ap (sum_by length) took.2 in
        omega (arith, long, more, sums, now)

    pub less_passed : (j : ℕ) → taken ≡ Some j → work new way < work edges way
    less_passed j it = let less = less_left j it in omega (arith, less)

    -- The edge leads to a group that wasn't reached

    module _ (hop : Hop) (j next : ℕ) (leads : LeadsTo net labels hop j at next) (it : taken ≡ Some j) (unreached : slice_get places next ≡ Some None) (child : Place) (up : child.up ≡ Some j) (deep : child.depth ≡ suc (length way)) (undone : child.is_done ≡ false) where
      abbrev places' : Places
      places' = slice_set places next (Some child)

      abbrev way' : List Hop
      way' = way ++ hop ∷ []

      apart : (g : ℕ) (place : Place) → Stands places g place → g ≢ next
      apart g place here same = let e : Some None ≡ Some (Some place) = sym unreached ∙ ap (slice_get places) (sym same) ∙ here in cc e

      pub entered_kept : AreKept places places'
      entered_kept = kept_written places next None unreached child (λ p e. cc e)

      joins : Joins net labels j at next
      joins = hop_joins hop j at next leads

      there : Stands places' next child
      there = stands_there places next None unreached child

      here' : IsOpen places' at (length way)
      here' = open_else places next None unreached child at (length way) (apart at growing.walk.here.place growing.walk.here.here) growing.walk.here

      up' : IsUp places' j next at
      up' = record { below = child; above = here'.place; from = there; to = here'.here; up = up; deeper = deep ∙ ap suc (sym here'.deep) }

      next' : IsOpen places' next (suc (length way))
      next' = record { place = child; here = there; deep = deep; undone = undone }

      on' : (k : ℕ) (x : Hop) → slice_get way' k ≡ Some x → IsOn net labels places' k x
      on' k x at_k = elim (split_last way hop k x at_k) [
        | inl before ↦ (
            let on = growing.walk.on k x before in
            on_else places next None unreached child net labels k x on (apart on.from on.before.place on.before.here) (apart on.to on.after.place on.after.here) entered_kept)
        | inr last ↦ subst (λ z. IsOn net labels places' z x) (sym last.0) (subst (IsOn net labels places' (length way)) last.1 new_on)
      ]
        where
          new_on : IsOn net labels places' (length way) hop
          new_on = record {
            from = at;
            to = next;
            leads = record { over = leads.over; link = refl; exit = leads.exit; entry = leads.entry };
            before = here';
            after = next';
            up = subst (λ z. IsUp places' z next at) (sym leads.link) up';
          }

      trees' : AreTrees net labels new places'
      trees' = record {
        edges_count = count_on;
        places_count = length-set-places;
        most = most;
        ups = ups;
        among = among_on;
        left = left_on places' entered_kept settled;
        done = done;
      }
        where
          length-set-places : length places' ≡ length labels
          length-set-places = length-set places next (Some child) ∙ trees.places_count

          most : (g : ℕ) (place : Place) → Stands places' g place → place.depth ≤ length net.strands
          most g place here = elim (stands_cases places next None unreached child g place here) [
            | inl new ↦ (
                let long = few places' way' on' in
                let more = length_more way hop in
                let same = ap (λ p. p.depth) new.1 in
                omega (arith, long, more, same, deep))
            | inr old ↦ trees.most g place old.1
          ]

          ups : (g i : ℕ) → IsReachedBy places' g i → (h : ℕ) × Joins net labels i g h × IsUp places' i g h
          ups g i reached = elim (stands_cases places next None unreached child g reached.0 reached.1) [
            | inl new ↦ (
                let e : Some i ≡ Some j = sym reached.2 ∙ ap (λ p. p.up) new.1 ∙ up in
                let same : i ≡ j = cc e in
                let all : Joins net labels j next at × IsUp places' j next at = (joins_back net labels j at next joins, up') in
                let P : ℕ → ℕ → Type 0 = λ x y. Joins net labels y x at × IsUp places' y x at in
                let here : Joins net labels i g at × IsUp places' i g at = subst (λ y. P g y) (sym same) (subst (λ x. P x j) (sym new.0) all) in
                (at, here.0, here.1))
            | inr old ↦ (let above = trees.ups g i (reached.0, old.1, reached.2) in (above.0, above.1, up_kept places places' i g above.0 entered_kept above.2))
          ]

          settled : (i g : ℕ) → taken ≡ Some i → Joins net labels i at g → IsUp places' i at g ⊎ IsUp places' i g at
          settled i g is other =
              let e : Some i ≡ Some j = sym is ∙ it in
              let same : i ≡ j = cc e in
              let to : g ≡ next = joins_other net labels j at g next (subst (λ z. Joins net labels z at g) same other) joins in
              inr (subst (λ z. IsUp places' z g at) (sym same) (subst (λ z. IsUp places' j z at) (sym to) up'))

          done : (g : ℕ) (place : Place) → Stands places' g place → place.is_done ≡ true → edges_at new g ≡ []
          done g place here finished = elim (stands_cases places next None unreached child g place here) [
            | inl new ↦ (let e : true ≡ false = sym finished ∙ ap (λ p. p.is_done) new.1 ∙ undone in cc e)
            | inr old ↦ none_left g place old.1 finished
          ]

      pub entered : IsGrowing net labels new places' way' next
      entered = record { trees = trees'; walk = record { on = on'; here = here; within = within'; one = one } }
        where
          here : IsOpen places' next (length way')
          here = subst (IsOpen places' next) (sym (length_more way hop)) next'

          within' : (g d : ℕ) → IsOpen places' g d → d ≤ length way'
          within' g d waits =
              let more = length_more way hop in
              elim (open_cases places next None unreached child g d waits) [
                | inl new ↦ (let e = new.1 in omega (arith, e, deep, more))
                | inr old ↦ (let le = growing.walk.within g d old.1 in omega (arith, le, more))
              ]

          one : (g h d : ℕ) → IsOpen places' g d → IsOpen places' h d → g ≡ h
          one g h d first second = by (open_cases places next None unreached child g d first) (open_cases places next None unreached child h d second)
            where
              by : ((g ≡ next) × (child.depth ≡ d) × (child.is_done ≡ false)) ⊎ ((g ≢ next) × IsOpen places g d) → ((h ≡ next) × (child.depth ≡ d) × (child.is_done ≡ false)) ⊎ ((h ≢ next) × IsOpen places h d) → g ≡ h
              by (inl a) (inl b) = a.0 ∙ sym b.0
              by (inl a) (inr b) = (let le = growing.walk.within h d b.1 in let e = a.1 in absurd (omega (arith, le, e, deep)))
              by (inr a) (inl b) = (let le = growing.walk.within g d a.1 in let e = b.1 in absurd (omega (arith, le, e, deep)))
              by (inr a) (inr b) = growing.walk.one g h d a.1 b.1

      pub less_entered : work new way' < work edges way
      less_entered = let less = less_left j it in let more = length_more way hop in omega (arith, less, more)

    -- All edges of the group were followed

    module _ (none : taken ≡ None) (places' : Places) (finished : IsFinished places at places') where
      abbrev end : Place
      end = record finished.place { is_done = true }

      abbrev ended : Places
      ended = slice_set places at (Some end)

      now : places' ≡ ended
      now = finished.now

      kept_ended : AreKept places ended
      kept_ended = kept_written places at (Some finished.place) finished.here end (λ p e. (let same : finished.place ≡ p = cc e in (ap (λ q. q.up) same, ap (λ q. q.depth) same)))

      pub finished_kept : AreKept places places'
      finished_kept = subst (AreKept places) (sym now) kept_ended

      empty : (edges_at edges at ≡ []) × (took.0 ≡ [])
      empty = subst (λ z. IsPopped (edges_at edges at) z took.0) none took.1

      trees_ended : AreTrees net labels new ended
      trees_ended = record {
        edges_count = count_on;
        places_count = length-set places at (Some end) ∙ trees.places_count;
        most = most;
        ups = ups;
        among = among_on;
        left = left_on ended kept_ended (λ j h it. (let e : None ≡ Some j = sym none ∙ it in cc e));
        done = done;
      }
        where
          most : (g : ℕ) (place : Place) → Stands ended g place → place.depth ≤ length net.strands
          most g place here = elim (stands_cases places at (Some finished.place) finished.here end g place here) [
            | inl new ↦ (let le = trees.most at finished.place finished.here in let e = ap (λ p. p.depth) new.1 in omega (arith, le, e))
            | inr old ↦ trees.most g place old.1
          ]

          ups : (g i : ℕ) → IsReachedBy ended g i → (h : ℕ) × Joins net labels i g h × IsUp ended i g h
          ups g i reached = elim (stands_cases places at (Some finished.place) finished.here end g reached.0 reached.1) [
            | inl new ↦ (
                let above = trees.ups g i (finished.place, subst (λ z. Stands places z finished.place) (sym new.0) finished.here, ap (λ p. p.up) (sym new.1) ∙ reached.2) in
                (above.0, above.1, up_kept places ended i g above.0 kept_ended above.2))
            | inr old ↦ (let above = trees.ups g i (reached.0, old.1, reached.2) in (above.0, above.1, up_kept places ended i g above.0 kept_ended above.2))
          ]

          done : (g : ℕ) (place : Place) → Stands ended g place → place.is_done ≡ true → edges_at new g ≡ []
          done g place here is = elim (stands_cases places at (Some finished.place) finished.here end g place here) [
            | inl it ↦ ap (edges_at new) it.0 ∙ taken_at edges at taken new took within ∙ empty.1
            | inr old ↦ none_left g place old.1 is
          ]

      -- an open group is an open one before, and another one
      open_before : (g d : ℕ) → IsOpen ended g d → (g ≢ at) × IsOpen places g d
      open_before g d waits = elim (open_cases places at (Some finished.place) finished.here end g d waits) [
        | inl it ↦ (let e : true ≡ false = it.2 in cc e)
        | inr old ↦ old
      ]

      same_left : sum_by length new ≡ sum_by length edges
      same_left =
          let sums = sum_by-set length edges at took.0 [] within in
          let now = ap (sum_by length) took.2 in
          let was = ap length empty.0 in
          let is = ap length empty.1 in
          omega (arith, sums, now, was, is)

      pub ended_grown : way ≡ [] → AreGrown net labels new places'
      ended_grown root = subst (AreGrown net labels new) (sym now) (record { trees = trees_ended; done = done })
        where
          done : (g : ℕ) (place : Place) → Stands ended g place → place.is_done ≡ true
          done g place here = by place.is_done refl
            where
              by : (b : Bool) → place.is_done ≡ b → place.is_done ≡ true
              by true is = is
              by false is =
                  let before = open_before g place.depth (record { place = place; here = here; deep = refl; undone = is }) in
                  let le = growing.walk.within g place.depth before.1 in
                  let long = ap length root in
                  let deep : place.depth ≡ length way = omega (arith, le, long) in
                  absurd (before.0 (growing.walk.one g at (length way) (subst (IsOpen places g) deep before.1) growing.walk.here))

      module _ (rest : List Hop) (hop : Hop) (was : way ≡ rest ++ hop ∷ []) (back : ℕ) (exit : slice_get labels hop.exit ≡ Some back) where
        long : length way ≡ suc (length rest)
        long = ap length was ∙ length_more rest hop

        shallow : (g d : ℕ) → d < length way → IsOpen places g d → g ≢ at
        shallow g d lt waits same = let deep = one_depth places at d (length way) (subst (λ z. IsOpen places z d) same waits) growing.walk.here in omega (arith, deep, lt)

        pub went_back : IsGrowing net labels new places' rest back
        went_back = subst (λ z. IsGrowing net labels new z rest back) (sym now) (record { trees = trees_ended; walk = record { on = on; here = here; within = within'; one = one } })
          where
            on : (k : ℕ) (x : Hop) → slice_get rest k ≡ Some x → IsOn net labels ended k x
            on k x at_k =
                let old = growing.walk.on k x (ap (λ z. slice_get z k) was ∙ get_before rest (hop ∷ []) k x at_k) in
                let lt = slice_get_within rest k x at_k in
                on_else places at (Some finished.place) finished.here end net labels k x old (shallow old.from k (omega (arith, lt, long)) old.before) (shallow old.to (suc k) (omega (arith, lt, long)) old.after) kept_ended

            here : IsOpen ended back (length rest)
            here =
                let last = growing.walk.on (length rest) hop (ap (λ z. slice_get z (length rest)) was ∙ get_seam rest hop []) in
                let same : last.from ≡ back = one_label net labels hop.exit hop.exit last.from back refl last.leads.exit exit in
                let waits = subst (λ z. IsOpen places z (length rest)) same last.before in
                open_else places at (Some finished.place) finished.here end back (length rest) (shallow back (length rest) (omega (arith, long)) waits) waits

            within' : (g d : ℕ) → IsOpen ended g d → d ≤ length rest
            within' g d waits =
                let before = open_before g d waits in
                let le = growing.walk.within g d before.1 in
                elim (equal_or_not d (length way)) [
                  | inl same ↦ absurd (before.0 (growing.walk.one g at (length way) (subst (IsOpen places g) same before.1) growing.walk.here))
                  | inr other ↦ omega (arith, le, other, long)
                ]

            one : (g h d : ℕ) → IsOpen ended g d → IsOpen ended h d → g ≡ h
            one g h d first second = growing.walk.one g h d (open_before g d first).1 (open_before h d second).1

        pub less_back : work new rest < work edges way
        less_back = let same = same_left in omega (arith, same, long)
