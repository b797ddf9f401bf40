-- In a rooted net without cycles no walk is closed.
use Rattle.std.proofs.Common.{◌≡◌, ◌⊎◌, inl, inr, ℕ, zero, suc, ◌+◌, ◌-◌, ◌<◌, ◌≤◌, List, length, refl, sym, ◌∙◌, ap, subst, arith, Some, slice_get}
use Rattle.std.proofs.lemmas.Option.{slice_get_within}
use Rattle.pipe_model.specs.declared.net.Net.{Net}
use Rattle.pipe_model.specs.declared.net.Link.{Link}
use Rattle.pipe_model.specs.Plain.{IsAcyclic}
use Rattle.pipe_model.specs.State.{Who}
use Rattle.pipe_model.specs.WellFormed.{IsWellFormed}
use Rattle.pipe_model.proofs.Lists.{at_some}
use Rattle.pipe_model.proofs.Numbers.{equal_or_not}
use Rattle.stall_lint.specs.ClosedWalks.{EachFeeds, EachIsFed, Goes, IsRound, IsStep, UsesEdge, Way, behind}
use Rattle.stall_lint.specs.ClosedWalks.Way.{ByLink, Within}
use Rattle.stall_lint.specs.Groups.{IsInner}
use Rattle.stall_lint.specs.Rooted.{IsAbove, IsRooted}
use Rattle.stall_lint.specs.Circles.{AreEnds}
use Rattle.stall_lint.proofs.EdgeEnds.{IsEdge, apart, edge_ends, one_label}
use Rattle.stall_lint.proofs.Trails.{after_last, after_other, after_within}

module _ (net : Net) (formed : IsWellFormed net) (acyclic : IsAcyclic net) (rooted : IsRooted net) (walk : List Who) (round : IsRound net walk) where
  -- Where each strand feeds the next

  -- what each step of a walk brings nearer can't come back
  module _ (Less : Who → Who → Type 0) (on : (s t u : Who) → Less s t → Less t u → Less s u) (never : (s : Who) → Less s s → ⊥) (steps : (k : ℕ) (s t : Who) → IsStep walk k s t → Less s t) where
    behind_first : (k : ℕ) (s t : Who) → slice_get walk 0 ≡ Some s → slice_get walk k ≡ Some t → (s ≡ t) ⊎ Less s t
    behind_first zero s t first at = inl (let e : Some s ≡ Some t = sym first ∙ at in cc)
    behind_first (suc k) s t first at =
        let lt = slice_get_within walk (suc k) t at in
        let u = at_some walk k (omega (arith, lt)) in
        let next : behind walk k ≡ suc k = after_other (length walk) k (λ last. omega (arith, lt, last)) in
        let step = steps k u.0 t (record { here = u.1; next = ap (slice_get walk) next ∙ at }) in
        elim (behind_first k s u.0 first u.1) [ inl it ↦ inr (subst (λ z. Less z t) (sym it) step) | inr less ↦ inr (on s u.0 t less step) ]

    no_ring : ⊥
    no_ring = by (length walk) refl
      where
        by : (n : ℕ) → length walk ≡ n → ⊥
        by zero none = (let some = round.some in absurd (omega (arith, some, none)))
        by (suc n) is =
            let some = round.some in
            let first = at_some walk 0 some in
            let last = at_some walk n (omega (arith, is)) in
            let step = steps n last.0 first.0 (record { here = last.1; next = ap (slice_get walk) (after_last (length walk) n (sym is)) ∙ first.1 }) in
            elim (behind_first n first.0 last.0 first.1 last.1) [ inl it ↦ never first.0 (subst (λ z. Less z first.0) (sym it) step) | inr less ↦ never first.0 (on first.0 last.0 first.0 less step) ]

  rises : (s t j : ℕ) (l : Link) → slice_get net.links j ≡ Some l → l.from ≡ s → l.to ≡ t → acyclic.rank s < acyclic.rank t
  rises s t j l at from to = subst (λ z. acyclic.rank z < acyclic.rank t) from (subst (λ z. acyclic.rank l.from < acyclic.rank z) to (acyclic.along j l at))

  -- the ranks would rise, or fall, all the way round
  never_feeds : EachFeeds net walk ⊎ EachIsFed net walk → ⊥
  never_feeds (inl feeds) = no_ring (λ s t. acyclic.rank s < acyclic.rank t) (λ s t u a b. omega (arith, a, b)) (λ s less. omega (arith, less)) (λ k s t step. let f = feeds k s t step in rises s t f.0 f.1 f.2 f.3 f.4)
  never_feeds (inr fed) = no_ring (λ s t. acyclic.rank t < acyclic.rank s) (λ s t u a b. omega (arith, a, b)) (λ s less. omega (arith, less)) (λ k s t step. let f = fed k s t step in rises t s f.0 f.1 f.2 f.3 f.4)

  -- Where an edge is used

  -- the walk goes on from a place over an edge
  record GoesOver (k : ℕ) (s : Who) : Type 0 where
    number : ℕ
    link : Link
    way : slice_get round.ways k ≡ Some (ByLink number)
    at : slice_get net.links number ≡ Some link
    next : Who
    next_is : slice_get walk (behind walk k) ≡ Some next
    ends : AreEnds link s next
    edge : IsEdge rooted number link

  -- or to a strand of the same group
  record GoesAlong (k : ℕ) (s : Who) : Type 0 where
    next : Who
    next_is : slice_get walk (behind walk k) ≡ Some next
    one : rooted.label s ≡ rooted.label next

  goes_on : (k : ℕ) (s : Who) → slice_get walk k ≡ Some s → GoesOver k s ⊎ GoesAlong k s
  goes_on k s here = by way.0 way.1 (round.goes k way.0 s next.0 way.1 (record { here = here; next = next.1 }))
    where
      lt : k < length walk
      lt = slice_get_within walk k s here

      way : (w : Way) × (slice_get round.ways k ≡ Some w)
      way = (let count = round.count in at_some round.ways k (omega (arith, count, lt)))

      next : (t : Who) × (slice_get walk (behind walk k) ≡ Some t)
      next = at_some walk (behind walk k) (after_within (length walk) k lt)

      along : (l : Link) → AreEnds l s next.0 → IsInner net l → rooted.label s ≡ rooted.label next.0
      along l (inl ends) inner = ap rooted.label (sym ends.0) ∙ rooted.inner l inner ∙ ap rooted.label ends.1
      along l (inr ends) inner = ap rooted.label (sym ends.1) ∙ sym (rooted.inner l inner) ∙ ap rooted.label ends.0

      by : (w : Way) → slice_get round.ways k ≡ Some w → Goes net s w next.0 → GoesOver k s ⊎ GoesAlong k s
      by Within is goes = inr (record { next = next.0; next_is = next.1; one = one_label net rooted s next.0 goes })
      by (ByLink j) is goes = elim (rooted.edge j goes.0 goes.1) [
        | inl inner ↦ inr (record { next = next.0; next_is = next.1; one = along goes.0 goes.2 inner })
        | inr edge ↦ inl (record { number = j; link = goes.0; way = is; at = goes.1; next = next.0; next_is = next.1; ends = goes.2; edge = edge })
      ]

  -- the first place from one on where the walk goes over an edge
  record NextOver (s : Who) : Type 0 where
    place : ℕ
    at : Who
    here : slice_get walk place ≡ Some at
    one : rooted.label at ≡ rooted.label s
    over : GoesOver place at

  module _ (uses : UsesEdge net round.ways) where
    used : uses.place < length walk
    used = (let count = round.count in let lt = slice_get_within round.ways uses.place (ByLink uses.number) uses.way in omega (arith, count, lt))

    -- there the walk goes over an edge
    used_over : (s : Who) → slice_get walk uses.place ≡ Some s → GoesOver uses.place s
    used_over s here = by (rooted.edge uses.number uses.link uses.at)
      where
        next : (t : Who) × (slice_get walk (behind walk uses.place) ≡ Some t)
        next = at_some walk (behind walk uses.place) (after_within (length walk) uses.place used)

        goes : Goes net s (ByLink uses.number) next.0
        goes = round.goes uses.place (ByLink uses.number) s next.0 uses.way (record { here = here; next = next.1 })

        link : goes.0 ≡ uses.link
        link = (let e : Some goes.0 ≡ Some uses.link = sym goes.1 ∙ uses.at in cc)

        by : IsInner net uses.link ⊎ IsEdge rooted uses.number uses.link → GoesOver uses.place s
        by (inl inner) = absurd (uses.edge inner)
        by (inr edge) = record { number = uses.number; link = uses.link; way = uses.way; at = uses.at; next = next.0; next_is = next.1; ends = subst (λ z. AreEnds z s next.0) link goes.2; edge = edge }

    next_over : (d k : ℕ) (s : Who) → slice_get walk k ≡ Some s → (k + d ≡ uses.place) ⊎ (k + d ≡ length walk + uses.place) → NextOver s
    next_over zero k s here far = by far
      where
        by : (k + 0 ≡ uses.place) ⊎ (k + 0 ≡ length walk + uses.place) → NextOver s
        by (inl is) =
            let it : k ≡ uses.place = omega (arith, is) in
            record { place = uses.place; at = s; here = ap (slice_get walk) (sym it) ∙ here; one = refl; over = used_over s (ap (slice_get walk) (sym it) ∙ here) }
        by (inr is) = (let lt = slice_get_within walk k s here in absurd (omega (arith, is, lt)))
    next_over (suc d) k s here far = by (goes_on k s here) (λ t at closer. next_over d (behind walk k) t at closer)
      where
        lt : k < length walk
        lt = slice_get_within walk k s here

        closer : (k + suc d ≡ uses.place) ⊎ (k + suc d ≡ length walk + uses.place) → (behind walk k + d ≡ uses.place) ⊎ (behind walk k + d ≡ length walk + uses.place)
        closer (inl is) = elim (equal_or_not (suc k) (length walk)) [
          | inl last ↦ (let place = used in absurd (omega (arith, is, last, place)))
          | inr other ↦ (let x = after_other (length walk) k other in inl (omega (arith, is, x)))
        ]
        closer (inr is) = elim (equal_or_not (suc k) (length walk)) [
          | inl last ↦ (let x = after_last (length walk) k last in inl (omega (arith, is, last, x)))
          | inr other ↦ (let x = after_other (length walk) k other in inr (omega (arith, is, x)))
        ]

        by : GoesOver k s ⊎ GoesAlong k s → ((t : Who) → slice_get walk (behind walk k) ≡ Some t → (behind walk k + d ≡ uses.place) ⊎ (behind walk k + d ≡ length walk + uses.place) → NextOver t) → NextOver s
        by (inl over) further = record { place = k; at = s; here = here; one = refl; over = over }
        by (inr along) further = (let n = further along.next along.next_is (closer far) in record { place = n.place; at = n.at; here = n.here; one = n.one ∙ sym along.one; over = n.over })

    over_from : (k : ℕ) (s : Who) → slice_get walk k ≡ Some s → NextOver s
    over_from k s here =
        let lt = slice_get_within walk k s here in
        let far : k + (length walk + uses.place - k) ≡ length walk + uses.place = omega (arith, lt) in
        next_over (length walk + uses.place - k) k s here (inr far)

    -- the walk came to the place over the group's way up
    record CameDown (k : ℕ) (s : Who) : Type 0 where
      before : ℕ
      came : behind walk before ≡ k
      number : ℕ
      way : slice_get round.ways before ≡ Some (ByLink number)
      up : rooted.up (rooted.label s) ≡ Some number
      link : Link
      at : slice_get net.links number ≡ Some link
      other : Who
      ends : AreEnds link other s

    end_there : (k : ℕ) (s : Who) → CameDown k s → rooted.depth (rooted.label s) ≤ length net.strands
    end_there k s came = rooted.most s (by came.ends)
      where
        by : AreEnds came.link came.other s → s < length net.strands
        by (inl ends) = (let joined = formed.joined came.number came.link came.at in subst (λ z. z < length net.strands) ends.1 (slice_get_within net.strands came.link.to joined.consumer joined.to_strand))
        by (inr ends) = (let joined = formed.joined came.number came.link came.at in subst (λ z. z < length net.strands) ends.0 (slice_get_within net.strands came.link.from joined.producer joined.from_strand))

    no_way_down : (n k : ℕ) (s : Who) → slice_get walk k ≡ Some s → CameDown k s → length net.strands < n + rooted.depth (rooted.label s) → ⊥
    no_way_down zero k s here came enough = (let few = end_there k s came in absurd (omega (arith, enough, few)))
    no_way_down (suc n) k s here came enough =
        by (edge_ends net rooted over.number over.link next.at over.next over.edge over.ends)
        (λ above. no_way_down n (behind walk next.place) over.next over.next_is (came_down above) (let deeper = above.1 in let same = ap rooted.depth next.one in omega (arith, enough, deeper, same)))
      where
        next : NextOver s
        next = over_from k s here

        over : GoesOver next.place next.at
        over = next.over

        came_down : IsAbove rooted.label rooted.depth rooted.up over.number next.at over.next → CameDown (behind walk next.place) over.next
        came_down above = record { before = next.place; came = refl; number = over.number; way = over.way; up = above.0; link = over.link; at = over.at; other = next.at; ends = over.ends }

        by : IsAbove rooted.label rooted.depth rooted.up over.number next.at over.next ⊎ IsAbove rooted.label rooted.depth rooted.up over.number over.next next.at → (IsAbove rooted.label rooted.depth rooted.up over.number next.at over.next → ⊥) → ⊥
        by (inl above) down = down above
        by (inr above) down =
            let same : Some over.number ≡ Some came.number = sym above.0 ∙ ap rooted.up next.one ∙ came.up in
            let number : over.number ≡ came.number = cc in
            let place : next.place ≡ came.before = round.no_twice next.place came.before came.number (over.way ∙ ap (λ z. Some (ByLink z)) number) came.way in
            let back : Some over.next ≡ Some s = sym over.next_is ∙ ap (λ z. slice_get walk (behind walk z)) place ∙ ap (slice_get walk) came.came ∙ here in
            let it : over.next ≡ s = cc in
            apart net rooted over.number over.link next.at over.next over.edge over.ends (next.one ∙ ap rooted.label (sym it))

    no_way : (n k : ℕ) (s : Who) → slice_get walk k ≡ Some s → rooted.depth (rooted.label s) < n → ⊥
    no_way zero k s here few = absurd (omega (arith, few))
    no_way (suc n) k s here few =
        by (edge_ends net rooted over.number over.link next.at over.next over.edge over.ends)
        (λ above. no_way n (behind walk next.place) over.next over.next_is (let deeper = above.1 in let same = ap rooted.depth next.one in omega (arith, few, deeper, same)))
      where
        next : NextOver s
        next = over_from k s here

        over : GoesOver next.place next.at
        over = next.over

        by : IsAbove rooted.label rooted.depth rooted.up over.number next.at over.next ⊎ IsAbove rooted.label rooted.depth rooted.up over.number over.next next.at → (IsAbove rooted.label rooted.depth rooted.up over.number over.next next.at → ⊥) → ⊥
        by (inl above) higher_up = no_way_down (suc (length net.strands)) (behind walk next.place) over.next over.next_is
            (record { before = next.place; came = refl; number = over.number; way = over.way; up = above.0; link = over.link; at = over.at; other = next.at; ends = over.ends }) (omega arith)
        by (inr above) higher_up = higher_up above

    never_over : ⊥
    never_over = (let some = round.some in let first = at_some walk 0 some in no_way (suc (rooted.depth (rooted.label first.0))) 0 first.0 first.1 (omega arith))

  pub no_round : ⊥
  no_round = elim round.closes [ inl uses ↦ never_over uses | inr feeds ↦ never_feeds feeds ]
