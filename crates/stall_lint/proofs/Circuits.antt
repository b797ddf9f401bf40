-- The strands that hops round a circle pass are a round.
use Rattle.std.proofs.Common.{◌≡◌, ◌≢◌, ◌⊎◌, inl, inr, ℕ, suc, ◌+◌, ◌<◌, ◌≤◌, cond, List, [], ◌∷◌, ◌++◌, length, drop, get_or, refl, sym, ◌∙◌, ap, subst, arith, Some, slice_get, append_assoc, append-nil, eq-eqb}
use Rattle.std.proofs.lemmas.Bool.{ne_eqb}
use Rattle.std.proofs.lemmas.List.{at_drop_all, at_drop_more}
use Rattle.std.proofs.lemmas.Option.{get_or_from_slice_get, slice_get_within}
use Rattle.pipe_model.specs.declared.net.Net.{Net}
use Rattle.pipe_model.specs.State.{Who}
use Rattle.pipe_model.proofs.Lists.{at_some}
use Rattle.pipe_model.proofs.Numbers.{equal_or_not}
use Rattle.stall_lint.specs.Around.{around, next_of, within_group}
use Rattle.stall_lint.specs.Circles.{IsCircle, IsHop, next_hop}
use Rattle.stall_lint.specs.ClosedWalks.{Goes, IsRound}
use Rattle.stall_lint.specs.ClosedWalks.Way.{ByLink, Within}
use Rattle.stall_lint.specs.Groups.{InOneGroup}
use Rattle.stall_lint.specs.Groups.InOneGroup.{alone}
use Rattle.stall_lint.specs.declared.hops.Hop.{Hop}
use Rattle.stall_lint.proofs.Trails.{Built, after_is, before, closed, group_back, group_on, single, widen}

-- The walk as it is made

-- behind the hops so far stands the next one, or the first
next_left : (hops : List Hop) (first next : Hop) (k : ℕ) → slice_get hops 0 ≡ Some first → slice_get hops (next_hop hops k) ≡ Some next → next_of first (drop (k + 1) hops) ≡ next
next_left hops first next k at_first at_next = elim (after_is (length hops) k) [
  | inl last ↦
      let e : Some first ≡ Some next = sym at_first ∙ ap (slice_get hops) (sym last.1) ∙ at_next in
      let it : first ≡ next = cc in
      let end = last.0 in
      at_drop_all (next_of first) hops (k + 1) (omega (arith, end)) ∙ it
  | inr other ↦
      let one : suc k ≡ k + 1 = omega arith in
      let there : slice_get hops (k + 1) ≡ Some next = ap (slice_get hops) (sym (other.1 ∙ one)) ∙ at_next in
      at_drop_more (next_of first) hops (k + 1) first (slice_get_within hops (k + 1) next there) ∙ get_or_from_slice_get hops (k + 1) next first there
]

-- this walk and the strands that the hops from a place on pass are those that all pass
abbrev pub IsPassing : List Hop → ℕ → List Who → Type 0
IsPassing hops k walk = (first : Hop) → slice_get hops 0 ≡ Some first → walk ++ around first (drop k hops) ≡ around first hops

pub passing_more : (hops : List Hop) (k : ℕ) (d next : Hop) (walk new : List Who) → k < length hops → slice_get hops (next_hop hops k) ≡ Some next → IsPassing hops k walk → new ≡ walk ++ within_group (get_or hops k d).entry next.exit → IsPassing hops (k + 1) new
passing_more hops k d next walk new lt at_next passing made first at_first =
    let left = drop (k + 1) hops in
    let group = within_group (get_or hops k d).entry next.exit in
    ap (λ l. l ++ around first left) made
    ∙ append_assoc walk group (around first left)
    ∙ ap (λ n. walk ++ (within_group (get_or hops k d).entry n.exit ++ around first left)) (sym (next_left hops first next k at_first at_next))
    ∙ ap (λ l. walk ++ l) (sym (at_drop_more (around first) hops k d lt))
    ∙ passing first at_first

-- The walk as a trail

module _ (net : Net) (behind : Hop) where
  -- hops of which each goes on in the group to which the one before it came, the last to the hop behind them; no two come to one group, and no edge serves twice, nor that of the hop behind them but for the first
  record IsChain (hops : List Hop) : Type 0 where
    each : (k : ℕ) (hop : Hop) → slice_get hops k ≡ Some hop → IsHop net hop
    joined : (k : ℕ) (hop next : Hop) → slice_get hops k ≡ Some hop → (slice_get hops (suc k) ≡ Some next) ⊎ ((suc k ≡ length hops) × (next ≡ behind)) → InOneGroup net hop.entry next.exit
    apart : (j k : ℕ) (hop other : Hop) → slice_get hops j ≡ Some hop → slice_get hops k ≡ Some other → InOneGroup net hop.entry other.entry → j ≡ k
    once : (j k : ℕ) (hop other : Hop) → slice_get hops j ≡ Some hop → slice_get hops k ≡ Some other → hop.link ≡ other.link → j ≡ k
    new : (k : ℕ) (hop : Hop) → slice_get hops (suc k) ≡ Some hop → hop.link ≢ behind.link

  shorter : (hop : Hop) (hops : List Hop) → IsChain (hop ∷ hops) → IsChain hops
  shorter hop hops chain = record {
    each = λ k one at. chain.each (suc k) one at;
    joined = λ k one next at to. chain.joined (suc k) one next at (elim to [ inl there ↦ inl there | inr end ↦ inr (let e = end.0 in omega (arith, e), end.1) ]);
    apart = λ j k one other a b same. (let e = chain.apart (suc j) (suc k) one other a b same in omega (arith, e));
    once = λ j k one other a b same. (let e = chain.once (suc j) (suc k) one other a b same in omega (arith, e));
    new = λ k one at. chain.new (suc k) one at;
  }

  -- a strand in a group to which these hops come
  record IsPassed (hops : List Hop) (s : Who) : Type 0 where
    place : ℕ
    hop : Hop
    at : slice_get hops place ≡ Some hop
    in_group : InOneGroup net s hop.entry

  later : (hop : Hop) (hops : List Hop) (s : Who) → IsPassed hops s → IsPassed (hop ∷ hops) s
  later hop hops s passed = record { place = suc passed.place; hop = passed.hop; at = passed.at; in_group = passed.in_group }

  -- no strand of the first hop's group stands in one to which the others come
  fresh : (hop : Hop) (hops : List Hop) (s : Who) → IsChain (hop ∷ hops) → InOneGroup net hop.entry s → IsPassed hops s → ⊥
  fresh hop hops s chain in_it passed =
      let e = chain.apart 0 (suc passed.place) hop passed.hop refl passed.at (group_on net hop.entry s passed.hop.entry in_it passed.in_group) in
      absurd (omega (arith, e))

  -- the number of an edge of these hops, or of that behind them
  abbrev IsNumber : List Hop → ℕ → Type 0
  IsNumber hops n = (n ≡ behind.link) ⊎ ((k : ℕ) × (hop : Hop) × (slice_get hops k ≡ Some hop) × (n ≡ hop.link))

  -- a trail to where the hop behind them comes, that passes these strands
  record Passes (Of : Who → Type 0) (By : ℕ → Type 0) (s : Who) (walk : List Who) : Type 0 where
    built : Built net behind.entry Of By s
    is : built.walk ≡ walk

  widened : (Of Of' : Who → Type 0) (By By' : ℕ → Type 0) (s : Who) (walk : List Who) → ((x : Who) → Of x → Of' x) → ((n : ℕ) → By n → By' n) → Passes Of By s walk → Passes Of' By' s walk
  unfolding widen
  widened Of Of' By By' s walk wide wider passes = record { built = widen net behind.entry Of Of' By By' s wide wider passes.built; is = passes.is }

  over : (hop : Hop) → IsHop net hop → Goes net hop.exit (ByLink hop.link) hop.entry
  over hop is = (is.link, is.at, is.ends)

  -- over the edge of the hop behind them
  last_over : IsHop net behind → Passes (λ x. (x ≡ behind.exit) ⊎ ⊥) (IsNumber []) behind.exit (behind.exit ∷ [])
  unfolding single
  last_over is = widened (λ x. (x ≡ behind.exit) ⊎ ⊥) (λ x. (x ≡ behind.exit) ⊎ ⊥) (λ n. n ≡ behind.link) (IsNumber []) behind.exit (behind.exit ∷ []) (λ x it. it) (λ n it. inl it)
      (record { built = single net behind.entry behind.exit behind.link is.link is.at is.edge is.ends; is = refl })

  -- over the edge of the next hop
  next_over : (hop next : Hop) (hops : List Hop) (walk : List Who) → IsChain (hop ∷ next ∷ hops) → Passes (IsPassed (next ∷ hops)) (IsNumber hops) next.entry walk → Passes (λ x. (x ≡ next.exit) ⊎ IsPassed (next ∷ hops) x) (IsNumber (next ∷ hops)) next.exit (next.exit ∷ walk)
  unfolding before
  next_over hop next hops walk chain passes = record {
    built = before net behind.entry (IsPassed (next ∷ hops)) (IsNumber hops) (IsNumber (next ∷ hops)) next.exit next.entry (ByLink next.link) (over next (chain.each 1 next refl))
        (fresh hop (next ∷ hops) next.exit chain (chain.joined 0 hop next refl (inl refl))) wider this new passes.built;
    is = ap (λ l. next.exit ∷ l) passes.is;
  }
    where
      wider : (n : ℕ) → IsNumber hops n → IsNumber (next ∷ hops) n
      wider n (inl it) = inl it
      wider n (inr (k, one, at, it)) = inr (suc k, one, at, it)

      this : (n : ℕ) → ByLink next.link ≡ ByLink n → IsNumber (next ∷ hops) n
      this n it = inr (0, next, refl, cc)

      new : (n : ℕ) → ByLink next.link ≡ ByLink n → IsNumber hops n → ⊥
      new n it (inl last) = (let one : next.link ≡ n = cc in chain.new 0 next refl (one ∙ last))
      new n it (inr (k, other, at, one)) = (let this_one : next.link ≡ n = cc in let e = chain.once 1 (suc (suc k)) next other refl at (this_one ∙ one) in absurd (omega (arith, e)))

  -- these two strands, or one of some kind
  abbrev AlsoTwo : Who → Who → (Who → Type 0) → Who → Type 0
  AlsoTwo s z Of x = (x ≡ s) ⊎ ((x ≡ z) ⊎ Of x)

  -- from the strand to which a group is entered to the one from which it is left
  enters : (Of : Who → Type 0) (By : ℕ → Type 0) (s z : Who) (walk : List Who) → InOneGroup net s z → (Of s → ⊥) → Passes (λ x. (x ≡ z) ⊎ Of x) By z (z ∷ walk) → Passes (AlsoTwo s z Of) By s (within_group s z ++ walk)
  unfolding before
  enters Of By s z walk chain new passes = elim (equal_or_not s z) [
    | inl it ↦ subst (Passes (AlsoTwo s z Of) By s) (ap (λ b. (s ∷ cond b [] (z ∷ [])) ++ walk) (sym (eq-eqb s z it)))
        (subst (λ y. Passes (AlsoTwo s z Of) By y (y ∷ walk)) (sym it) (widened (λ x. (x ≡ z) ⊎ Of x) (AlsoTwo s z Of) By By z (z ∷ walk) (λ x of. inr of) (λ n by. by) passes))
    | inr other ↦ subst (Passes (AlsoTwo s z Of) By s) (ap (λ b. (s ∷ cond b [] (z ∷ [])) ++ walk) (sym (ne_eqb s z other)))
        (record {
          built = before net behind.entry (λ x. (x ≡ z) ⊎ Of x) By By s z Within chain (λ of. elim of [ inl it ↦ other it | inr rest ↦ new rest ]) (λ n by. by) (λ n no. cc) (λ n no by. cc) passes.built;
          is = ap (λ l. s ∷ l) passes.is;
        })
  ]

  -- all strands of the group of the first hop are passed
  own : (hop : Hop) (hops : List Hop) (Of : Who → Type 0) (z : Who) → InOneGroup net hop.entry z → ((x : Who) → Of x → IsPassed (hop ∷ hops) x) → (x : Who) → AlsoTwo hop.entry z Of x → IsPassed (hop ∷ hops) x
  own hop hops Of z in_it wide x (inl it) = record { place = 0; hop = hop; at = refl; in_group = subst (λ y. InOneGroup net y hop.entry) (sym it) alone }
  own hop hops Of z in_it wide x (inr (inl it)) = record { place = 0; hop = hop; at = refl; in_group = subst (λ y. InOneGroup net y hop.entry) (sym it) (group_back net hop.entry z in_it) }
  own hop hops Of z in_it wide x (inr (inr of)) = wide x of

  passes : (hop : Hop) (hops : List Hop) → IsHop net behind → IsChain (hop ∷ hops) → Passes (IsPassed (hop ∷ hops)) (IsNumber hops) hop.entry (around behind (hop ∷ hops))
  passes hop [] is chain =
      let in_it : InOneGroup net hop.entry behind.exit = chain.joined 0 hop behind refl (inr (refl, refl)) in
      widened (AlsoTwo hop.entry behind.exit (λ x. ⊥)) (IsPassed (hop ∷ [])) (IsNumber []) (IsNumber []) hop.entry (around behind (hop ∷ []))
      (own hop [] (λ x. ⊥) behind.exit in_it (λ x never. absurd never)) (λ n by. by)
      (enters (λ x. ⊥) (IsNumber []) hop.entry behind.exit [] in_it (λ never. never) (last_over is))
  passes hop (next ∷ hops) is chain =
      let in_it : InOneGroup net hop.entry next.exit = chain.joined 0 hop next refl (inl refl) in
      widened (AlsoTwo hop.entry next.exit (IsPassed (next ∷ hops))) (IsPassed (hop ∷ next ∷ hops)) (IsNumber (next ∷ hops)) (IsNumber (next ∷ hops)) hop.entry (around behind (hop ∷ next ∷ hops))
      (own hop (next ∷ hops) (IsPassed (next ∷ hops)) next.exit in_it (later hop (next ∷ hops))) (λ n by. by)
      (enters (IsPassed (next ∷ hops)) (IsNumber (next ∷ hops)) hop.entry next.exit (around behind (next ∷ hops)) in_it (fresh hop (next ∷ hops) hop.entry chain alone)
      (next_over hop next hops (around behind (next ∷ hops)) chain (passes next hops is (shorter hop (next ∷ hops) chain))))

  -- a circle is a chain, behind which its first hop comes again
  chain_of : (hops : List Hop) → IsCircle net (behind ∷ hops) → IsChain (behind ∷ hops)
  chain_of hops circle = record {
    each = circle.each;
    joined = λ k hop next at to. circle.joined k hop next at (there k next to);
    apart = circle.apart;
    once = circle.once;
    new = λ k hop at one. (let e = circle.once (suc k) 0 hop behind at refl one in absurd (omega (arith, e)));
  }
    where
      there : (k : ℕ) (next : Hop) → (slice_get (behind ∷ hops) (suc k) ≡ Some next) ⊎ ((suc k ≡ length (behind ∷ hops)) × (next ≡ behind)) → slice_get (behind ∷ hops) (next_hop (behind ∷ hops) k) ≡ Some next
      there k next to = elim (after_is (length (behind ∷ hops)) k) [
        | inl last ↦ ap (slice_get (behind ∷ hops)) last.1 ∙ elim to [
          | inl at ↦ (let lt = slice_get_within (behind ∷ hops) (suc k) next at in let end = last.0 in absurd (omega (arith, lt, end)))
          | inr end ↦ ap Some (sym end.1)
        ]
        | inr other ↦ ap (slice_get (behind ∷ hops)) other.1 ∙ elim to [ inl at ↦ at | inr end ↦ absurd (other.0 end.0) ]
      ]

pub circle_round : (net : Net) (hops : List Hop) (first : Hop) → slice_get hops 0 ≡ Some first → IsCircle net hops → IsRound net (around first hops)
circle_round net [] first at circle = cc
circle_round net (hop ∷ hops) first at circle =
    let it : hop ≡ first = cc in
    let whole = passes net hop hop hops (circle.each 0 hop refl) (chain_of net hop hops circle) in
    subst (λ f. IsRound net (around f (hop ∷ hops))) it (subst (IsRound net) whole.is (closed net (IsPassed net hop (hop ∷ hops)) (IsNumber net hop hops) hop.entry whole.built))

-- the walk that is made
pub made_round : (net : Net) (hops : List Hop) (k : ℕ) (walk : List Who) → IsCircle net hops → length hops ≤ k → IsPassing hops k walk → IsRound net walk
made_round net hops k walk circle end passing =
    let first = at_some hops 0 circle.some in
    let whole : walk ≡ around first.0 hops = sym (append-nil walk) ∙ ap (λ l. walk ++ l) (sym (at_drop_all (around first.0) hops k end)) ∙ passing first.0 first.1 in
    subst (IsRound net) (sym whole) (circle_round net hops first.0 first.1 circle)
