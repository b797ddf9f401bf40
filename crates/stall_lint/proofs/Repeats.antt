-- Hops that go on for ever from group to group and never go back come to a group again, and those between are a circle.
use Rattle.std.proofs.Common.{◌≡◌, ◌⊎◌, inl, inr, ℕ, zero, suc, ◌+◌, ◌-◌, ◌<◌, ◌≤◌, List, length, map, refl, sym, ◌∙◌, ap, subst, arith, Some, slice_get}
use Rattle.std.specs.List.{range_with_len}
use Rattle.std.proofs.lemmas.List.FromFn.{length-map-range_with_len, get_or-map-range_with_len}
use Rattle.std.proofs.lemmas.Option.{get_or_from_slice_get, slice_get_within}
use Rattle.std.proofs.lemmas.Bool.{cases_order}
use Rattle.pipe_model.specs.declared.net.Net.{Net}
use Rattle.pipe_model.specs.State.{Who}
use Rattle.pipe_model.proofs.Lists.{at_some, few_by_keys}
use Rattle.pipe_model.proofs.Numbers.{equal_or_not}
use Rattle.stall_lint.specs.Around.{around}
use Rattle.stall_lint.specs.Circles.{AreEnds, IsCircle, IsHop, next_hop}
use Rattle.stall_lint.specs.ClosedWalks.{IsRound}
use Rattle.stall_lint.specs.Groups.{InOneGroup}
use Rattle.stall_lint.specs.Groups.InOneGroup.{alone}
use Rattle.stall_lint.specs.declared.hops.Hop.{Hop}
use Rattle.stall_lint.proofs.Circuits.{circle_round}
use Rattle.stall_lint.proofs.Trails.{after_is, group_back, group_on}

-- hops that go on for ever from group to group, and never back over the edge by which they came
pub record IsEndless (net : Net) (hop : ℕ → Hop) : Type 0 where
  pub each : (i : ℕ) → IsHop net (hop i)
  pub within : (i : ℕ) → (hop i).entry < length net.strands
  pub joined : (i : ℕ) → InOneGroup net (hop i).entry (hop (suc i)).exit
  pub never_back : (i : ℕ) → (hop (suc i)).exit ≡ (hop i).entry → (hop (suc i)).link ≡ (hop i).link → ⊥

module _ (net : Net) (hop : ℕ → Hop) (way : IsEndless net hop) (one_or_two : (s t : Who) → s < length net.strands → t < length net.strands → InOneGroup net s t ⊎ (InOneGroup net s t → ⊥)) where
  abbrev Same : ℕ → ℕ → Type 0
  Same i j = InOneGroup net (hop i).entry (hop j).entry

  -- before j all groups are different, and j comes back to that of i
  record Repeat : Type 0 where
    i : ℕ
    j : ℕ
    less : i < j
    same : Same i j
    apart : (a b : ℕ) → a < b → b < j → Same a b → ⊥

  some_or_none : (m k : ℕ) → ((i : ℕ) × (i < m) × Same i k) ⊎ ((i : ℕ) → i < m → Same i k → ⊥)
  some_or_none zero k = inr (λ i lt same. absurd (omega (arith, lt)))
  some_or_none (suc m) k = elim (one_or_two (hop m).entry (hop k).entry (way.within m) (way.within k)) [
    | inl same ↦ inl (m, omega arith, same)
    | inr other ↦ elim (some_or_none m k) [
      | inl some ↦ inl (some.0, (let lt = some.1 in omega (arith, lt)), some.2)
      | inr none ↦ inr (λ i lt same. elim (equal_or_not i m) [
        | inl it ↦ other (subst (λ z. Same z k) it same)
        | inr less ↦ none i (omega (arith, lt, less)) same
      ])
    ]
  ]

  repeat_or_none : (m : ℕ) → Repeat ⊎ ((a b : ℕ) → a < b → b < m → Same a b → ⊥)
  repeat_or_none zero = inr (λ a b less lt same. absurd (omega (arith, lt)))
  repeat_or_none (suc m) = elim (repeat_or_none m) [
    | inl repeat ↦ inl repeat
    | inr none ↦ elim (some_or_none m m) [
      | inl some ↦ inl (record { i = some.0; j = m; less = some.1; same = some.2; apart = none })
      | inr fresh ↦ inr (λ a b less lt same. elim (equal_or_not b m) [
        | inl it ↦ fresh a (omega (arith, less, it)) (subst (Same a) it same)
        | inr other ↦ none a b less (omega (arith, lt, other)) same
      ])
    ]
  ]

  -- some hops from one on
  abbrev hops : ℕ → ℕ → List Hop
  hops from n = map hop (range_with_len from n)

  hop_at : (from n k : ℕ) (one : Hop) → slice_get (hops from n) k ≡ Some one → (k < n) × (one ≡ hop (from + k))
  hop_at from n k one at =
      let count = length-map-range_with_len hop from n in
      let place = slice_get_within (hops from n) k one at in
      let lt : k < n = omega (arith, count, place) in
      (lt, sym (get_or_from_slice_get (hops from n) k one one at) ∙ get_or-map-range_with_len hop from n k (from + k) one lt refl)

  -- what no two of them have in common tells one from the others
  one_place : (from n : ℕ) (Both : Hop → Hop → Type 0) → ((x y : Hop) → Both x y → Both y x) → ((a b : ℕ) → a < b → from ≤ a → b < from + n → Both (hop a) (hop b) → ⊥) →
      (j k : ℕ) (x y : Hop) → slice_get (hops from n) j ≡ Some x → slice_get (hops from n) k ≡ Some y → Both x y → j ≡ k
  one_place from n Both back none j k x y at_x at_y both =
      let p = hop_at from n j x at_x in
      let q = hop_at from n k y at_y in
      let in_j = p.0 in
      let in_k = q.0 in
      let they : Both (hop (from + j)) (hop (from + k)) = subst (Both (hop (from + j))) q.1 (subst (λ z. Both z y) p.1 both) in
      elim (cases_order j k) [
        | inl it ↦ it
        | inr other ↦ absurd (elim other [
          | inl less ↦ none (from + j) (from + k) (omega (arith, less)) (omega arith) (omega (arith, in_k)) they
          | inr more ↦ none (from + k) (from + j) (omega (arith, more)) (omega arith) (omega (arith, in_j)) (back (hop (from + j)) (hop (from + k)) they)
        ])
      ]

  -- there are no more groups than strands
  repeat : Repeat
  repeat = elim (repeat_or_none (suc (length net.strands))) [
    | inl it ↦ it
    | inr none ↦
        let few = few_by_keys (λ x. x.entry) (length net.strands) (hops 0 (suc (length net.strands)))
        (one_place 0 (suc (length net.strands)) (λ x y. x.entry ≡ y.entry) (λ x y. sym) (λ a b less from to one. none a b less (omega (arith, to)) (subst (InOneGroup net (hop a).entry) one alone)))
        (λ j x at. subst (λ z. z.entry < length net.strands) (sym (hop_at 0 (suc (length net.strands)) j x at).1) (way.within (0 + j))) in
        let count = length-map-range_with_len hop 0 (suc (length net.strands)) in
        absurd (omega (arith, few, count))
  ]

  module _ (r : Repeat) where
    abbrev long : ℕ
    long = r.j - r.i

    -- the hops behind i, up to j
    abbrev between : List Hop
    between = hops (suc r.i) long

    -- no two come to one group
    apart : (a b : ℕ) → a < b → suc r.i ≤ a → b < suc r.i + long → Same a b → ⊥
    apart a b less from to same = elim (equal_or_not b r.j) [
      | inl end ↦ r.apart r.i a (omega (arith, from)) (omega (arith, less, end)) (group_on net (hop r.i).entry (hop r.j).entry (hop a).entry r.same (group_back net (hop a).entry (hop r.j).entry (subst (Same a) end same)))
      | inr other ↦ r.apart a b less (let fit = r.less in omega (arith, to, other, fit)) same
    ]

    -- nor goes over one link
    two_links : (a b : ℕ) → a < b → suc r.i ≤ a → b < suc r.i + long → (hop a).link ≡ (hop b).link → ⊥
    two_links a zero less from to one = absurd (omega (arith, less))
    two_links a (suc b) less from to one = by_ends (way.each a).ends (subst (λ z. AreEnds z (hop (suc b)).exit (hop (suc b)).entry) (sym link) (way.each (suc b)).ends)
      where
        link : (way.each a).link ≡ (way.each (suc b)).link
        link = (let e : Some (way.each a).link ≡ Some (way.each (suc b)).link = sym (way.each a).at ∙ ap (slice_get net.links) one ∙ (way.each (suc b)).at in cc)

        one_entry : (hop a).entry ≡ (hop (suc b)).entry → ⊥
        one_entry it = apart a (suc b) less from to (subst (InOneGroup net (hop a).entry) it alone)

        crossed : (hop a).entry ≡ (hop (suc b)).exit → ⊥
        crossed it = elim (equal_or_not a b) [
          | inl next ↦ way.never_back b (sym it ∙ ap (λ z. (hop z).entry) next) (sym one ∙ ap (λ z. (hop z).link) next)
          | inr earlier ↦ r.apart a b (omega (arith, less, earlier)) (let fit = r.less in omega (arith, to, fit)) (subst (λ z. InOneGroup net z (hop b).entry) (sym it) (group_back net (hop b).entry (hop (suc b)).exit (way.joined b)))
        ]

        by_ends : AreEnds (way.each a).link (hop a).exit (hop a).entry → AreEnds (way.each a).link (hop (suc b)).exit (hop (suc b)).entry → ⊥
        by_ends (inl x) (inl y) = one_entry (sym x.1 ∙ y.1)
        by_ends (inr x) (inr y) = one_entry (sym x.0 ∙ y.0)
        by_ends (inl x) (inr y) = crossed (sym x.1 ∙ y.1)
        by_ends (inr x) (inl y) = crossed (sym x.0 ∙ y.0)

    circle : IsCircle net between
    circle = record {
      some = (let count = length-map-range_with_len hop (suc r.i) long in let less = r.less in omega (arith, count, less));
      each = λ k one at. subst (IsHop net) (sym (hop_at (suc r.i) long k one at).1) (way.each (suc r.i + k));
      joined = λ k one next at at_next. subst (λ z. InOneGroup net z.entry next.exit) (sym (hop_at (suc r.i) long k one at).1) (joined k next at_next);
      apart = one_place (suc r.i) long (λ x y. InOneGroup net x.entry y.entry) (λ x y. group_back net x.entry y.entry) apart;
      once = one_place (suc r.i) long (λ x y. x.link ≡ y.link) (λ x y. sym) two_links;
    }
      where
        joined : (k : ℕ) (next : Hop) → slice_get between (next_hop between k) ≡ Some next → InOneGroup net (hop (suc r.i + k)).entry next.exit
        joined k next at = elim (after_is (length between) k) [
          | inl last ↦
              let first = hop_at (suc r.i) long 0 next (ap (slice_get between) (sym last.1) ∙ at) in
              let start : suc r.i + 0 ≡ suc r.i = omega arith in
              let count = length-map-range_with_len hop (suc r.i) long in
              let less = r.less in
              let end_of = last.0 in
              let end : suc r.i + k ≡ r.j = omega (arith, end_of, count, less) in
              group_on net (hop (suc r.i + k)).entry (hop r.i).entry next.exit
              (subst (λ z. Same z r.i) (sym end) (group_back net (hop r.i).entry (hop r.j).entry r.same))
              (subst (λ z. InOneGroup net (hop r.i).entry z.exit) (sym (first.1 ∙ ap hop start)) (way.joined r.i))
          | inr other ↦
              let second = hop_at (suc r.i) long (suc k) next (ap (slice_get between) (sym other.1) ∙ at) in
              let on : suc r.i + suc k ≡ suc (suc r.i + k) = omega arith in
              subst (λ z. InOneGroup net (hop (suc r.i + k)).entry z.exit) (sym (second.1 ∙ ap hop on)) (way.joined (suc r.i + k))
        ]

    circuit : (walk : List Who) × IsRound net walk
    circuit =
        let first = at_some between 0 circle.some in
        (around first.0 between, circle_round net between first.0 first.1 circle)

  pub round : (walk : List Who) × IsRound net walk
  round = circuit repeat
