-- Where no walk is closed no links run in a ring, so the net has no cycle.
use Rattle.std.proofs.Common.{◌≡◌, ◌≢◌, ◌⊎◌, inl, inr, ℕ, zero, suc, ◌+◌, ◌-◌, ◌<◌, ◌≤◌, ◌==◌, Bool, true, false, cond, List, length, map, refl, sym, ◌∙◌, ap, subst, arith, Option, Some, None, slice_get}
use Rattle.std.specs.Prelude.{nat_lt, unwrap_or}
use Rattle.std.specs.List.{range_with_len}
use Rattle.std.proofs.lemmas.Bool.{cases_lt, le-ltb, lt-ltb}
use Rattle.std.proofs.lemmas.List.FromFn.{length-map-range_with_len, get_or-map-range_with_len}
use Rattle.std.proofs.lemmas.Option.{slice_get_within, unwrap_or-slice_get}
use Rattle.pipe_model.specs.declared.net.Net.{Net}
use Rattle.pipe_model.specs.declared.net.Link.{Link}
use Rattle.pipe_model.specs.declared.net.Strand.{Strand}
use Rattle.pipe_model.specs.Form.{Parting}
use Rattle.pipe_model.specs.Form.Parting.{Queued, Streamed, Whole}
use Rattle.pipe_model.specs.Plain.{IsAcyclic, is_primed_later, waits_for_first}
use Rattle.pipe_model.specs.State.{Who, strand_in}
use Rattle.pipe_model.specs.Table.{form}
use Rattle.pipe_model.specs.WellFormed.{IsWellFormed}
use Rattle.pipe_model.proofs.Numbers.{equal_or_not}
use Rattle.confluence_laws.proofs.Sums.{pass_rise, passing_below}
use Rattle.stall_lint.specs.ClosedWalks.{Goes, IsRound, IsStep, Way}
use Rattle.stall_lint.specs.ClosedWalks.Way.{ByLink}
use Rattle.stall_lint.specs.Never.{HasNoDam}
use Rattle.stall_lint.proofs.Trails.{after_last, after_other}

-- the link of number j leads from s to t
abbrev pub Feeds : Net → ℕ → Who → Who → Type 0
Feeds net j s t = (l : Link) × (slice_get net.links j ≡ Some l) × (l.from ≡ s) × (l.to ≡ t)

-- links lead from s to t, one at least
pub record Reaches (net : Net) (s t : Who) : Type 0 where
  pub count : ℕ
  pub strand : ℕ → Who
  pub number : ℕ → ℕ
  pub starts : strand 0 ≡ s
  pub ends : strand (suc count) ≡ t
  pub feeds : (i : ℕ) → i ≤ count → Feeds net (number i) (strand i) (strand (suc i))

-- by one link
by_one : (net : Net) (j : ℕ) (s t : Who) → Feeds net j s t → Reaches net s t
by_one net j s t feeds = record {
  count = 0;
  strand = λ i. cond (i == 0) s t;
  number = λ i. j;
  starts = refl;
  ends = refl;
  feeds = at;
}
  where
    at : (i : ℕ) → i ≤ 0 → Feeds net j (cond (i == 0) s t) (cond (suc i == 0) s t)
    at zero le = feeds
    at (suc i) le = absurd (omega (arith, le))

-- by one link more
by_more : (net : Net) (j : ℕ) (s t u : Who) → Reaches net s t → Feeds net j t u → Reaches net s u
by_more net j s t u reaches feeds = record {
  count = suc reaches.count;
  strand = strand;
  number = number;
  starts = old_strand 0 (omega arith) ∙ reaches.starts;
  ends = new_strand;
  feeds = at;
}
  where
    strand : ℕ → Who
    strand i = cond (nat_lt i (suc (suc reaches.count))) (reaches.strand i) u

    number : ℕ → ℕ
    number i = cond (nat_lt i (suc reaches.count)) (reaches.number i) j

    old_strand : (i : ℕ) → i < suc (suc reaches.count) → cond (nat_lt i (suc (suc reaches.count))) (reaches.strand i) u ≡ reaches.strand i
    old_strand i lt = ap (λ b. cond b (reaches.strand i) u) (lt-ltb i (suc (suc reaches.count)) lt)

    new_strand : cond (nat_lt (suc (suc reaches.count)) (suc (suc reaches.count))) (reaches.strand (suc (suc reaches.count))) u ≡ u
    new_strand = ap (λ b. cond b (reaches.strand (suc (suc reaches.count))) u) (le-ltb (suc (suc reaches.count)) (suc (suc reaches.count)) (omega arith))

    at : (i : ℕ) → i ≤ suc reaches.count → Feeds net (cond (nat_lt i (suc reaches.count)) (reaches.number i) j) (cond (nat_lt i (suc (suc reaches.count))) (reaches.strand i) u) (cond (nat_lt (suc i) (suc (suc reaches.count))) (reaches.strand (suc i)) u)
    at i le = elim (equal_or_not i (suc reaches.count)) [
      | inl it ↦ subst (λ k. Feeds net (cond (nat_lt k (suc reaches.count)) (reaches.number k) j) (cond (nat_lt k (suc (suc reaches.count))) (reaches.strand k) u) (cond (nat_lt (suc k) (suc (suc reaches.count))) (reaches.strand (suc k)) u)) (sym it)
          (subst (λ n. Feeds net n (cond (nat_lt (suc reaches.count) (suc (suc reaches.count))) (reaches.strand (suc reaches.count)) u) (cond (nat_lt (suc (suc reaches.count)) (suc (suc reaches.count))) (reaches.strand (suc (suc reaches.count))) u))
          (sym (ap (λ b. cond b (reaches.number (suc reaches.count)) j) (le-ltb (suc reaches.count) (suc reaches.count) (omega arith))))
          (subst (λ z. Feeds net j z (cond (nat_lt (suc (suc reaches.count)) (suc (suc reaches.count))) (reaches.strand (suc (suc reaches.count))) u)) (sym (old_strand (suc reaches.count) (omega arith) ∙ reaches.ends)) (subst (Feeds net j t) (sym new_strand) feeds)))
      | inr other ↦
          let lt : i < suc reaches.count = omega (arith, le, other) in
          subst (λ n. Feeds net n (cond (nat_lt i (suc (suc reaches.count))) (reaches.strand i) u) (cond (nat_lt (suc i) (suc (suc reaches.count))) (reaches.strand (suc i)) u))
          (sym (ap (λ b. cond b (reaches.number i) j) (lt-ltb i (suc reaches.count) lt)))
          (subst (λ z. Feeds net (reaches.number i) z (cond (nat_lt (suc i) (suc (suc reaches.count))) (reaches.strand (suc i)) u)) (sym (old_strand i (omega (arith, lt))))
          (subst (Feeds net (reaches.number i) (reaches.strand i)) (sym (old_strand (suc i) (omega (arith, lt)))) (reaches.feeds i (omega (arith, lt)))))
    ]

-- A ring

module _ (net : Net) (s : Who) (ring : Reaches net s s) where
  -- before j all strands are different, and j comes back to that of i
  record Comes : Type 0 where
    i : ℕ
    j : ℕ
    less : i < j
    within : j ≤ suc ring.count
    same : ring.strand i ≡ ring.strand j
    apart : (a b : ℕ) → a < b → b < j → ring.strand a ≢ ring.strand b

  some_or_none : (m k : ℕ) → ((i : ℕ) × (i < m) × (ring.strand i ≡ ring.strand k)) ⊎ ((i : ℕ) → i < m → ring.strand i ≢ ring.strand k)
  some_or_none zero k = inr (λ i lt same. absurd (omega (arith, lt)))
  some_or_none (suc m) k = elim (equal_or_not (ring.strand m) (ring.strand k)) [
    | inl same ↦ inl (m, omega arith, same)
    | inr other ↦ elim (some_or_none m k) [
      | inl some ↦ inl (some.0, (let lt = some.1 in omega (arith, lt)), some.2)
      | inr none ↦ inr (λ i lt same. elim (equal_or_not i m) [ inl it ↦ other (ap ring.strand (sym it) ∙ same) | inr less ↦ none i (omega (arith, lt, less)) same ])
    ]
  ]

  comes_or_none : (m : ℕ) → m ≤ suc (suc ring.count) → Comes ⊎ ((a b : ℕ) → a < b → b < m → ring.strand a ≢ ring.strand b)
  comes_or_none zero le = inr (λ a b less lt same. absurd (omega (arith, lt)))
  comes_or_none (suc m) le = elim (comes_or_none m (omega (arith, le))) [
    | inl comes ↦ inl comes
    | inr none ↦ elim (some_or_none m m) [
      | inl some ↦ inl (record { i = some.0; j = m; less = some.1; within = omega (arith, le); same = some.2; apart = none })
      | inr fresh ↦ inr (λ a b less lt same. elim (equal_or_not b m) [
        | inl it ↦ fresh a (omega (arith, less, it)) (same ∙ ap ring.strand it)
        | inr other ↦ none a b less (omega (arith, lt, other)) same
      ])
    ]
  ]

  comes : Comes
  comes = elim (comes_or_none (suc (suc ring.count)) (omega arith)) [
    | inl it ↦ it
    | inr none ↦ absurd (none 0 (suc ring.count) (omega arith) (omega arith) (ring.starts ∙ sym ring.ends))
  ]

  module _ (c : Comes) where
    abbrev long : ℕ
    long = c.j - c.i

    abbrev walk : List Who
    walk = map (λ k. ring.strand (c.i + k)) (range_with_len 0 long)

    abbrev ways : List Way
    ways = map (λ k. ByLink (ring.number (c.i + k))) (range_with_len 0 long)

    walk_long : length walk ≡ long
    walk_long = length-map-range_with_len (λ k. ring.strand (c.i + k)) 0 long

    walk_at : (k : ℕ) (x : Who) → slice_get walk k ≡ Some x → (k < long) × (x ≡ ring.strand (c.i + k))
    walk_at k x at =
        let n = walk_long in
        let place = slice_get_within walk k x at in
        let lt : k < long = omega (arith, n, place) in
        (lt, ap (λ m. unwrap_or m 0) (sym at) ∙ unwrap_or-slice_get walk k 0 ∙ get_or-map-range_with_len (λ k. ring.strand (c.i + k)) 0 long k k 0 lt (omega arith))

    ways_at : (k : ℕ) (w : Way) → slice_get ways k ≡ Some w → (k < long) × (w ≡ ByLink (ring.number (c.i + k)))
    ways_at k w at =
        let n = length-map-range_with_len (λ k. ByLink (ring.number (c.i + k))) 0 long in
        let place = slice_get_within ways k w at in
        let lt : k < long = omega (arith, n, place) in
        (lt, ap (λ m. unwrap_or m (ByLink 0)) (sym at) ∙ unwrap_or-slice_get ways k (ByLink 0) ∙ get_or-map-range_with_len (λ k. ByLink (ring.number (c.i + k))) 0 long k k (ByLink 0) lt (omega arith))

    one_place : (a b : ℕ) → a < long → b < long → ring.strand (c.i + a) ≡ ring.strand (c.i + b) → a ≡ b
    one_place a b in_a in_b same = elim (cases_lt a b) [
      | inl less ↦ absurd (c.apart (c.i + a) (c.i + b) (omega (arith, less)) (omega (arith, in_b)) same)
      | inr le ↦ elim (equal_or_not a b) [ inl it ↦ it | inr other ↦ absurd (c.apart (c.i + b) (c.i + a) (omega (arith, le, other)) (omega (arith, in_a)) (sym same)) ]
    ]

    -- each strand feeds the next, and the last the first
    step : (k : ℕ) (x y : Who) → IsStep walk k x y → Feeds net (ring.number (c.i + k)) x y
    step k x y steps =
        let here = walk_at k x steps.here in
        let lt = here.0 in
        let within = c.within in
        let fed = ring.feeds (c.i + k) (omega (arith, lt, within)) in
        subst (λ z. Feeds net (ring.number (c.i + k)) z y) (sym here.1) (subst (Feeds net (ring.number (c.i + k)) (ring.strand (c.i + k))) (to lt) fed)
      where
        to : k < long → ring.strand (suc (c.i + k)) ≡ y
        to lt = elim (equal_or_not (suc k) (length walk)) [
          | inl last ↦
              let n = walk_long in
              let end : suc (c.i + k) ≡ c.j = omega (arith, last, n, lt) in
              let start : c.i + 0 ≡ c.i = omega arith in
              let first = walk_at 0 y (ap (slice_get walk) (sym (after_last (length walk) k last)) ∙ steps.next) in
              ap ring.strand end ∙ sym c.same ∙ ap ring.strand (sym start) ∙ sym first.1
          | inr other ↦
              let next = walk_at (suc k) y (ap (slice_get walk) (sym (after_other (length walk) k other)) ∙ steps.next) in
              let one : suc (c.i + k) ≡ c.i + suc k = omega arith in
              ap ring.strand one ∙ sym next.1
        ]

    ring_round : IsRound net walk
    ring_round = record {
      some = (let n = walk_long in let less = c.less in omega (arith, n, less));
      once = λ j k x a b. (let p = walk_at j x a in let q = walk_at k x b in one_place j k p.0 q.0 (sym p.1 ∙ q.1));
      ways = ways;
      count = length-map-range_with_len (λ k. ByLink (ring.number (c.i + k))) 0 long ∙ sym walk_long;
      goes = λ k w x y at steps.
          let fed = step k x y steps in
          subst (λ z. Goes net x z y) (sym (ways_at k w at).1) (fed.0, fed.1, inl (fed.2, fed.3));
      no_twice = λ j k n a b. two_links j k n (ways_at j (ByLink n) a) (ways_at k (ByLink n) b);
      closes = inr (inl (λ k x y steps. let fed = step k x y steps in (ring.number (c.i + k), fed.0, fed.1, fed.2, fed.3)));
    }
      where
        two_links : (j k n : ℕ) → (j < long) × (ByLink n ≡ ByLink (ring.number (c.i + j))) → (k < long) × (ByLink n ≡ ByLink (ring.number (c.i + k))) → j ≡ k
        two_links j k n p q =
            let within = c.within in
            let in_j = p.0 in
            let in_k = q.0 in
            let a = ring.feeds (c.i + j) (omega (arith, in_j, within)) in
            let b = ring.feeds (c.i + k) (omega (arith, in_k, within)) in
            let x : n ≡ ring.number (c.i + j) = (let e = p.1 in cc) in
            let y : n ≡ ring.number (c.i + k) = (let e = q.1 in cc) in
            let links : Some a.0 ≡ Some b.0 = sym a.1 ∙ ap (slice_get net.links) (sym x ∙ y) ∙ b.1 in
            let link : a.0 ≡ b.0 = cc in
            one_place j k in_j in_k (sym a.2 ∙ ap (λ l. l.from) link ∙ b.2)

  pub ring_closes : (other : List Who) × IsRound net other
  ring_closes = (let c = comes in (walk c, ring_round c))

-- both are strands of the net
pub ends_there : (net : Net) → IsWellFormed net → (s t : Who) → Reaches net s t → (s < length net.strands) × (t < length net.strands)
ends_there net formed s t reaches =
    let first = reaches.feeds 0 (omega arith) in
    let last = reaches.feeds reaches.count (omega arith) in
    let a = formed.joined (reaches.number 0) first.0 first.1 in
    let b = formed.joined (reaches.number reaches.count) last.0 last.1 in
    (subst (λ z. z < length net.strands) (first.2 ∙ reaches.starts) (slice_get_within net.strands first.0.from a.producer a.from_strand), subst (λ z. z < length net.strands) (last.3 ∙ reaches.ends) (slice_get_within net.strands last.0.to b.consumer b.to_strand))

-- The ranks

-- without a DAM no strand waits for the first one of its stage
pub no_later : (net : Net) → HasNoDam net → (s : Who) (m : Option Strand) → strand_in net s ≡ m → waits_for_first m ≡ true → ⊥
no_later net undammed s None here waits = cc
no_later net undammed s (Some p) here waits = by (form p).parting refl waits
  where
    by : (x : Parting) → (form p).parting ≡ x → is_primed_later p x ≡ true → ⊥
    by Whole is waits = cc
    by Queued is waits = cc
    by Streamed is waits = undammed s p here is

abbrev left : {A B : Type 0} → A ⊎ B → Bool
left (inl a) = true
left (inr b) = false

module _ (net : Net) (formed : IsWellFormed net) (undammed : HasNoDam net) (unclosed : (walk : List Who) → IsRound net walk → ⊥) (reach : (s t : Who) → Reaches net s t ⊎ (Reaches net s t → ⊥)) where
  -- so many strands lead to one
  abbrev rank : Who → ℕ
  rank t = passing_below (λ s. left (reach s t)) (length net.strands)

  is_left : (s t : Who) → left (reach s t) ≡ true → Reaches net s t
  is_left s t = by (reach s t)
    where
      by : (x : Reaches net s t ⊎ (Reaches net s t → ⊥)) → left x ≡ true → Reaches net s t
      by (inl does) is = does
      by (inr never) is = cc

  to_left : (s t : Who) → Reaches net s t → left (reach s t) ≡ true
  to_left s t does = by (reach s t)
    where
      by : (x : Reaches net s t ⊎ (Reaches net s t → ⊥)) → left x ≡ true
      by (inl a) = refl
      by (inr never) = absurd (never does)

  not_itself : (s : Who) → left (reach s s) ≡ false
  not_itself s = by (reach s s)
    where
      by : (x : Reaches net s s ⊎ (Reaches net s s → ⊥)) → left x ≡ false
      by (inl ring) = (let round = ring_closes net s ring in absurd (unclosed round.0 round.1))
      by (inr never) = refl

  pub acyclic : IsAcyclic net
  acyclic = record {
    rank = rank;
    along = λ j l at.
        let fed : Feeds net j l.from l.to = (l, at, refl, refl) in
        let joined = formed.joined j l at in
        let less = pass_rise (λ s. left (reach s l.from)) (λ s. left (reach s l.to)) (length net.strands) l.from (slice_get_within net.strands l.from joined.producer joined.from_strand) (not_itself l.from) (to_left l.from l.to (by_one net j l.from l.to fed))
        (λ s is. to_left s l.to (by_more net j s l.from l.to (is_left s l.from is) fed)) in
        omega (arith, less);
    parts = λ s waits. absurd (no_later net undammed s (strand_in net s) refl waits);
  }
