-- Each round, begun elsewhere and turned, is a closed walk.
use Rattle.std.proofs.Common.{◌≡◌, ◌≢◌, ◌⊎◌, inl, inr, ℕ, zero, suc, ◌+◌, ◌-◌, ◌<◌, ◌≤◌, ◌==◌, cond, List, [], ◌∷◌, length, map, get_or, refl, sym, ◌∙◌, ap, arith, Some, ◌++◌, reverse, slice_get, subst, append-nil}
use Rattle.std.specs.Prelude.{nat_lt, unwrap_or}
use Rattle.std.specs.List.{IsFirstBest, RotatedLeft, range_with_len}
use Rattle.std.proofs.lemmas.Bool.{cases_lt, le-ltb, lt-ltb, ltb-false, ne_eqb}
use Rattle.std.proofs.lemmas.List.{drop_all, get_or-reverse, length-reverse, take_all}
use Rattle.std.proofs.lemmas.List.FromFn.{fill_by_all, length-map-range_with_len, get_or-map-range_with_len}
use Rattle.std.proofs.lemmas.Option.{get_or_from_slice_get, slice_get-get_or, slice_get_within, unwrap_or-slice_get}
use borrow.Rule.Slice.PartMut.{mid_of, put_mid}
use Rattle.pipe_model.specs.declared.net.Net.{Net}
use Rattle.pipe_model.specs.State.{Who}
use Rattle.pipe_model.proofs.Lists.{at_some}
use Rattle.stall_lint.specs.Begun.{BeginsLeast}
use Rattle.stall_lint.specs.ClosedWalks.{EachFeeds, EachIsFed, Goes, IsClosedWalk, IsRound, IsStep, UsesEdge, Way, behind}
use Rattle.stall_lint.specs.ClosedWalks.Way.{ByLink, Within}
use Rattle.stall_lint.proofs.Trails.{after, after_is, group_back}

-- A list whose places are changed

-- what stands at the place `from k` of the old list stands at place k
abbrev placed : {A : Type 0} → A → (ℕ → ℕ) → ℕ → List A → List A
placed d from n xs = map (λ k. get_or xs (from k) d) (range_with_len 0 n)

module _ {A : Type 0} (d : A) (from : ℕ → ℕ) (xs : List A) (within : (k : ℕ) → k < length xs → from k < length xs) where
  placed_long : length (placed d from (length xs) xs) ≡ length xs
  placed_long = length-map-range_with_len (λ k. get_or xs (from k) d) 0 (length xs)

  placed_at : (k : ℕ) (x : A) → slice_get (placed d from (length xs) xs) k ≡ Some x → (k < length xs) × (slice_get xs (from k) ≡ Some x)
  placed_at k x at =
      let long = placed_long in
      let place = slice_get_within (placed d from (length xs) xs) k x at in
      let lt : k < length xs = omega (arith, long, place) in
      let y = at_some xs (from k) (within k lt) in
      let is : x ≡ y.0 =
      ap (λ m. unwrap_or m d) (sym at) ∙ unwrap_or-slice_get (placed d from (length xs) xs) k d
      ∙ get_or-map-range_with_len (λ k. get_or xs (from k) d) 0 (length xs) k k d lt (omega arith)
      ∙ sym (unwrap_or-slice_get xs (from k) d) ∙ ap (λ m. unwrap_or m d) y.1 in
      (lt, y.1 ∙ ap Some (sym is))

  placed_there : (k : ℕ) (x : A) → k < length xs → slice_get xs (from k) ≡ Some x → slice_get (placed d from (length xs) xs) k ≡ Some x
  placed_there k x lt at =
      let long = placed_long in
      let y = at_some (placed d from (length xs) xs) k (omega (arith, long, lt)) in
      let e : Some y.0 ≡ Some x = sym (placed_at k y.0 y.1).1 ∙ at in
      y.1 ∙ e

-- Places changed so that neighbours stay neighbours

-- the strand at place k comes from `strand k`, the way from `way k`
record IsTurning (n : ℕ) (strand way : ℕ → ℕ) : Type 0 where
  strand_within : (k : ℕ) → k < n → strand k < n
  way_within : (k : ℕ) → k < n → way k < n
  strand_once : (j k : ℕ) → j < n → k < n → strand j ≡ strand k → j ≡ k
  way_once : (j k : ℕ) → j < n → k < n → way j ≡ way k → j ≡ k
  way_back : (p : ℕ) → p < n → (k : ℕ) × (k < n) × (way k ≡ p)
  -- each step is an old one, all taken forwards or all backwards
  steps : ((k : ℕ) → k < n → (way k ≡ strand k) × (after n (way k) ≡ strand (after n k))) ⊎ ((k : ℕ) → k < n → (way k ≡ strand (after n k)) × (after n (way k) ≡ strand k))

-- a way goes back too
goes_back : (net : Net) (s t : Who) (way : Way) → Goes net s way t → Goes net t way s
goes_back net s t Within goes = group_back net s t goes
goes_back net s t (ByLink j) (l, at, inl ends) = (l, at, inr ends)
goes_back net s t (ByLink j) (l, at, inr ends) = (l, at, inl ends)

module _ (net : Net) (walk : List Who) (round : IsRound net walk) (strand way : ℕ → ℕ) (turning : IsTurning (length walk) strand way) where
  abbrev turned : List Who
  turned = placed 0 strand (length walk) walk

  long : length turned ≡ length walk
  long = placed_long 0 strand walk turning.strand_within

  way_in : (k : ℕ) → k < length round.ways → way k < length round.ways
  way_in k lt = (let count = round.count in let in_it = turning.way_within k (omega (arith, count, lt)) in omega (arith, count, in_it))

  abbrev turned_ways : List Way
  turned_ways = placed Within way (length round.ways) round.ways

  -- a step is an old one, forwards or backwards
  old_step : (k : ℕ) (s t : Who) → IsStep turned k s t → (k < length walk) × (slice_get walk (strand k) ≡ Some s) × (slice_get walk (strand (after (length walk) k)) ≡ Some t)
  old_step k s t step =
      let here = placed_at 0 strand walk turning.strand_within k s step.here in
      let next = placed_at 0 strand walk turning.strand_within (behind turned k) t step.next in
      (here.0, here.1, ap (λ n. slice_get walk (strand (after n k))) (sym long) ∙ next.1)

  forwards : (k : ℕ) (s t : Who) → (way k ≡ strand k) × (after (length walk) (way k) ≡ strand (after (length walk) k)) → IsStep turned k s t → IsStep walk (way k) s t
  forwards k s t same step = (let old = old_step k s t step in record { here = ap (slice_get walk) same.0 ∙ old.1; next = ap (slice_get walk) same.1 ∙ old.2 })

  backwards : (k : ℕ) (s t : Who) → (way k ≡ strand (after (length walk) k)) × (after (length walk) (way k) ≡ strand k) → IsStep turned k s t → IsStep walk (way k) t s
  backwards k s t same step = (let old = old_step k s t step in record { here = ap (slice_get walk) same.0 ∙ old.2; next = ap (slice_get walk) same.1 ∙ old.1 })

  turned_round : IsRound net turned
  turned_round = record {
    some = (let some = round.some in let n = long in omega (arith, some, n));
    once = λ j k s a b.
        let x = placed_at 0 strand walk turning.strand_within j s a in
        let y = placed_at 0 strand walk turning.strand_within k s b in
        turning.strand_once j k x.0 y.0 (round.once (strand j) (strand k) s x.1 y.1);
    ways = turned_ways;
    count = placed_long Within way round.ways way_in ∙ round.count ∙ sym long;
    goes = goes;
    no_twice = λ j k n a b.
        let count = round.count in
        let x = placed_at Within way round.ways way_in j (ByLink n) a in
        let y = placed_at Within way round.ways way_in k (ByLink n) b in
        turning.way_once j k (let lt = x.0 in omega (arith, count, lt)) (let lt = y.0 in omega (arith, count, lt)) (round.no_twice (way j) (way k) n x.1 y.1);
    closes = closes;
  }
    where
      goes : (k : ℕ) (w : Way) (s t : Who) → slice_get turned_ways k ≡ Some w → IsStep turned k s t → Goes net s w t
      goes k w s t at step =
          let old_way = (placed_at Within way round.ways way_in k w at).1 in
          let lt = (old_step k s t step).0 in
          elim turning.steps [
            | inl same ↦ round.goes (way k) w s t old_way (forwards k s t (same k lt) step)
            | inr same ↦ goes_back net t s w (round.goes (way k) w t s old_way (backwards k s t (same k lt) step))
          ]

      edge : UsesEdge net round.ways → UsesEdge net turned_ways
      edge uses =
          let count = round.count in
          let lt = slice_get_within round.ways uses.place (ByLink uses.number) uses.way in
          let k = turning.way_back uses.place (omega (arith, count, lt)) in
          let in_k = k.1 in
          record {
            place = k.0;
            number = uses.number;
            link = uses.link;
            way = placed_there Within way round.ways way_in k.0 (ByLink uses.number) (omega (arith, count, in_k)) (ap (slice_get round.ways) k.2 ∙ uses.way);
            at = uses.at;
            edge = uses.edge;
          }

      ring : EachFeeds net walk ⊎ EachIsFed net walk → EachFeeds net turned ⊎ EachIsFed net turned
      ring (inl feeds) = elim turning.steps [
        | inl same ↦ inl (λ k s t step. feeds (way k) s t (forwards k s t (same k (old_step k s t step).0) step))
        | inr same ↦ inr (λ k s t step. feeds (way k) t s (backwards k s t (same k (old_step k s t step).0) step))
      ]
      ring (inr fed) = elim turning.steps [
        | inl same ↦ inr (λ k s t step. fed (way k) s t (forwards k s t (same k (old_step k s t step).0) step))
        | inr same ↦ inl (λ k s t step. fed (way k) t s (backwards k s t (same k (old_step k s t step).0) step))
      ]

      closes : UsesEdge net turned_ways ⊎ (EachFeeds net turned ⊎ EachIsFed net turned)
      closes = elim round.closes [ inl uses ↦ inl (edge uses) | inr feeds ↦ inr (ring feeds) ]

-- Begun at another place

-- the place that stands m places on
abbrev onward : ℕ → ℕ → ℕ → ℕ
onward n m k = cond (nat_lt (k + m) n) (k + m) (k + m - n)

onward_is : (n m k : ℕ) → ((k + m < n) × (onward n m k ≡ k + m)) ⊎ ((n ≤ k + m) × (onward n m k + n ≡ k + m))
onward_is n m k = elim (cases_lt (k + m) n) [
  | inl lt ↦ inl (lt, ap (λ b. cond b (k + m) (k + m - n)) (lt-ltb (k + m) n lt))
  | inr le ↦ inr (le, (let e = ap (λ b. cond b (k + m) (k + m - n)) (le-ltb (k + m) n le) in omega (arith, le, e)))
]

module _ (n m : ℕ) (less : m < n) where
  onward_within : (k : ℕ) → k < n → onward n m k < n
  onward_within k lt = elim (onward_is n m k) [
    | inl is ↦ (let a = is.0 in let b = is.1 in omega (arith, a, b))
    | inr is ↦ (let a = is.0 in let b = is.1 in omega (arith, a, b, lt, less))
  ]

  onward_once : (j k : ℕ) → j < n → k < n → onward n m j ≡ onward n m k → j ≡ k
  onward_once j k in_j in_k one = elim (onward_is n m j) [
    | inl a ↦ elim (onward_is n m k) [
      | inl b ↦ (let x = a.1 in let y = b.1 in omega (arith, one, x, y))
      | inr b ↦ (let x = a.1 in let y = b.1 in let z = b.0 in absurd (omega (arith, one, x, y, z, in_j, in_k, less)))
    ]
    | inr a ↦ elim (onward_is n m k) [
      | inl b ↦ (let x = a.1 in let y = b.1 in let z = a.0 in absurd (omega (arith, one, x, y, z, in_j, in_k, less)))
      | inr b ↦ (let x = a.1 in let y = b.1 in omega (arith, one, x, y))
    ]
  ]

  onward_back : (p : ℕ) → p < n → (k : ℕ) × (k < n) × (onward n m k ≡ p)
  onward_back p lt = elim (cases_lt p m) [
    | inl before ↦ (
      p + n - m,
      omega (arith, before, less, lt),
      elim (onward_is n m (p + n - m)) [
        | inl is ↦ (let a = is.0 in absurd (omega (arith, a, less)))
        | inr is ↦ (let b = is.1 in omega (arith, b, less))
      ],
    )
    | inr later ↦ (
      p - m,
      omega (arith, later, lt),
      elim (onward_is n m (p - m)) [
        | inl is ↦ (let b = is.1 in omega (arith, b, later))
        | inr is ↦ (let a = is.0 in absurd (omega (arith, a, later, lt)))
      ],
    )
  ]

  onward_next : (k : ℕ) → k < n → after n (onward n m k) ≡ onward n m (after n k)
  onward_next k lt = by (onward n m k) (after n k) (onward_is n m k) (after_is n k)
    where
      by : (a b : ℕ) → ((k + m < n) × (a ≡ k + m)) ⊎ ((n ≤ k + m) × (a + n ≡ k + m)) → ((suc k ≡ n) × (b ≡ 0)) ⊎ ((suc k ≢ n) × (b ≡ suc k)) → after n a ≡ onward n m b
      by a b of_a of_b = with_all (after n a) (onward n m b) of_a of_b (after_is n a) (onward_is n m b)
        where
          with_all : (c d : ℕ) → ((k + m < n) × (a ≡ k + m)) ⊎ ((n ≤ k + m) × (a + n ≡ k + m)) → ((suc k ≡ n) × (b ≡ 0)) ⊎ ((suc k ≢ n) × (b ≡ suc k)) →
              ((suc a ≡ n) × (c ≡ 0)) ⊎ ((suc a ≢ n) × (c ≡ suc a)) → ((b + m < n) × (d ≡ b + m)) ⊎ ((n ≤ b + m) × (d + n ≡ b + m)) → c ≡ d
          with_all c d x y z w = grind (arith, lt, less, x, y, z, w)

  rotation : IsTurning n (onward n m) (onward n m)
  rotation = record {
    strand_within = onward_within;
    way_within = onward_within;
    strand_once = onward_once;
    way_once = onward_once;
    way_back = onward_back;
    steps = inl (λ k lt. (refl, onward_next k lt));
  }

-- Read from its end

-- the place that stands so far before the first, round
abbrev flipped : ℕ → ℕ → ℕ
flipped n k = cond (k == 0) 0 (n - k)

flipped_is : (n k : ℕ) → ((k ≡ 0) × (flipped n k ≡ 0)) ⊎ ((0 < k) × (flipped n k ≡ n - k))
flipped_is n zero = inl (refl, refl)
flipped_is n (suc k) = inr (omega arith, ap (λ b. cond b 0 (n - suc k)) (ne_eqb (suc k) 0 (λ e. absurd (omega (arith, e)))))

module _ (n : ℕ) where
  flipped_within : (k : ℕ) → k < n → flipped n k < n
  flipped_within k lt = elim (flipped_is n k) [ inl is ↦ (let b = is.1 in omega (arith, lt, b)) | inr is ↦ (let a = is.0 in let b = is.1 in omega (arith, lt, a, b)) ]

  flipped_once : (j k : ℕ) → j < n → k < n → flipped n j ≡ flipped n k → j ≡ k
  flipped_once j k in_j in_k one = elim (flipped_is n j) [
    | inl a ↦ elim (flipped_is n k) [
      | inl b ↦ (let x = a.0 in let y = b.0 in omega (arith, x, y))
      | inr b ↦ (let x = a.1 in let y = b.1 in absurd (omega (arith, one, x, y, in_k)))
    ]
    | inr a ↦ elim (flipped_is n k) [
      | inl b ↦ (let x = a.1 in let y = b.1 in absurd (omega (arith, one, x, y, in_j)))
      | inr b ↦ (let x = a.1 in let y = b.1 in omega (arith, one, x, y, in_j, in_k))
    ]
  ]

  flipped_way : (k : ℕ) → k < n → n - suc k ≡ flipped n (after n k)
  flipped_way k lt = elim (after_is n k) [
    | inl is ↦ (let a = is.0 in let zero_is : flipped n (after n k) ≡ 0 = ap (flipped n) is.1 in omega (arith, a, zero_is))
    | inr is ↦ (let to = ap (flipped n) is.1 in elim (flipped_is n (suc k)) [ inl b ↦ (let x = b.0 in absurd (omega (arith, x))) | inr b ↦ (let x = b.1 in omega (arith, to, x)) ])
  ]

  flipped_next : (k : ℕ) → k < n → after n (n - suc k) ≡ flipped n k
  flipped_next k lt = elim (flipped_is n k) [
    | inl a ↦ elim (after_is n (n - suc k)) [
      | inl b ↦ (let x = a.1 in let y = b.1 in omega (arith, x, y))
      | inr b ↦ absurd (b.0 (let x = a.0 in omega (arith, x, lt)))
    ]
    | inr a ↦ elim (after_is n (n - suc k)) [
      | inl b ↦ (let x = a.0 in let y = b.0 in absurd (omega (arith, x, y, lt)))
      | inr b ↦ (let x = a.1 in let y = b.1 in omega (arith, x, y, lt))
    ]
  ]

  reversal : IsTurning n (flipped n) (λ k. n - suc k)
  reversal = record {
    strand_within = flipped_within;
    way_within = λ k lt. omega (arith, lt);
    strand_once = flipped_once;
    way_once = λ j k in_j in_k one. omega (arith, in_j, in_k, one);
    way_back = λ p lt. (n - suc p, omega (arith, lt), omega (arith, lt));
    steps = inr (λ k lt. (flipped_way k lt, flipped_next k lt));
  }

-- The lists as they are made

-- moved so far to the left
moved_left : (xs ys : List ℕ) (m : ℕ) → length ys ≡ length xs → RotatedLeft xs ys (length xs) m → ys ≡ placed 0 (onward (length xs) m) (length xs) xs
moved_left xs ys m long moved = fill_by_all (λ k. get_or xs (onward (length xs) m k) 0) ys (length xs) 0 long (λ k lt. elim (onward_is (length xs) m k) [
  | inl is ↦ moved.0 k 0 is.0 ∙ ap (λ p. get_or xs p 0) (sym is.1)
  | inr is ↦ (let le = is.0 in let e = is.1 in moved.1 k 0 le lt ∙ ap (λ p. get_or xs p 0) (omega (arith, le, e)))
])

-- all but the first turned
others_turned : (x : ℕ) (xs : List ℕ) → x ∷ reverse xs ≡ placed 0 (flipped (length (x ∷ xs))) (length (x ∷ xs)) (x ∷ xs)
others_turned x xs = fill_by_all (λ k. get_or (x ∷ xs) (flipped (length (x ∷ xs)) k) 0) (x ∷ reverse xs) (length (x ∷ xs)) 0 (ap suc (length-reverse xs)) at
  where
    at : (k : ℕ) → k < length (x ∷ xs) → get_or (x ∷ reverse xs) k 0 ≡ get_or (x ∷ xs) (flipped (length (x ∷ xs)) k) 0
    at zero lt = refl
    at (suc k) lt =
        let less : k < length xs = omega (arith, lt) in
        let place : suc (length xs - 1 - k) ≡ flipped (length (x ∷ xs)) (suc k) = elim (flipped_is (length (x ∷ xs)) (suc k)) [
          | inl is ↦ (let no = is.0 in absurd (omega (arith, no)))
          | inr is ↦ (let e = is.1 in omega (arith, e, less))
        ] in
        get_or-reverse xs k 0 less ∙ ap (λ p. get_or (x ∷ xs) p 0) place

put_turned : (x : ℕ) (xs ys : List ℕ) (k : ℕ) → k ≡ length xs → ys ≡ reverse (mid_of 1 k (x ∷ xs)) → put_mid 1 k (x ∷ xs) ys ≡ x ∷ reverse xs
put_turned x xs ys k all made = (let le : length xs ≤ k = omega (arith, all) in ap (λ l. x ∷ l) (ap (λ l. ys ++ l) (drop_all k xs le) ∙ append-nil ys ∙ made ∙ ap reverse (take_all k xs le)))

-- Turned as it is told

-- the least of the list stands at this place
record IsLeastAt (xs : List ℕ) (m : ℕ) : Type 0 where
  least : ℕ
  at : slice_get xs m ≡ Some least
  below : (k y : ℕ) → slice_get xs k ≡ Some y → least ≤ y

least_at : (xs : List ℕ) → 0 < length xs → (m : ℕ) × IsLeastAt xs m
least_at [] some = absurd (omega (arith, some))
least_at (x ∷ []) some = (0, record { least = x; at = refl; below = only })
  where
    only : (k y : ℕ) → slice_get (x ∷ []) k ≡ Some y → x ≤ y
    only zero y at = (let e : x ≡ y = cc in omega (arith, e))
    only (suc k) y at = cc
least_at (x ∷ x' ∷ xs) some = by (least_at (x' ∷ xs) (omega arith))
  where
    by : (m : ℕ) × IsLeastAt (x' ∷ xs) m → (m : ℕ) × IsLeastAt (x ∷ x' ∷ xs) m
    by (m, rest) = elim (cases_lt x rest.least) [ inl lt ↦ (0, record { least = x; at = refl; below = first lt }) | inr le ↦ (suc m, record { least = rest.least; at = rest.at; below = later le }) ]
      where
        first : x < rest.least → (k z : ℕ) → slice_get (x ∷ x' ∷ xs) k ≡ Some z → x ≤ z
        first lt zero z at = (let e : x ≡ z = cc in omega (arith, e))
        first lt (suc k) z at = (let less = rest.below k z at in omega (arith, lt, less))

        later : rest.least ≤ x → (k z : ℕ) → slice_get (x ∷ x' ∷ xs) k ≡ Some z → rest.least ≤ z
        later le zero z at = (let e : x ≡ z = cc in omega (arith, le, e))
        later le (suc k) z at = rest.below k z at

best_is_least : (xs : List ℕ) (m : ℕ) → IsFirstBest nat_lt xs (length xs) m → IsLeastAt xs m
best_is_least xs m best = record {
  least = get_or xs m 0;
  at = slice_get-get_or xs m 0 best.0;
  below = λ k y at.
      let le = ltb-false (get_or xs k 0) (get_or xs m 0) (best.1 k 0 (slice_get_within xs k y at)) in
      let is = get_or_from_slice_get xs k y 0 at in
      omega (arith, le, is);
}

module _ (net : Net) where
  from_least : (walk : List Who) (m : ℕ) → IsRound net walk → IsLeastAt walk m → IsRound net (placed 0 (onward (length walk) m) (length walk) walk) × BeginsLeast (placed 0 (onward (length walk) m) (length walk) walk)
  from_least walk m round least =
      let less = slice_get_within walk m least.least least.at in
      let turning = rotation (length walk) m less in (
        turned_round net walk round (onward (length walk) m) (onward (length walk) m) turning,
        λ k first s at_first at.
            let a = placed_at 0 (onward (length walk) m) walk turning.strand_within 0 first at_first in
            let b = placed_at 0 (onward (length walk) m) walk turning.strand_within k s at in
            let start : onward (length walk) m 0 ≡ m = elim (onward_is (length walk) m 0) [ inl is ↦ (let x = is.1 in omega (arith, x)) | inr is ↦ (let x = is.0 in absurd (omega (arith, x, less))) ] in
            let one : Some least.least ≡ Some first = sym least.at ∙ ap (slice_get walk) (sym start) ∙ a.1 in
            let it : least.least ≡ first = cc in
            let lower = least.below (onward (length walk) m k) s b.1 in
            omega (arith, it, lower),
      )

  pub begun_least : (walk new : List Who) (m : ℕ) → IsFirstBest nat_lt walk (length walk) m → length new ≡ length walk → RotatedLeft walk new (length walk) m → IsRound net walk → IsRound net new × BeginsLeast new
  begun_least walk new m best long moved round = subst (λ l. IsRound net l × BeginsLeast l) (sym (moved_left walk new m long moved)) (from_least walk m round (best_is_least walk m best))

  -- a walk whose second strand isn't above its last one stays
  pub stays : (walk : List Who) → (length walk ≤ 1) ⊎ (get_or walk 1 0 ≤ get_or walk (length walk - 1) 0) → IsRound net walk → BeginsLeast walk → IsClosedWalk net walk
  stays walk why round least = (
    round,
    record {
      least = least;
      lesser = λ second last at_second at_last.
          let two = slice_get_within walk 1 second at_second in
          let p = get_or_from_slice_get walk 1 second 0 at_second in
          let q = get_or_from_slice_get walk (length walk - 1) last 0 at_last in
          elim why [ inl one ↦ absurd (omega (arith, one, two)) | inr le ↦ omega (arith, p, q, le) ];
    },
  )

  -- one whose second strand is above its last one is turned
  from_end : (walk : List Who) → 1 < length walk → get_or walk (length walk - 1) 0 < get_or walk 1 0 → IsRound net walk → BeginsLeast walk → IsClosedWalk net (placed 0 (flipped (length walk)) (length walk) walk)
  from_end walk two less round least = (
    turned_round net walk round (flipped (length walk)) (λ k. length walk - suc k) turning,
    record {
      least = λ k first s at_first at.
          let a = placed_at 0 (flipped (length walk)) walk turning.strand_within 0 first at_first in
          let b = placed_at 0 (flipped (length walk)) walk turning.strand_within k s at in
          least (flipped (length walk) k) first s a.1 b.1;
      lesser = λ x y at_x at_y.
          let long = placed_long 0 (flipped (length walk)) walk turning.strand_within in
          let a = placed_at 0 (flipped (length walk)) walk turning.strand_within 1 x at_x in
          let b = placed_at 0 (flipped (length walk)) walk turning.strand_within (length (placed 0 (flipped (length walk)) (length walk) walk) - 1) y at_y in
          let place : flipped (length walk) (length (placed 0 (flipped (length walk)) (length walk) walk) - 1) ≡ 1 =
          ap (λ n. flipped (length walk) (n - 1)) long ∙ elim (flipped_is (length walk) (length walk - 1)) [ inl is ↦ (let z = is.0 in absurd (omega (arith, z, two))) | inr is ↦ (let z = is.1 in omega (arith, z, two)) ] in
          let p = get_or_from_slice_get walk (length walk - 1) x 0 a.1 in
          let q = get_or_from_slice_get walk 1 y 0 (ap (slice_get walk) (sym place) ∙ b.1) in
          omega (arith, p, q, less);
    },
  )
    where
      turning : IsTurning (length walk) (flipped (length walk)) (λ k. length walk - suc k)
      turning = reversal (length walk)

  pub reads_from_end : (walk ys : List Who) → 1 < length walk → get_or walk (length walk - 1) 0 < get_or walk 1 0 → ys ≡ reverse (mid_of 1 (length walk - 1) walk) → IsRound net walk → BeginsLeast walk → IsClosedWalk net (put_mid 1 (length walk - 1) walk ys)
  reads_from_end [] ys two less made round least = absurd (omega (arith, two))
  reads_from_end (x ∷ xs) ys two less made round least = subst (IsClosedWalk net) (sym (put_turned x xs ys (length (x ∷ xs) - 1) (omega arith) made ∙ others_turned x xs)) (from_end (x ∷ xs) two less round least)

  lesser_second : (walk : List Who) → IsRound net walk → BeginsLeast walk → (other : List Who) × IsClosedWalk net other
  lesser_second walk round least = elim (cases_lt 1 (length walk)) [
    | inl two ↦ elim (cases_lt (get_or walk (length walk - 1) 0) (get_or walk 1 0)) [
      | inl less ↦ (placed 0 (flipped (length walk)) (length walk) walk, from_end walk two less round least)
      | inr le ↦ (walk, stays walk (inr le) round least)
    ]
    | inr one ↦ (walk, stays walk (inl one) round least)
  ]

  pub closed_walk : (walk : List Who) → IsRound net walk → (other : List Who) × IsClosedWalk net other
  closed_walk walk round =
      let first = least_at walk round.some in
      let begun = from_least walk first.0 round first.1 in
      lesser_second (placed 0 (onward (length walk) first.0) (length walk) walk) begun.0 begun.1
