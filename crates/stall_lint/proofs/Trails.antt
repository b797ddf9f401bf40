-- A trail of strands without repeats that comes back to where it began is a round.
use Rattle.std.proofs.Common.{◌≡◌, ◌≢◌, ◌⊎◌, inl, inr, ℕ, zero, suc, ◌<◌, ◌==◌, cond, List, [], ◌∷◌, length, refl, sym, ◌∙◌, ap, subst, arith, Some, slice_get, eq-eqb}
use Rattle.std.proofs.lemmas.Bool.{ne_eqb}
use Rattle.std.proofs.lemmas.Option.{slice_get_within}
use Rattle.pipe_model.specs.declared.net.Net.{Net}
use Rattle.pipe_model.specs.declared.net.Link.{Link}
use Rattle.pipe_model.specs.State.{Who}
use Rattle.pipe_model.proofs.Numbers.{equal_or_not}
use Rattle.stall_lint.specs.Circles.{AreEnds}
use Rattle.stall_lint.specs.ClosedWalks.{Goes, IsRound, IsStep, UsesEdge, Way}
use Rattle.stall_lint.specs.ClosedWalks.Way.{ByLink}
use Rattle.stall_lint.specs.Groups.{InOneGroup, IsInner}
use Rattle.stall_lint.specs.Groups.InOneGroup.{alone, down, up}

-- Places round

-- the place behind one of n, round
abbrev pub after : ℕ → ℕ → ℕ
after n k = cond (suc k == n) 0 (suc k)

-- the place behind the last is the first
pub after_last : (n k : ℕ) → suc k ≡ n → after n k ≡ 0
after_last n k last = ap (λ b. cond b 0 (suc k)) (eq-eqb (suc k) n last)

-- and behind any other the next
pub after_other : (n k : ℕ) → suc k ≢ n → after n k ≡ suc k
after_other n k other = ap (λ b. cond b 0 (suc k)) (ne_eqb (suc k) n other)

pub after_is : (n k : ℕ) → ((suc k ≡ n) × (after n k ≡ 0)) ⊎ ((suc k ≢ n) × (after n k ≡ suc k))
after_is n k = elim (equal_or_not (suc k) n) [
  | inl last ↦ inl (last, after_last n k last)
  | inr other ↦ inr (other, after_other n k other)
]

pub after_within : (n k : ℕ) → k < n → after n k < n
after_within n k lt = elim (after_is n k) [
  | inl last ↦ (let x = last.1 in omega (arith, x, lt))
  | inr other ↦ (let next = other.0 in let x = other.1 in omega (arith, x, lt, next))
]

-- Groups

-- who is in the group of one in the group of s is in the group of s
pub group_on : (net : Net) (s t u : Who) → InOneGroup net s t → InOneGroup net t u → InOneGroup net s u
group_on net s t _ chain alone = chain
group_on net s t _ chain (down l inner rest) = down l inner (group_on net s t l.from chain rest)
group_on net s t _ chain (up l inner rest) = up l inner (group_on net s t l.to chain rest)

pub group_back : (net : Net) (s t : Who) → InOneGroup net s t → InOneGroup net t s
group_back net s _ alone = alone
group_back net s _ (down l inner rest) = group_on net l.to l.from s (up l inner alone) (group_back net s l.from rest)
group_back net s _ (up l inner rest) = group_on net l.from l.to s (down l inner alone) (group_back net s l.to rest)

-- Trails

-- these strands in order, each going on to the next one in these ways, and the last to the goal
pub data Trail (net : Net) (goal : Who) : Who → List Who → List Way → Type 0 where
  last : {s : Who} {way : Way} → Goes net s way goal → Trail net goal s (s ∷ []) (way ∷ [])
  more : {s u : Who} {way : Way} {walk : List Who} {ways : List Way} → Goes net s way u → Trail net goal u walk ways → Trail net goal s (s ∷ walk) (way ∷ ways)

module _ (net : Net) (goal : Who) where
  trail_first : (s : Who) (walk : List Who) (ways : List Way) → Trail net goal s walk ways → slice_get walk 0 ≡ Some s
  trail_first s _ _ (last goes) = refl
  trail_first s _ _ (more goes rest) = refl

  trail_some : (s : Who) (walk : List Who) (ways : List Way) → Trail net goal s walk ways → 0 < length walk
  trail_some s walk ways trail = slice_get_within walk 0 s (trail_first s walk ways trail)

  trail_count : (s : Who) (walk : List Who) (ways : List Way) → Trail net goal s walk ways → length ways ≡ length walk
  trail_count s _ _ (last goes) = refl
  trail_count s _ _ (more {u = u} {walk = walk} {ways = ways} goes rest) = ap suc (trail_count u walk ways rest)

  -- the step from each place
  trail_goes : (s : Who) (walk : List Who) (ways : List Way) → Trail net goal s walk ways → (k : ℕ) (way : Way) (x y : Who) → slice_get ways k ≡ Some way → slice_get walk k ≡ Some x →
      ((slice_get walk (suc k) ≡ Some y) ⊎ ((suc k ≡ length walk) × (y ≡ goal))) → Goes net x way y
  trail_goes s _ _ (last {way = w} goes) zero way x y at here to = by to
    where
      way_is : w ≡ way
      way_is = cc

      here_is : s ≡ x
      here_is = cc

      by : ((slice_get (s ∷ []) 1 ≡ Some y) ⊎ ((1 ≡ length (s ∷ [])) × (y ≡ goal))) → Goes net x way y
      by (inl next) = cc
      by (inr next) = subst (Goes net x way) (sym next.1) (subst (λ z. Goes net z way goal) here_is (subst (λ z. Goes net s z goal) way_is goes))
  trail_goes s _ _ (last goes) (suc k) way x y at here to = cc
  trail_goes s _ _ (more {u = u} {way = w} {walk = walk} {ways = ways} goes rest) zero way x y at here to = by to
    where
      way_is : w ≡ way
      way_is = cc

      here_is : s ≡ x
      here_is = cc

      by : ((slice_get (s ∷ walk) 1 ≡ Some y) ⊎ ((1 ≡ length (s ∷ walk)) × (y ≡ goal))) → Goes net x way y
      by (inl next) =
          let both_are : Some u ≡ Some y = sym (trail_first u walk ways rest) ∙ next in
          let one : u ≡ y = cc in
          subst (Goes net x way) one (subst (λ z. Goes net z way u) here_is (subst (λ z. Goes net s z u) way_is goes))
      by (inr next) = (let some = trail_some u walk ways rest in let end = next.0 in absurd (omega (arith, some, end)))
  trail_goes s _ _ (more {u = u} {walk = walk} {ways = ways} goes rest) (suc k) way x y at here to =
      trail_goes u walk ways rest k way x y at here (elim to [ inl next ↦ inl next | inr next ↦ inr (let end = next.0 in omega (arith, end), next.1) ])

-- a trail of strands and links that are of some kind, none of which comes twice
pub record Built (net : Net) (goal : Who) (Of : Who → Type 0) (By : ℕ → Type 0) (s : Who) : Type 0 where
  pub walk : List Who
  pub ways : List Way
  pub trail : Trail net goal s walk ways
  pub strands : (k : ℕ) (x : Who) → slice_get walk k ≡ Some x → Of x
  pub numbers : (k n : ℕ) → slice_get ways k ≡ Some (ByLink n) → By n
  pub once : (j k : ℕ) (x : Who) → slice_get walk j ≡ Some x → slice_get walk k ≡ Some x → j ≡ k
  pub no_twice : (j k n : ℕ) → slice_get ways j ≡ Some (ByLink n) → slice_get ways k ≡ Some (ByLink n) → j ≡ k
  pub uses : UsesEdge net ways

module _ (net : Net) (goal : Who) where
  -- of a wider kind
  unfoldable pub widen : (Of Of' : Who → Type 0) (By By' : ℕ → Type 0) (s : Who) → ((x : Who) → Of x → Of' x) → ((n : ℕ) → By n → By' n) → Built net goal Of By s → Built net goal Of' By' s
  widen Of Of' By By' s wide wider built = record {
    walk = built.walk;
    ways = built.ways;
    trail = built.trail;
    strands = λ k x at. wide x (built.strands k x at);
    numbers = λ k n at. wider n (built.numbers k n at);
    once = built.once;
    no_twice = built.no_twice;
    uses = built.uses;
  }

  -- one step over an edge
  unfoldable pub single : (s : Who) (number : ℕ) (link : Link) → slice_get net.links number ≡ Some link → (IsInner net link → ⊥) → AreEnds link s goal → Built net goal (λ x. (x ≡ s) ⊎ ⊥) (λ n. n ≡ number) s
  single s number link at edge ends = record {
    walk = s ∷ [];
    ways = ByLink number ∷ [];
    trail = last (link, at, ends);
    strands = strands;
    numbers = numbers;
    once = once;
    no_twice = no_twice;
    uses = record { place = 0; number = number; link = link; way = refl; at = at; edge = edge };
  }
    where
      strands : (k : ℕ) (x : Who) → slice_get (s ∷ []) k ≡ Some x → (x ≡ s) ⊎ ⊥
      strands zero x here = inl cc
      strands (suc k) x here = cc

      numbers : (k n : ℕ) → slice_get (ByLink number ∷ []) k ≡ Some (ByLink n) → n ≡ number
      numbers zero n here = cc
      numbers (suc k) n here = cc

      once : (j k : ℕ) (x : Who) → slice_get (s ∷ []) j ≡ Some x → slice_get (s ∷ []) k ≡ Some x → j ≡ k
      once zero zero x a b = refl
      once zero (suc k) x a b = cc
      once (suc j) k x a b = cc

      no_twice : (j k n : ℕ) → slice_get (ByLink number ∷ []) j ≡ Some (ByLink n) → slice_get (ByLink number ∷ []) k ≡ Some (ByLink n) → j ≡ k
      no_twice zero zero n a b = refl
      no_twice zero (suc k) n a b = cc
      no_twice (suc j) k n a b = cc

  -- with one step more before it, from a strand and over a link that are new
  unfoldable pub before : (Of : Who → Type 0) (By : ℕ → Type 0) (By' : ℕ → Type 0) (s u : Who) (way : Way) → Goes net s way u → (Of s → ⊥) → ((n : ℕ) → By n → By' n) → ((n : ℕ) → way ≡ ByLink n → By' n) → ((n : ℕ) → way ≡ ByLink n → By n → ⊥) →
      Built net goal Of By u → Built net goal (λ x. (x ≡ s) ⊎ Of x) By' s
  before Of By By' s u way goes new wide by_new link_new built = record {
    walk = s ∷ built.walk;
    ways = way ∷ built.ways;
    trail = more goes built.trail;
    strands = strands;
    numbers = numbers;
    once = once;
    no_twice = no_twice;
    uses = record { place = suc built.uses.place; number = built.uses.number; link = built.uses.link; way = built.uses.way; at = built.uses.at; edge = built.uses.edge };
  }
    where
      strands : (k : ℕ) (x : Who) → slice_get (s ∷ built.walk) k ≡ Some x → (x ≡ s) ⊎ Of x
      strands zero x at = inl cc
      strands (suc k) x at = inr (built.strands k x at)

      numbers : (k n : ℕ) → slice_get (way ∷ built.ways) k ≡ Some (ByLink n) → By' n
      numbers zero n at = by_new n cc
      numbers (suc k) n at = wide n (built.numbers k n at)

      once : (j k : ℕ) (x : Who) → slice_get (s ∷ built.walk) j ≡ Some x → slice_get (s ∷ built.walk) k ≡ Some x → j ≡ k
      once zero zero x a b = refl
      once zero (suc k) x a b = absurd (new (subst Of (let z : x ≡ s = cc in z) (built.strands k x b)))
      once (suc j) zero x a b = absurd (new (subst Of (let z : x ≡ s = cc in z) (built.strands j x a)))
      once (suc j) (suc k) x a b = ap suc (built.once j k x a b)

      no_twice : (j k n : ℕ) → slice_get (way ∷ built.ways) j ≡ Some (ByLink n) → slice_get (way ∷ built.ways) k ≡ Some (ByLink n) → j ≡ k
      no_twice zero zero n a b = refl
      no_twice zero (suc k) n a b = absurd (link_new n (let z : way ≡ ByLink n = cc in z) (built.numbers k n b))
      no_twice (suc j) zero n a b = absurd (link_new n (let z : way ≡ ByLink n = cc in z) (built.numbers j n a))
      no_twice (suc j) (suc k) n a b = ap suc (built.no_twice j k n a b)

-- a trail that comes back to where it began is a round
pub closed : (net : Net) (Of : Who → Type 0) (By : ℕ → Type 0) (s : Who) → (built : Built net s Of By s) → IsRound net built.walk
closed net Of By s built = record {
  some = trail_some net s s built.walk built.ways built.trail;
  once = built.once;
  ways = built.ways;
  count = trail_count net s s built.walk built.ways built.trail;
  goes = goes;
  no_twice = built.no_twice;
  closes = inl built.uses;
}
  where
    goes : (k : ℕ) (way : Way) (x y : Who) → slice_get built.ways k ≡ Some way → IsStep built.walk k x y → Goes net x way y
    goes k way x y at step = trail_goes net s s built.walk built.ways built.trail k way x y at step.here (elim (after_is (length built.walk) k) [
      | inl end ↦
          let back : Some s ≡ Some y = sym (trail_first net s s built.walk built.ways built.trail) ∙ ap (slice_get built.walk) (sym end.1) ∙ step.next in
          inr (end.0, (let z : y ≡ s = cc in z))
      | inr other ↦ inl (ap (slice_get built.walk) (sym other.1) ∙ step.next)
    ])
