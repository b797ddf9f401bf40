-- Worked examples: a braid is one group and never stalls; a FANOUT whose outputs meet at a FANIN again closes a walk, also through an ELASTIC.
use Rattle.std.proofs.Common.{◌≡◌, ◌≢◌, ◌⊎◌, inl, inr, ℕ, zero, suc, ◌≤◌, Bool, true, false, cond, ◌&&◌, not, ◌==◌, List, [], ◌∷◌, map, refl, sym, ◌∙◌, ap, subst, arith, Option, Some, None, slice_get, eq-eqb}
use Rattle.std.specs.List.{list_all}
use Rattle.std.specs.Option.{option_map}
use Rattle.std.proofs.lemmas.Option.{slice_get-map}
use Rattle.pipe_model.specs.declared.net.Net.{Net}
use Rattle.pipe_model.specs.declared.net.Link.{Link}
use Rattle.pipe_model.specs.declared.net.Strand.{Strand}
use Rattle.pipe_model.specs.Form.Meeting.{Braided}
use Rattle.pipe_model.specs.Nets.{rendezvous}
use Rattle.pipe_model.specs.Settled.{fork}
use Rattle.pipe_model.specs.State.{Who, link_into, nothing_yet, same, strand_in}
use Rattle.pipe_model.specs.Table.{form}
use Rattle.pipe_model.proofs.Lists.{all_at, found_at}
use Rattle.pipe_model.proofs.Truths.{both}
use Rattle.confluence_laws.specs.Examples.{buffered, joining, queue, ring}
use Rattle.confluence_laws.proofs.Basics.{from_in}
use Rattle.confluence_laws.proofs.Acyclic.{acyclic_if}
use Rattle.confluence_laws.proofs.Formed.{joining_formed}
use Rattle.confluence_laws.proofs.Walks.{settled_if}
use Rattle.stall_lint.specs.ClosedWalks.{EachFeeds, Goes, IsClosedWalk, IsStep, Way, behind}
use Rattle.stall_lint.specs.ClosedWalks.Way.{ByLink}
use Rattle.stall_lint.specs.Groups.{InOneGroup, IsFollowed, IsInner, StandsOn}
use Rattle.stall_lint.specs.Groups.InOneGroup.{alone, down, up}
use Rattle.stall_lint.specs.Groups.IsFollowed.{at_join, onward}
use Rattle.stall_lint.specs.Groups.StandsOn.{begins, goes_over, goes_through}
use Rattle.stall_lint.specs.Never.{HasNoDam, NeverStalls}
use Rattle.stall_lint.specs.Rooted.{IsAbove, IsRooted}
use Rattle.stall_lint.proofs.Ends.{never_stalls}
use Rattle.stall_lint.proofs.NoRounds.{no_round}

-- A braid: the links from the FANINANY back to the first LOCATE are inner

to_second : IsInner joining (rendezvous 2 0 3 0)
to_second = record { join = 3; strand = _; there = refl; takes_first = refl; parts = 1; parts_is = refl; followed = at_join 0 refl }

to_first : IsInner joining (rendezvous 1 1 3 1)
to_first = record { join = 3; strand = _; there = refl; takes_first = refl; parts = 1; parts_is = refl; followed = at_join 1 refl }

apart_from : (n m : ℕ) → (n == m) ≡ false → n ≢ m
apart_from n m other e = (let z : true ≡ false = sym (eq-eqb n m e) ∙ other in cc)

between : IsInner joining (rendezvous 1 0 2 0)
between = record { join = 3; strand = _; there = refl; takes_first = refl; parts = 1; parts_is = refl; followed = onward 2 _ (begins 0 (rendezvous 2 0 3 0) refl) (apart_from 2 1 refl) refl refl refl }

-- so they are one group
one_group : InOneGroup joining 3 2
one_group = down (rendezvous 1 0 2 0) between (up (rendezvous 1 1 3 1) to_first alone)

-- No other link is

-- the FANINANY alone takes what comes first
only_join : (s : Who) (p : Strand) → strand_in joining s ≡ Some p → (form p).meeting ≡ Braided → s ≡ 3
only_join zero p here is = cc
only_join (suc zero) p here is = cc
only_join (suc (suc zero)) p here is = cc
only_join (suc (suc (suc zero))) p here is = refl
only_join (suc (suc (suc (suc zero)))) p here is = cc
only_join (suc (suc (suc (suc (suc n))))) p here is = cc

-- its links, and that of the second LOCATE
into_join : (j : ℕ) (l : Link) → slice_get joining.links j ≡ Some l → l.to ≡ 3 → (l ≡ rendezvous 2 0 3 0) ⊎ (l ≡ rendezvous 1 1 3 1)
into_join zero l at to = (let z : rendezvous 0 0 1 0 ≡ l = cc in absurd (apart_from 1 3 refl (ap (λ k. k.to) z ∙ to)))
into_join (suc zero) l at to = (let z : rendezvous 1 0 2 0 ≡ l = cc in absurd (apart_from 2 3 refl (ap (λ k. k.to) z ∙ to)))
into_join (suc (suc zero)) l at to = inl cc
into_join (suc (suc (suc zero))) l at to = (let z : rendezvous 3 0 4 0 ≡ l = cc in absurd (apart_from 4 3 refl (ap (λ k. k.to) z ∙ to)))
into_join (suc (suc (suc (suc zero)))) l at to = inr cc
into_join (suc (suc (suc (suc (suc n))))) l at to = cc

into_second : (j : ℕ) (l : Link) → slice_get joining.links j ≡ Some l → l.to ≡ 2 → l ≡ rendezvous 1 0 2 0
into_second zero l at to = (let z : rendezvous 0 0 1 0 ≡ l = cc in absurd (apart_from 1 2 refl (ap (λ k. k.to) z ∙ to)))
into_second (suc zero) l at to = cc
into_second (suc (suc zero)) l at to = (let z : rendezvous 2 0 3 0 ≡ l = cc in absurd (apart_from 3 2 refl (ap (λ k. k.to) z ∙ to)))
into_second (suc (suc (suc zero))) l at to = (let z : rendezvous 3 0 4 0 ≡ l = cc in absurd (apart_from 4 2 refl (ap (λ k. k.to) z ∙ to)))
into_second (suc (suc (suc (suc zero)))) l at to = (let z : rendezvous 1 1 3 1 ≡ l = cc in absurd (apart_from 3 2 refl (ap (λ k. k.to) z ∙ to)))
into_second (suc (suc (suc (suc (suc n))))) l at to = cc

link_at : (s i : ℕ) (l : Link) → link_into joining s i ≡ Some l → (j : ℕ) × (slice_get joining.links j ≡ Some l) × (l.to ≡ s)
link_at s i l e =
    let r = found_at (λ k. same k.to s && k.input == i) joining.links e in
    (r.1.0, r.1.1, (from_in joining joining_formed nothing_yet s i l e).0)

-- the walks stand at the second LOCATE and at the first
walked : (t : Who) → StandsOn joining 3 1 t → (t ≡ 2) ⊎ (t ≡ 1)
walked _ (begins i l e) = (let at = link_at 3 i l e in elim (into_join at.0 l at.1 at.2) [ inl it ↦ inl (ap (λ k. k.from) it) | inr it ↦ inr (ap (λ k. k.from) it) ])
walked _ (goes_through {t} p l stands apart here thin e) = elim (walked t stands) [
  | inr it ↦ absurd (apart it)
  | inl it ↦ (let at = link_at 2 0 l (subst (λ z. link_into joining z 0 ≡ Some l) it e) in inr (ap (λ k. k.from) (into_second at.0 l at.1 at.2)))
]
walked _ (goes_over {t} {m} stands apart over) = elim (walked t stands) [
  | inr it ↦ absurd (apart it)
  | inl it ↦ (let none : fork joining 2 ≡ None = refl in let some = subst (λ z. fork joining z ≡ Some m) it over in cc)
]

inner_are : (l : Link) → IsInner joining l → (l ≡ rendezvous 2 0 3 0) ⊎ ((l ≡ rendezvous 1 1 3 1) ⊎ (l ≡ rendezvous 1 0 2 0))
inner_are l inner = by inner.followed
  where
    join : inner.join ≡ 3
    join = only_join inner.join inner.strand inner.there inner.takes_first

    parts : inner.parts ≡ 1
    parts = (let x : Some 1 ≡ Some inner.parts = ap (fork joining) (sym join) ∙ inner.parts_is in cc)

    by : IsFollowed joining inner.join inner.parts l → (l ≡ rendezvous 2 0 3 0) ⊎ ((l ≡ rendezvous 1 1 3 1) ⊎ (l ≡ rendezvous 1 0 2 0))
    by (at_join i e) = (let at = link_at inner.join i l e in elim (into_join at.0 l at.1 (at.2 ∙ join)) [ inl it ↦ inl it | inr it ↦ inr (inl it) ])
    by (onward t p stands apart here thin e) =
        let stands_too = subst (λ z. StandsOn joining 3 z t) parts (subst (λ z. StandsOn joining z inner.parts t) join stands) in
        elim (walked t stands_too) [
          | inr it ↦ absurd (apart (it ∙ sym parts))
          | inl it ↦ (let at = link_at t 0 l e in inr (inr (into_second at.0 l at.1 (at.2 ∙ it))))
        ]

-- The braid is a tree of three groups in a row

group_of : Who → ℕ
group_of s = cond (s == 0) 0 (cond (s == 4) 2 1)

way_up : ℕ → Option ℕ
way_up g = cond (g == 0) None (cond (g == 1) (Some 0) (Some 3))

pub joining_rooted : IsRooted joining
unfolding group_of way_up
joining_rooted = record {
  label = group_of;
  depth = λ g. g;
  up = way_up;
  most = λ s lt. few s;
  inner = λ l inner. elim (inner_are l inner) [
    | inl it ↦ ap (λ k. group_of k.from) it ∙ sym (ap (λ k. group_of k.to) it)
    | inr rest ↦ elim rest [ inl it ↦ ap (λ k. group_of k.from) it ∙ sym (ap (λ k. group_of k.to) it) | inr it ↦ ap (λ k. group_of k.from) it ∙ sym (ap (λ k. group_of k.to) it) ]
  ];
  edge = edges;
}
  where
    few : (s : Who) → group_of s ≤ 5
    few s = elim (s == 0) as (λ b. cond b 0 (cond (s == 4) 2 1) ≤ 5) [ true ↦ omega arith | false ↦ elim (s == 4) as (λ b. cond b 2 1 ≤ 5) [ true ↦ omega arith | false ↦ omega arith ] ]

    above : (l m : Link) (j : ℕ) → l ≡ m → IsAbove group_of (λ g. g) way_up j l.from l.to → IsInner joining m ⊎ (IsAbove group_of (λ g. g) way_up j m.from m.to ⊎ IsAbove group_of (λ g. g) way_up j m.to m.from)
    above l m j it is = inr (inl (subst (λ k. IsAbove group_of (λ g. g) way_up j k.from k.to) it is))

    edges : (j : ℕ) (l : Link) → slice_get joining.links j ≡ Some l → IsInner joining l ⊎ (IsAbove group_of (λ g. g) way_up j l.from l.to ⊎ IsAbove group_of (λ g. g) way_up j l.to l.from)
    edges zero l at = above (rendezvous 0 0 1 0) l 0 (let z : rendezvous 0 0 1 0 ≡ l = cc in z) (refl, refl)
    edges (suc zero) l at = inl (subst (IsInner joining) (let z : rendezvous 1 0 2 0 ≡ l = cc in z) between)
    edges (suc (suc zero)) l at = inl (subst (IsInner joining) (let z : rendezvous 2 0 3 0 ≡ l = cc in z) to_second)
    edges (suc (suc (suc zero))) l at = above (rendezvous 3 0 4 0) l 3 (let z : rendezvous 3 0 4 0 ≡ l = cc in z) (refl, refl)
    edges (suc (suc (suc (suc zero)))) l at = inl (subst (IsInner joining) (let z : rendezvous 1 1 3 1 ≡ l = cc in z) to_first)
    edges (suc (suc (suc (suc (suc n))))) l at = cc

no_dam : HasNoDam joining
no_dam zero p here is = cc
no_dam (suc zero) p here is = cc
no_dam (suc (suc zero)) p here is = cc
no_dam (suc (suc (suc zero))) p here is = cc
no_dam (suc (suc (suc (suc zero)))) p here is = cc
no_dam (suc (suc (suc (suc (suc n))))) p here is = cc

-- so it never stalls
joining_never : NeverStalls joining
joining_never = never_stalls joining joining_formed (settled_if joining refl) (λ s p here. refl) no_dam (λ walk closed. no_round joining joining_formed (acyclic_if joining refl) joining_rooted walk closed.0)

-- Closed walks of nets where nothing takes what comes first

-- no member is x
abbrev no_other : ℕ → List ℕ → Bool
no_other x xs = list_all (λ y. not (x == y)) xs

-- no number comes twice
abbrev are_apart : List ℕ → Bool
are_apart [] = true
are_apart (x ∷ xs) = no_other x xs && are_apart xs

apart_places : (xs : List ℕ) → are_apart xs ≡ true → (j k n : ℕ) → slice_get xs j ≡ Some n → slice_get xs k ≡ Some n → j ≡ k
apart_places [] apart j k n at_j at_k = cc
apart_places (x ∷ xs) apart zero zero n at_j at_k = refl
apart_places (x ∷ xs) apart zero (suc k) n at_j at_k =
    let other = all_at (λ y. not (x == y)) xs k (both (no_other x xs) (are_apart xs) apart).0 at_k in
    let it : x ≡ n = cc in
    let same_one = eq-eqb x n it in
    (let z : false ≡ true = ap not (sym same_one) ∙ other in cc)
apart_places (x ∷ xs) apart (suc j) zero n at_j at_k =
    let other = all_at (λ y. not (x == y)) xs j (both (no_other x xs) (are_apart xs) apart).0 at_j in
    let it : x ≡ n = cc in
    let same_one = eq-eqb x n it in
    (let z : false ≡ true = ap not (sym same_one) ∙ other in cc)
apart_places (x ∷ xs) apart (suc j) (suc k) n at_j at_k = ap suc (apart_places xs (both (no_other x xs) (are_apart xs) apart).1 j k n at_j at_k)

-- nor does a link, where the numbers of the ways are apart
apart_ways : (ns : List ℕ) → are_apart ns ≡ true → (j k n : ℕ) → slice_get (map ByLink ns) j ≡ Some (ByLink n) → slice_get (map ByLink ns) k ≡ Some (ByLink n) → j ≡ k
apart_ways ns apart j k n at_j at_k = apart_places ns apart j k n (number j at_j) (number k at_k)
  where
    of_way : (m : Option ℕ) → option_map ByLink m ≡ Some (ByLink n) → m ≡ Some n
    of_way None e = cc
    of_way (Some x) e = cc

    number : (i : ℕ) → slice_get (map ByLink ns) i ≡ Some (ByLink n) → slice_get ns i ≡ Some n
    number i at = of_way (slice_get ns i) (sym (slice_get-map ByLink ns i) ∙ at)

-- a step of a walk, by what stands at its place
step_at : (net : Net) (s t j : ℕ) (walk : List Who) (k : ℕ) → Goes net s (ByLink j) t → slice_get walk k ≡ Some s → slice_get walk (behind walk k) ≡ Some t → (ways : List Way) → slice_get ways k ≡ Some (ByLink j) →
    (way : Way) (u v : Who) → slice_get ways k ≡ Some way → IsStep walk k u v → Goes net u way v
step_at net s t j walk k goes here next ways at way u v at_way step =
    let s_is : Some s ≡ Some u = sym here ∙ step.here in
    let t_is : Some t ≡ Some v = sym next ∙ step.next in
    let way_is : Some (ByLink j) ≡ Some way = sym at ∙ at_way in
    let x : s ≡ u = cc in
    let y : t ≡ v = cc in
    let z : ByLink j ≡ way = cc in
    subst (λ a. Goes net a way v) x (subst (λ b. Goes net s way b) y (subst (λ w. Goes net s w t) z goes))

-- nothing there takes what comes first
buffered_ordered : (s : Who) (p : Strand) → strand_in buffered s ≡ Some p → (form p).meeting ≡ Braided → ⊥
buffered_ordered zero p here is = cc
buffered_ordered (suc zero) p here is = cc
buffered_ordered (suc (suc zero)) p here is = cc
buffered_ordered (suc (suc (suc zero))) p here is = cc
buffered_ordered (suc (suc (suc (suc zero)))) p here is = cc
buffered_ordered (suc (suc (suc (suc (suc zero))))) p here is = cc
buffered_ordered (suc (suc (suc (suc (suc (suc n)))))) p here is = cc

-- from the FANOUT to the FANIN, and through the ELASTIC back
buffered_walk : IsClosedWalk buffered (1 ∷ 2 ∷ 5 ∷ 4 ∷ [])
buffered_walk = (
  record {
    some = omega arith;
    once = λ j k s. apart_places (1 ∷ 2 ∷ 5 ∷ 4 ∷ []) refl j k s;
    ways = map ByLink (1 ∷ 5 ∷ 4 ∷ 3 ∷ []);
    count = refl;
    goes = goes;
    no_twice = λ j k n. apart_ways (1 ∷ 5 ∷ 4 ∷ 3 ∷ []) refl j k n;
    closes = inl (record { place = 0; number = 1; link = rendezvous 1 0 2 0; way = refl; at = refl; edge = λ inner. buffered_ordered inner.join inner.strand inner.there inner.takes_first });
  },
  record { least = least; lesser = λ second last at_1 at_end. (let x : 2 ≡ second = cc in let y : 4 ≡ last = cc in omega (arith, x, y)) },
)
  where
    goes : (k : ℕ) (way : Way) (s t : Who) → slice_get (map ByLink (1 ∷ 5 ∷ 4 ∷ 3 ∷ [])) k ≡ Some way → IsStep (1 ∷ 2 ∷ 5 ∷ 4 ∷ []) k s t → Goes buffered s way t
    goes zero way s t at step = step_at buffered 1 2 1 (1 ∷ 2 ∷ 5 ∷ 4 ∷ []) 0 (rendezvous 1 0 2 0, refl, inl (refl, refl)) refl refl (map ByLink (1 ∷ 5 ∷ 4 ∷ 3 ∷ [])) refl way s t at step
    goes (suc zero) way s t at step = step_at buffered 2 5 5 (1 ∷ 2 ∷ 5 ∷ 4 ∷ []) 1 (rendezvous 5 0 2 1, refl, inr (refl, refl)) refl refl (map ByLink (1 ∷ 5 ∷ 4 ∷ 3 ∷ [])) refl way s t at step
    goes (suc (suc zero)) way s t at step = step_at buffered 5 4 4 (1 ∷ 2 ∷ 5 ∷ 4 ∷ []) 2 (queue 4 5, refl, inr (refl, refl)) refl refl (map ByLink (1 ∷ 5 ∷ 4 ∷ 3 ∷ [])) refl way s t at step
    goes (suc (suc (suc zero))) way s t at step = step_at buffered 4 1 3 (1 ∷ 2 ∷ 5 ∷ 4 ∷ []) 3 (rendezvous 1 1 4 0, refl, inr (refl, refl)) refl refl (map ByLink (1 ∷ 5 ∷ 4 ∷ 3 ∷ [])) refl way s t at step
    goes (suc (suc (suc (suc k)))) way s t at step = cc

    least : (k : ℕ) (first s : Who) → Some 1 ≡ Some first → slice_get (1 ∷ 2 ∷ 5 ∷ 4 ∷ []) k ≡ Some s → first ≤ s
    least zero first s a b = (let x : first ≡ s = cc in omega (arith, x))
    least (suc zero) first s a b = (let x : 1 ≡ first = cc in let y : 2 ≡ s = cc in omega (arith, x, y))
    least (suc (suc zero)) first s a b = (let x : 1 ≡ first = cc in let y : 5 ≡ s = cc in omega (arith, x, y))
    least (suc (suc (suc zero))) first s a b = (let x : 1 ≡ first = cc in let y : 4 ≡ s = cc in omega (arith, x, y))
    least (suc (suc (suc (suc k)))) first s a b = cc

-- A strand whose output leads to its own input is a closed walk by itself

ring_walk : IsClosedWalk ring (0 ∷ [])
ring_walk = (
  record {
    some = omega arith;
    once = λ j k s. apart_places (0 ∷ []) refl j k s;
    ways = map ByLink (0 ∷ []);
    count = refl;
    goes = goes;
    no_twice = λ j k n. apart_ways (0 ∷ []) refl j k n;
    closes = inr (inl feeds);
  },
  record { least = least; lesser = λ second last at_1 at_end. cc },
)
  where
    goes : (k : ℕ) (way : Way) (s t : Who) → slice_get (map ByLink (0 ∷ [])) k ≡ Some way → IsStep (0 ∷ []) k s t → Goes ring s way t
    goes zero way s t at step = step_at ring 0 0 0 (0 ∷ []) 0 (rendezvous 0 0 0 0, refl, inl (refl, refl)) refl refl (map ByLink (0 ∷ [])) refl way s t at step
    goes (suc k) way s t at step = cc

    feeds : EachFeeds ring (0 ∷ [])
    feeds zero s t step = (let a : Some 0 ≡ Some s = step.here in let b : Some 0 ≡ Some t = step.next in let x : 0 ≡ s = cc in let y : 0 ≡ t = cc in (0, rendezvous 0 0 0 0, refl, x, y))
    feeds (suc k) s t step = (let here = step.here in cc)

    least : (k : ℕ) (first s : Who) → Some 0 ≡ Some first → slice_get (0 ∷ []) k ≡ Some s → first ≤ s
    least zero first s a b = (let x : first ≡ s = cc in omega (arith, x))
    least (suc k) first s a b = cc
