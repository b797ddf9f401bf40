-- Strands of which each is fed by the next and the last by the first.
use Rattle.std.proofs.Common.{◌≡◌, inr, ℕ, ◌<◌, List, length, map, refl, sym, ◌∙◌, ap, subst, arith, Option, Some, None, slice_get}
use Rattle.std.specs.List.{range_with_len}
use Rattle.std.specs.Prelude.{unwrap_or}
use Rattle.std.proofs.lemmas.List.FromFn.{length-map-range_with_len, get_or-map-range_with_len}
use Rattle.std.proofs.lemmas.Option.{slice_get_within, unwrap_or-slice_get}
use Rattle.pipe_model.specs.declared.net.Net.{Net}
use Rattle.pipe_model.specs.declared.net.Link.{Link}
use Rattle.pipe_model.specs.State.{Who}
use Rattle.pipe_model.proofs.Lists.{at_some}
use Rattle.stall_lint.specs.ClosedWalks.{Goes, IsRound, IsStep, Way, behind}
use Rattle.stall_lint.specs.ClosedWalks.Way.{ByLink}
use Rattle.stall_lint.specs.LooksBack.{IsFed}
use Rattle.stall_lint.proofs.Trails.{after_within}

-- strands without repeats of which each is fed by the next and the last by the first are a round
module _ (net : Net) (walk : List Who) (some : 0 < length walk) (once : (j k : ℕ) (s : Who) → slice_get walk j ≡ Some s → slice_get walk k ≡ Some s → j ≡ k) (fed : (k : ℕ) (s t : Who) → IsStep walk k s t → IsFed net s t) where
  -- the number of the link behind a place
  number_by : (k : ℕ) (m n : Option Who) → slice_get walk k ≡ m → slice_get walk (behind walk k) ≡ n → ℕ
  number_by k (Some s) (Some t) here next = (fed k s t (record { here = here; next = next })).0
  number_by k (Some s) None here next = 0
  number_by k None n here next = 0

  abbrev number : ℕ → ℕ
  number k = number_by k (slice_get walk k) (slice_get walk (behind walk k)) refl refl

  -- that link leads from the next strand to the one at the place
  record Leads (j : ℕ) (s t : Who) : Type 0 where
    link : Link
    at : slice_get net.links j ≡ Some link
    from_is : link.from ≡ t
    to_is : link.to ≡ s

  leads : (k : ℕ) (s t : Who) → IsStep walk k s t → Leads (number k) s t
  unfolding number_by
  leads k s t step = by (slice_get walk k) (slice_get walk (behind walk k)) refl refl step.here step.next
    where
      by : (m n : Option Who) (here : slice_get walk k ≡ m) (next : slice_get walk (behind walk k) ≡ n) → m ≡ Some s → n ≡ Some t → Leads (number_by k m n here next) s t
      by None n here next is_s is_t = cc
      by (Some a) None here next is_s is_t = cc
      by (Some a) (Some b) here next is_s is_t =
          let f = fed k a b (record { here = here; next = next }) in
          let x : a ≡ s = cc in
          let y : b ≡ t = cc in
          record { link = f.1; at = f.2; from_is = f.3 ∙ y; to_is = f.4 ∙ x }

  abbrev ways : List Way
  ways = map (λ k. ByLink (number k)) (range_with_len 0 (length walk))

  ways_long : length ways ≡ length walk
  ways_long = length-map-range_with_len (λ k. ByLink (number k)) 0 (length walk)

  ways_at : (k : ℕ) (w : Way) → slice_get ways k ≡ Some w → (k < length walk) × (w ≡ ByLink (number k))
  ways_at k w at =
      let n = ways_long in
      let place = slice_get_within ways k w at in
      let lt : k < length walk = omega (arith, n, place) in
      (lt, ap (λ m. unwrap_or m (ByLink 0)) (sym at) ∙ unwrap_or-slice_get ways k (ByLink 0) ∙ get_or-map-range_with_len (λ k. ByLink (number k)) 0 (length walk) k k (ByLink 0) lt (omega arith))

  -- a link leads to one strand
  one_place : (j k n : ℕ) → (j < length walk) × (ByLink n ≡ ByLink (number j)) → (k < length walk) × (ByLink n ≡ ByLink (number k)) → j ≡ k
  one_place j k n p q =
      let s = at_some walk j p.0 in
      let s_next = at_some walk (behind walk j) (after_within (length walk) j p.0) in
      let t = at_some walk k q.0 in
      let t_next = at_some walk (behind walk k) (after_within (length walk) k q.0) in
      let a = leads j s.0 s_next.0 (record { here = s.1; next = s_next.1 }) in
      let b = leads k t.0 t_next.0 (record { here = t.1; next = t_next.1 }) in
      let x : n ≡ number j = (let e = p.1 in cc) in
      let y : n ≡ number k = (let e = q.1 in cc) in
      let links : Some a.link ≡ Some b.link = sym a.at ∙ ap (slice_get net.links) (sym x ∙ y) ∙ b.at in
      let link : a.link ≡ b.link = cc in
      let strand : s.0 ≡ t.0 = sym a.to_is ∙ ap (λ l. l.to) link ∙ b.to_is in
      once j k s.0 s.1 (t.1 ∙ ap Some (sym strand))

  pub fed_round : IsRound net walk
  fed_round = record {
    some = some;
    once = once;
    ways = ways;
    count = ways_long;
    goes = λ k w s t at step. (let to = leads k s t step in subst (λ z. Goes net s z t) (sym (ways_at k w at).1) (to.link, to.at, inr (to.from_is, to.to_is)));
    no_twice = λ j k n a b. one_place j k n (ways_at j (ByLink n) a) (ways_at k (ByLink n) b);
    closes = inr (inr fed);
  }
