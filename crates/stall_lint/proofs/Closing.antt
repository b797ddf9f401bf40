-- An edge to a group on the way closes a circle.
use Rattle.std.proofs.Common.{◌≡◌, ◌≢◌, ◌⊎◌, inl, inr, ℕ, zero, suc, ◌+◌, ◌-◌, ◌≤◌, List, [], ◌∷◌, ◌++◌, drop, length, length-drop, refl, sym, ◌∙◌, ap, subst, arith, Some, slice_get}
use Rattle.std.proofs.lemmas.Option.{slice_get_within}
use Rattle.pipe_model.specs.declared.net.Net.{Net}
use Rattle.pipe_model.proofs.Lists.{length_more}
use Rattle.pipe_model.proofs.Numbers.{equal_or_not}
use Rattle.stall_lint.specs.declared.hops.Hop.{Hop}
use Rattle.stall_lint.specs.Circles.{IsCircle, IsHop, next_hop}
use Rattle.stall_lint.specs.Grouped.{AreLabels}
use Rattle.stall_lint.specs.Groups.{InOneGroup}
use Rattle.stall_lint.specs.Growing.{IsGrowing, IsOpen, IsReachedBy, IsUp, LeadsTo, Places}
use Rattle.stall_lint.specs.Listed.{Joins}
use Rattle.stall_lint.proofs.Branches.{hop_joins, split_last}
use Rattle.stall_lint.proofs.Listing.{joins_two}
use Rattle.stall_lint.proofs.Places.{one_depth}
use Rattle.stall_lint.proofs.Trails.{after_last, after_other}

-- what stands behind the first of a list
get_drop : {A : Type 0} (d : ℕ) (xs : List A) (k : ℕ) → slice_get (drop d xs) k ≡ slice_get xs (d + k)
get_drop zero xs k = ap (slice_get xs) (omega arith)
get_drop (suc d) [] k = refl
get_drop (suc d) (x ∷ xs) k = get_drop d xs k ∙ ap (slice_get (x ∷ xs)) (let e : suc (d + k) ≡ suc d + k = omega arith in e)

module _ (net : Net) (labels : List ℕ) (are : AreLabels net labels) (edges : List (List ℕ)) (places : Places) (way : List Hop) (at : ℕ) (growing : IsGrowing net labels edges places way at) (closing : Hop) (number next depth : ℕ) (leads : LeadsTo net labels closing number at next) (waits : IsOpen places next depth) (fresh : ¬ IsReachedBy places at number) where
  abbrev hops : List Hop
  hops = drop depth way ++ closing ∷ []

  pub deep : depth ≤ length way
  deep = growing.walk.within next depth waits

  long : length hops ≡ suc (length way - depth)
  long = length_more (drop depth way) closing ∙ ap suc (length-drop depth way)

  -- a hop of the circle leads from the group at its depth to that of the next hop
  record IsPlaced (k : ℕ) (hop : Hop) : Type 0 where
    from : ℕ
    to : ℕ
    goes : LeadsTo net labels hop hop.link from to
    before : IsOpen places from (depth + k)
    after : IsOpen places to (depth + next_hop hops k)
    up : suc k ≢ length hops → IsUp places hop.link to from
    last : suc k ≡ length hops → (from ≡ at) × (hop.link ≡ number)

  placed : (k : ℕ) (hop : Hop) → slice_get hops k ≡ Some hop → IsPlaced k hop
  placed k hop here = elim (split_last (drop depth way) closing k hop here) [ inl inside ↦ on_way inside | inr last ↦ subst (IsPlaced k) last.1 (the_last last.0) ]
    where
      on_way : slice_get (drop depth way) k ≡ Some hop → IsPlaced k hop
      on_way inside =
          let lt = slice_get_within (drop depth way) k hop inside in
          let size = length-drop depth way in
          let other : suc k ≢ length hops = (λ e. omega (arith, e, long, lt, size)) in
          let on = growing.walk.on (depth + k) hop (sym (get_drop depth way k) ∙ inside) in
          let next_is = after_other (length hops) k other in
          record {
            from = on.from;
            to = on.to;
            goes = on.leads;
            before = on.before;
            after = subst (IsOpen places on.to) (omega (arith, next_is)) on.after;
            up = λ _. on.up;
            last = λ e. absurd (other e);
          }

      the_last : k ≡ length (drop depth way) → IsPlaced k closing
      the_last is =
          let size = length-drop depth way in
          let end : suc k ≡ length hops = omega (arith, is, long, size) in
          let next_is = after_last (length hops) k end in
          record {
            from = at;
            to = next;
            goes = record { over = leads.over; link = refl; exit = leads.exit; entry = leads.entry };
            before = subst (IsOpen places at) (omega (arith, is, size, deep)) growing.walk.here;
            after = subst (IsOpen places next) (omega (arith, next_is)) waits;
            up = λ other. absurd (other end);
            last = λ _. (refl, leads.link);
          }

  -- no two hops have the same next one
  next_one : (j k : ℕ) → next_hop hops j ≡ next_hop hops k → j ≡ k
  next_one j k same = by (equal_or_not (suc j) (length hops)) (equal_or_not (suc k) (length hops))
    where
      by : (suc j ≡ length hops) ⊎ (suc j ≢ length hops) → (suc k ≡ length hops) ⊎ (suc k ≢ length hops) → j ≡ k
      by (inl a) (inl b) = omega (arith, a, b)
      by (inl a) (inr b) = (let x = after_last (length hops) j a in let y = after_other (length hops) k b in absurd (omega (arith, x, y, same)))
      by (inr a) (inl b) = (let x = after_other (length hops) j a in let y = after_last (length hops) k b in absurd (omega (arith, x, y, same)))
      by (inr a) (inr b) = (let x = after_other (length hops) j a in let y = after_other (length hops) k b in omega (arith, x, y, same))

  -- the last hop's edge isn't the one over which the group was reached from which it goes
  last_fresh : (j k : ℕ) (hop other : Hop) (a : IsPlaced j hop) (b : IsPlaced k other) → hop.link ≡ other.link → a.from ≡ b.to → suc j ≡ length hops → suc k ≢ length hops → ⊥
  last_fresh j k hop other a b same meets end inside =
      let last = a.last end in
      let up = b.up inside in
      fresh (up.below, subst (λ z. slice_get places z ≡ Some (Some up.below)) (sym meets ∙ last.0) up.from, up.up ∙ ap Some (sym same ∙ last.1))

  once : (j k : ℕ) (hop other : Hop) → slice_get hops j ≡ Some hop → slice_get hops k ≡ Some other → hop.link ≡ other.link → j ≡ k
  once j k hop other at_j at_k same =
      let a = placed j hop at_j in
      let b = placed k other at_k in
      let one = hop_joins net labels are hop hop.link a.from a.to a.goes in
      let two = subst (λ z. Joins net labels z b.from b.to) (sym same) (hop_joins net labels are other other.link b.from b.to b.goes) in
      elim (joins_two net labels hop.link a.from a.to b.from b.to one two) [
        | inl alike ↦ (let deeps = one_depth places b.from (depth + j) (depth + k) (subst (λ z. IsOpen places z (depth + j)) alike.0 a.before) b.before in omega (arith, deeps))
        | inr turned ↦ (
            let up = one_depth places b.to (depth + j) (depth + next_hop hops k) (subst (λ z. IsOpen places z (depth + j)) turned.0 a.before) b.after in
            let down = one_depth places b.from (depth + next_hop hops j) (depth + k) (subst (λ z. IsOpen places z (depth + next_hop hops j)) turned.1 a.after) b.before in
            by a b turned.0 turned.1 up down (equal_or_not (suc j) (length hops)) (equal_or_not (suc k) (length hops)))
      ]
    where
      by : (a : IsPlaced j hop) (b : IsPlaced k other) → a.from ≡ b.to → a.to ≡ b.from → depth + j ≡ depth + next_hop hops k → depth + next_hop hops j ≡ depth + k → (suc j ≡ length hops) ⊎ (suc j ≢ length hops) → (suc k ≡ length hops) ⊎ (suc k ≢ length hops) → j ≡ k
      by a b meets met up down (inl x) (inl y) = omega (arith, x, y)
      by a b meets met up down (inl x) (inr y) = absurd (last_fresh j k hop other a b same meets x y)
      by a b meets met up down (inr x) (inl y) = absurd (last_fresh k j other hop b a (sym same) (sym met) y x)
      by a b meets met up down (inr x) (inr y) = (let p = after_other (length hops) j x in let q = after_other (length hops) k y in absurd (omega (arith, p, q, up, down)))

  pub closes : IsCircle net hops
  closes = record { some = omega (arith, long); each = each; joined = joined; apart = apart; once = once }
    where
      each : (k : ℕ) (hop : Hop) → slice_get hops k ≡ Some hop → IsHop net hop
      each k hop here = (placed k hop here).goes.over

      joined : (k : ℕ) (hop other : Hop) → slice_get hops k ≡ Some hop → slice_get hops (next_hop hops k) ≡ Some other → InOneGroup net hop.entry other.exit
      joined k hop other here there =
          let a = placed k hop here in
          let b = placed (next_hop hops k) other there in
          let one = growing.walk.one a.to b.from (depth + next_hop hops k) a.after b.before in
          are.one hop.entry other.exit b.from (subst (λ z. slice_get labels hop.entry ≡ Some z) one a.goes.entry) b.goes.exit

      apart : (j k : ℕ) (hop other : Hop) → slice_get hops j ≡ Some hop → slice_get hops k ≡ Some other → InOneGroup net hop.entry other.entry → j ≡ k
      apart j k hop other here there group =
          let a = placed j hop here in
          let b = placed k other there in
          let same = are.same hop.entry other.entry a.to b.to a.goes.entry b.goes.entry group in
          let deeps = one_depth places b.to (depth + next_hop hops j) (depth + next_hop hops k) (subst (λ z. IsOpen places z (depth + next_hop hops j)) same a.after) b.after in
          next_one j k (omega (arith, deeps))
