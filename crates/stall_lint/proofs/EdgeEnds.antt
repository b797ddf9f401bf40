-- The edges between the groups of a rooted net.
use Rattle.std.proofs.Common.{◌≡◌, ◌≢◌, ◌⊎◌, inl, inr, ℕ, refl, sym, ◌∙◌, ap, subst, arith}
use Rattle.pipe_model.specs.declared.net.Net.{Net}
use Rattle.pipe_model.specs.declared.net.Link.{Link}
use Rattle.pipe_model.specs.State.{Who}
use Rattle.stall_lint.specs.Circles.{AreEnds}
use Rattle.stall_lint.specs.Groups.{InOneGroup}
use Rattle.stall_lint.specs.Groups.InOneGroup.{alone, down, up}
use Rattle.stall_lint.specs.Rooted.{IsAbove, IsRooted}

-- the link of number j is the way up of one of the two groups that it joins
abbrev pub IsEdge : {net : Net} → IsRooted net → ℕ → Link → Type 0
IsEdge rooted j l = IsAbove rooted.label rooted.depth rooted.up j l.from l.to ⊎ IsAbove rooted.label rooted.depth rooted.up j l.to l.from

module _ (net : Net) (rooted : IsRooted net) where
  -- a group has one label
  pub one_label : (s t : Who) → InOneGroup net s t → rooted.label s ≡ rooted.label t
  one_label s _ alone = refl
  one_label s _ (down l inner chain) = one_label s l.from chain ∙ rooted.inner l inner
  one_label s _ (up l inner chain) = one_label s l.to chain ∙ sym (rooted.inner l inner)

  -- of two ends of an edge the one's group is above the other's
  pub edge_ends : (j : ℕ) (l : Link) (s t : Who) → IsEdge rooted j l → AreEnds l s t → IsAbove rooted.label rooted.depth rooted.up j s t ⊎ IsAbove rooted.label rooted.depth rooted.up j t s
  edge_ends j l s t edge (inl ends) = subst (λ z. IsAbove rooted.label rooted.depth rooted.up j z t ⊎ IsAbove rooted.label rooted.depth rooted.up j t z) ends.0
      (subst (λ z. IsAbove rooted.label rooted.depth rooted.up j l.from z ⊎ IsAbove rooted.label rooted.depth rooted.up j z l.from) ends.1 edge)
  edge_ends j l s t edge (inr ends) = subst (λ z. IsAbove rooted.label rooted.depth rooted.up j z t ⊎ IsAbove rooted.label rooted.depth rooted.up j t z) ends.1
      (subst (λ z. IsAbove rooted.label rooted.depth rooted.up j l.to z ⊎ IsAbove rooted.label rooted.depth rooted.up j z l.to) ends.0 (turned edge))
    where
      turned : IsEdge rooted j l → IsAbove rooted.label rooted.depth rooted.up j l.to l.from ⊎ IsAbove rooted.label rooted.depth rooted.up j l.from l.to
      turned (inl above) = inr above
      turned (inr above) = inl above

  -- so the ends of an edge stand in two groups
  pub apart : (j : ℕ) (l : Link) (s t : Who) → IsEdge rooted j l → AreEnds l s t → rooted.label s ≢ rooted.label t
  apart j l s t edge ends one = elim (edge_ends j l s t edge ends) [
    | inl above ↦ (let deeper = above.1 in let same = ap rooted.depth one in absurd (omega (arith, deeper, same)))
    | inr above ↦ (let deeper = above.1 in let same = ap rooted.depth one in absurd (omega (arith, deeper, same)))
  ]
