-- A text has one list of faults, and one least of them.
use Rattle.std.proofs.Common.{◌≡◌, ℕ, List, length, ap, ◌∙◌, sym, subst, arith, inl, inr}
use Rattle.spec_scanner.specs.declared.fault.Fault.{Fault}
use Rattle.spec_scanner.specs.declared.item.Item.{Item}
use Rattle.spec_scanner.specs.Faults.{IsBefore, IsLeast}
use Rattle.spec_scanner.specs.Options.{Outset}
use Rattle.spec_scanner.specs.Reads.{AreFaults, HasBadOptions, HasBodyFaults, IsRefused, body_faults}
use Rattle.spec_scanner.proofs.Bare.{refused_bare}
use Rattle.spec_scanner.proofs.OneOutsets.{one_outset}
use Rattle.spec_scanner.proofs.OneReadings.{one_has_body}

-- two faults, each before the other, have one place and one number
both_before : (a b : Fault) → IsBefore a b → IsBefore b a → (a.place ≡ b.place) × (a.number ≡ b.number)
both_before a b (inl p) (inl q) = absurd (omega (arith, p, q))
both_before a b (inl p) (inr q) = (let same = q.0 in absurd (omega (arith, p, same)))
both_before a b (inr p) (inl q) = (let same = p.0 in absurd (omega (arith, q, same)))
both_before a b (inr p) (inr q) = (let at_most = p.1 in let at_least = q.1 in (p.0, omega (arith, at_most, at_least)))

module _ (text : List ℕ) where
  -- the options of a text with a body are good
  not_both : (a b : List Fault) → HasBadOptions text a → HasBodyFaults text b → ⊥
  not_both a b bad body =
      let same = one_outset text bad.outset body.has_body.outset bad.begins body.has_body.begins in
      let none = ap length (ap (λ (outset : Outset). outset.faults) same ∙ body.has_body.good) in
      let some = bad.some in
      let size = ap length bad.faults_are in
      absurd (omega (arith, none, size, some))

  same_faults : (a b : List Fault) → AreFaults text a → AreFaults text b → a ≡ b
  same_faults a b (inl first) (inl second) = first.1 ∙ sym second.1
  same_faults a b (inl first) (inr second) = absurd (omega (arith, first.0, second.0))
  same_faults a b (inr first) (inl second) = absurd (omega (arith, first.0, second.0))
  same_faults a b (inr (_, inl first)) (inr (_, inl second)) =
      first.faults_are ∙ ap (λ (outset : Outset). outset.faults) (one_outset text first.outset second.outset first.begins second.begins) ∙ sym second.faults_are
  same_faults a b (inr (_, inl first)) (inr (_, inr second)) = absurd (not_both a b first second)
  same_faults a b (inr (_, inr first)) (inr (_, inl second)) = absurd (not_both b a second first)
  same_faults a b (inr (_, inr first)) (inr (_, inr second)) =
      let same = one_has_body text first.items second.items first.tail second.tail first.has_body second.has_body in
      first.faults_are ∙ ap (λ (items : List Item). body_faults items first.tail (length text)) same.0
      ∙ ap (λ (tail : List ℕ). body_faults second.items tail (length text)) same.1 ∙ sym second.faults_are

  pub refusals_same : (a b : Fault) → IsRefused text a → IsRefused text b → a ≡ b
  refusals_same a b first second =
      let same = same_faults second.faults first.faults second.faults_are first.faults_are in
      let least = subst (IsLeast b) same second.least_is in
      let both = both_before a b (first.least_is.before b least.among) (least.before a first.least_is.among) in
      let argument : a.argument ≡ b.argument = refused_bare text a first ∙ sym (refused_bare text b second) in
      λ i. record { number = both.1 i; argument = argument i; place = both.0 i }
