-- The links of a chain: which strands have a link to their input and which from their output.
use Rattle.std.proofs.Common.{◌≡◌, ◌≢◌, ℕ, zero, suc, ◌+◌, ◌<◌, ◌≤◌, true, false, List, [], ◌∷◌, length, refl, ap, arith, eq-eqb, ne_eqb, inl, inr}
use Rattle.std.proofs.lemmas.Bool.{cases_eq}
use Rattle.pipe_model.specs.Nets.{rendezvous}
use Rattle.pipe_model.specs.Straight.{chain}
use Rattle.spec_scanner.proofs.StraightStages.{AreLater}
use Rattle.spec_scanner.proofs.StraightWords.{Spelled}
use Rattle.net_graph.specs.Nets.{is_linked_in, is_linked_out, joins_in}
use Rattle.net_graph.specs.Stands.{Stand}
use Rattle.net_graph.proofs.StraightPieces.{pieces_of}

-- a strand after the first of a chain, up to its last, has a link to its input
pub linked_in : (from count stage : ℕ) → from < stage → stage ≤ from + count → is_linked_in (chain from count) stage 0 ≡ true
linked_in from zero stage above within = absurd (omega arith)
linked_in from (suc count) stage above within = elim (cases_eq (suc from) stage) [
  | inl is ↦ rw (eq-eqb (suc from) stage is)
  | inr other ↦ rw (ne_eqb (suc from) stage other) (linked_in (suc from) count stage (omega arith) (omega arith))
]

-- a strand before the last of a chain, from its first on, has a link from its output
pub linked_out : (from count stage : ℕ) → from ≤ stage → stage < from + count → is_linked_out (chain from count) stage 0 ≡ true
linked_out from zero stage above within = absurd (omega arith)
linked_out from (suc count) stage above within = elim (cases_eq from stage) [
  | inl is ↦ rw (eq-eqb from stage is)
  | inr other ↦ rw (ne_eqb from stage other) (linked_out (suc from) count stage (omega arith) (omega arith))
]

-- the last strand of a chain has none
pub not_linked_out : (from count stage : ℕ) → from + count ≤ stage → is_linked_out (chain from count) stage 0 ≡ false
not_linked_out from zero stage past = refl
not_linked_out from (suc count) stage past =
    let other : from ≢ stage = λ same. omega arith in
    rw (ne_eqb from stage other) (not_linked_out (suc from) count stage (omega arith))

-- the links of stages without labels are a chain
pub links_later : (stands : List Stand) (before : ℕ) (stages : List Spelled) (strings : List (List ℕ)) → AreLater stages strings
    → joins_in stands before (pieces_of stages) ≡ chain before (length strings)
links_later stands before [] strings later = absurd later
links_later stands before (stage ∷ []) [] later = refl
links_later stands before (stage ∷ []) (string ∷ strings) later = absurd later
links_later stands before (stage ∷ (next ∷ stages)) [] later = absurd later
links_later stands before (stage ∷ (next ∷ stages)) (string ∷ strings) later =
    ap (λ links. rendezvous before 0 (suc before) 0 ∷ links) (links_later stands (suc before) (next ∷ stages) strings later.1)
