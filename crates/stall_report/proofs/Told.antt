-- The wait lines of strands from a number on.
use Rattle.std.proofs.Common.{◌≡◌, ℕ, zero, suc, ◌+◌, Bool, true, false, cond, List, [], ◌∷◌, length, drop, refl, sym, ◌∙◌, ap, subst, arith, Some, None, Option, slice_get}
use Rattle.std.specs.List.{filter_map, cons_option}
use Rattle.std.proofs.Math.Seq.{drop-cons}
use Rattle.std.proofs.lemmas.Option.{get_or_from_slice_get, slice_get_within}
use Rattle.pipe_model.specs.declared.net.Strand.{Strand}
use Rattle.pipe_model.specs.Event.{Want, has_ended}
use Rattle.pipe_model.specs.Next.{next, wanted_by}
use Rattle.pipe_model.specs.Reply.{WaitLine as Waiter, replied, waits_from}
use Rattle.pipe_model.specs.State.{State, Who, past}
use Rattle.pipe_model.specs.Table.{form}
use Rattle.stall_report.specs.Waits.{wait_line, wait_lines}
use Rattle.stall_report.proofs.Wanting.{IsWaiting}

-- a reply tells those that wait
pub replied_waits : (st : State) (strands : List Strand) (waits : List Waiter) → (replied st strands waits).waits ≡ waits
replied_waits st strands [] = refl
replied_waits st strands (w ∷ ws) = refl

module _ (st : State) where
  -- one strand more: who has ended wants nothing
  line_more : (s : Who) (p : Strand) (ps : List Strand) → wait_lines (waits_from st s (p ∷ ps)) ≡ cons_option (wait_line (s, next p (past st s))) (wait_lines (waits_from st (suc s) ps))
  line_more s p ps =
      let rest = waits_from st (suc s) ps in
      let wanted : Option Want = wanted_by (form p).row p.ports.has_output (past st s) in
      elim (has_ended (past st s)) as (λ b. filter_map wait_line (cond b rest ((s, cond b None wanted) ∷ rest)) ≡ cons_option (wait_line (s, cond b None wanted)) (filter_map wait_line rest)) [ true ↦ refl | false ↦ refl ]

  pub line_at : (s : Who) (ps : List Strand) (p : Strand) → slice_get ps s ≡ Some p → wait_lines (waits_from st s (drop s ps)) ≡ cons_option (wait_line (s, next p (past st s))) (wait_lines (waits_from st (suc s) (drop (suc s) ps)))
  line_at s ps p at =
      let here : drop s ps ≡ p ∷ drop (suc s) ps = drop-cons ps s p (slice_get_within ps s p at) ∙ ap (λ x. x ∷ drop (suc s) ps) (get_or_from_slice_get ps s p p at) in
      ap (λ z. wait_lines (waits_from st s z)) here ∙ line_more s p (drop (suc s) ps)

  -- all have lines where each that hasn't ended has one
  pub all_told : (s : Who) (ps : List Strand) → ((k t : ℕ) (p : Strand) → t ≡ s + k → slice_get ps k ≡ Some p → has_ended (past st t) ≡ false → IsWaiting st t p)
      → length (wait_lines (waits_from st s ps)) ≡ length (waits_from st s ps)
  all_told s [] each = refl
  all_told s (p ∷ ps) each = by_end (has_ended (past st s)) refl (all_told (suc s) ps (λ k t q is at. each (suc k) t q (omega (arith, is)) at))
    where
      rest : List Waiter
      rest = waits_from st (suc s) ps

      by_end : (b : Bool) → has_ended (past st s) ≡ b → length (wait_lines rest) ≡ length rest → length (wait_lines (waits_from st s (p ∷ ps))) ≡ length (waits_from st s (p ∷ ps))
      by_end true is more = subst (λ b. length (filter_map wait_line (cond b rest ((s, next p (past st s)) ∷ rest))) ≡ length (cond b rest ((s, next p (past st s)) ∷ rest))) (sym is) more
      by_end false is more =
          let line = each 0 s p (omega arith) refl is in
          subst (λ b. length (filter_map wait_line (cond b rest ((s, next p (past st s)) ∷ rest))) ≡ length (cond b rest ((s, next p (past st s)) ∷ rest))) (sym is)
          (ap (λ o. length (cons_option o (wait_lines rest))) line.1 ∙ ap suc more)

  -- nobody waits where all have ended
  pub none_waits : (s : Who) (ps : List Strand) → ((k t : ℕ) (p : Strand) → t ≡ s + k → slice_get ps k ≡ Some p → has_ended (past st t) ≡ true) → waits_from st s ps ≡ []
  none_waits s [] each = refl
  none_waits s (p ∷ ps) each =
      ap (λ b. cond b (waits_from st (suc s) ps) ((s, next p (past st s)) ∷ waits_from st (suc s) ps)) (each 0 s p (omega arith) refl)
      ∙ none_waits (suc s) ps (λ k t q is at. each (suc k) t q (omega (arith, is)) at)

  -- and only there
  pub ended_all : (s : Who) (ps : List Strand) → waits_from st s ps ≡ [] → (k t : ℕ) (p : Strand) → t ≡ s + k → slice_get ps k ≡ Some p → has_ended (past st t) ≡ true
  ended_all s [] none k t p is at = cc
  ended_all s (q ∷ ps) none k t p is at = by_place k is at (by_end (has_ended (past st s)) refl) (λ none j is at. ended_all (suc s) ps none j t p is at)
    where
      by_end : (b : Bool) → has_ended (past st s) ≡ b → (has_ended (past st s) ≡ true) × (waits_from st (suc s) ps ≡ [])
      by_end true ended = (ended, sym (ap (λ b. cond b (waits_from st (suc s) ps) ((s, next q (past st s)) ∷ waits_from st (suc s) ps)) ended) ∙ none)
      by_end false ended = let some : (s, next q (past st s)) ∷ waits_from st (suc s) ps ≡ [] = sym (ap (λ b. cond b (waits_from st (suc s) ps) ((s, next q (past st s)) ∷ waits_from st (suc s) ps)) ended) ∙ none in cc

      by_place : (k : ℕ) → t ≡ s + k → slice_get (q ∷ ps) k ≡ Some p → (has_ended (past st s) ≡ true) × (waits_from st (suc s) ps ≡ [])
          → (waits_from st (suc s) ps ≡ [] → (j : ℕ) → t ≡ suc s + j → slice_get ps j ≡ Some p → has_ended (past st t) ≡ true) → has_ended (past st t) ≡ true
      by_place zero is at over later = subst (λ z. has_ended (past st z) ≡ true) (let e : s ≡ t = omega (arith, is) in e) over.0
      by_place (suc k) is at over later = later over.1 k (omega (arith, is)) at
