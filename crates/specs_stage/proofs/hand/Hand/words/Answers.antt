use Rattle.std.proofs.Common.{◌≡◌, ◌≤◌, ◌-◌, ◌⊎◌, inl, inr, ◌∙◌, ℕ, List, sym, ap, subst, arith, length, take, drop, min, refl, []}
use Rattle.pipe_model.specs.Ranges.{between, words_from, words_spanned}
use Rattle.specs_stage.specs.Hands.{AreEnough, AreFound, HasNoWord}
use Rattle.specs_stage.proofs.Hands.{no_more, words_named}
use Rattle.specs_stage.proofs.hand.Hand.words.Goals as goal
use Rattle.specs_stage.proofs.hand.Hand.words.Goals.{else-loop-word-test, then-loop-word-test+in-None}

pub returns-clause-part : goal.returns-clause-part
returns-clause-part c =
    let rec = c.args.self.now in
    let same = c.self.view_is in
    let x = c.loop-word-test.self-inside in
    let y = c.loop-word.self-inside in
    let count = c.wanted-count.result in
    let enough = subst (λ (r : List ℕ). AreEnough (length r) c.args.first c.args.last count) same c.wanted-count.ensures in
    let begin = c.min-begin.result in
    let end = c.min-end.result in
    let were = subst (λ (r : List ℕ). AreFound r y.rest.now y.found.items) c.loop-word.invariant.1 c.loop-word.invariant.0 in
    let are : AreFound rec x.rest.now x.found.items × ((count ≤ length x.found.items) ⊎ (x.rest.now ≡ [])) =
    elim c.loop-word-test.branch [
      | else-loop-word-test w ↦ rw w.self-inside-is (were, inl (omega (arith, c.len.ensures)))
      | then-loop-word-test+in-None w ↦ rw w.self-inside-is (no_more rec y.rest.now y.found.items were (subst (λ (r : List ℕ). HasNoWord (length r) y.rest.now) same w.in-None.ensures), inr refl)
    ] in
    c.spanned.ensures ∙ ap (λ l. words_spanned (take (end - begin) (drop begin l)) c.self.inside.rec.now) c.deref.ensures.value
    ∙ ap (λ l. words_spanned l c.self.inside.rec.now) (words_named c.args.first c.args.last count begin end rec x.rest.now x.found.items are.0 enough are.1 (c.min-end.ensures ∙ ap (min count) (c.len-2.ensures ∙ sym c.deref.ensures.len ∙ ap length c.deref.ensures.value)) (c.min-begin.ensures ∙ ap (min end) c.saturating_sub.ensures))
    ∙ ap (words_spanned (between c.args.first c.args.last (words_from 0 rec))) same
