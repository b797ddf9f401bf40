use Rattle.std.proofs.Common.{◌≡◌, ℕ, ◌+◌, ◌<◌, cond, List, [], ◌∷◌, length, get_or, drop, refl, sym, ◌∙◌, ap, arith}
use Rattle.std.proofs.lemmas.Bool.{ne_eqb}
use Rattle.std.proofs.lemmas.List.{drop_more, drop_all}
use Rattle.pipe_model.specs.EditingRows.{mapped}
use Rattle.edit_stages.proofs.xlate.mapped.Goals as goal

-- one place further on, where another byte stands
one_further : (first second : List ℕ) (at b : ℕ) → at < length first → at < length second → ¬ (get_or first at 0 ≡ b) → mapped (drop (at + 1) first) (drop (at + 1) second) b ≡ mapped (drop at first) (drop at second) b
one_further first second at b low there other = sym (
    ap (λ l. mapped l (drop at second) b) (drop_more first at 0 low) ∙ ap (λ l. mapped (get_or first at 0 ∷ drop (at + 1) first) l b) (drop_more second at 0 there)
    ∙ ap (λ t. cond t (get_or second at 0) (mapped (drop (at + 1) first) (drop (at + 1) second) b)) (ne_eqb (get_or first at 0) b other)
    )

-- where nothing stands in the second, the byte stays
stays : (first : List ℕ) (b : ℕ) → mapped first [] b ≡ b
stays [] b = refl
stays (c ∷ first) b = refl

pub loop-at-preserved : goal.loop-at-preserved
loop-at-preserved c = record {
  within = omega arith;
  mapped = one_further c.args.first.now c.args.second.now c.loop-at.at c.args.byte c.loop-at-test.true c.if-at-second.true c.if-first-at.false ∙ c.loop-at.invariant.mapped;
}

pub returns-else-at-second : goal.returns-else-at-second
returns-else-at-second c =
    let rest = drop c.loop-at.at c.args.first.now in
    sym (ap (λ l. mapped rest l c.args.byte) (drop_all c.loop-at.at c.args.second.now c.if-at-second.false) ∙ stays rest c.args.byte) ∙ c.loop-at.invariant.mapped
