use Rattle.std.proofs.Common.{◌≡◌, ◌∙◌, ◌+◌, ◌++◌, ◌∷◌, [], ◌<◌, ap, sym, arith, take, decimal, get_or, length}
use Rattle.pipe_model.specs.declared.keys.Total.TheVariants.{Lines}
use Rattle.unique_sort.specs.Counting.{sums_line, fresh_tally}
use Rattle.unique_sort.proofs.CountSteps.{line_more, line_first}
use Rattle.unique_sort.proofs.count.sums_line.Goals.{then-k-gt0+in_ok-push, else-k-gt0}
use Rattle.unique_sort.proofs.count.sums_line.Goals as goal

pub loop-k-preserved : goal.loop-k-preserved
loop-k-preserved c =
    let tallies = c.args.tallies.now in
    let k = c.loop-k.k in
    let d = fresh_tally Lines in
    let number : c.as_bytes.result.now ≡ decimal (get_or tallies k d).sum = c.as_bytes.ensures.value ∙ c.format.ensures.text in
    let added : c.extend_from_slice.new.self.items ≡ c.if-k-gt0.line.items ++ decimal (get_or tallies k d).sum = c.in_ok-extend_from_slice.ensures.items ∙ ap (λ l. c.if-k-gt0.line.items ++ l) number in
    let low : k < length tallies = omega arith in
    elim c.if-k-gt0.branch [
      | then-k-gt0+in_ok-push w ↦
          added ∙ ap (λ l. l ++ decimal (get_or tallies k d).sum) (ap (λ v. v.items) w.line-is ∙ w.in_ok-push.ensures.items ∙ ap (λ l. l ++ 32 ∷ []) c.loop-k.invariant)
          ∙ sym (line_more k tallies d (omega (arith, w.if-k-gt0.true)) low)
      | else-k-gt0 w ↦
          let none : k ≡ 0 = omega (arith, w.if-k-gt0.false) in
          added ∙ ap (λ l. l ++ decimal (get_or tallies k d).sum) (ap (λ v. v.items) w.line-is ∙ c.loop-k.invariant ∙ ap (λ n. sums_line (take n tallies)) none)
          ∙ ap (λ n. decimal (get_or tallies n d).sum) none ∙ sym (line_first tallies d (omega (arith, low)))
          ∙ ap (λ n. sums_line (take (n + 1) tallies)) (sym none)
    ]
