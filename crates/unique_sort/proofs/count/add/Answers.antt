use Rattle.std.proofs.Common.{◌≡◌, ℕ, ◌∙◌, ◌+◌, ◌-◌, ◌<◌, ◌^◌, ap, arith, length, min, get_or, slice_set}
use Rattle.pipe_model.specs.declared.keys.Total.TheVariants.{Lines}
use Rattle.unique_sort.specs.declared.count.Tally.{Tally}
use Rattle.unique_sort.specs.Counting.{tally_with, fresh_tally}
use Rattle.unique_sort.proofs.CountSteps.{next_added}
use Rattle.unique_sort.proofs.count.add.Goals as goal

abbrev with_sum : Tally → ℕ → Tally
with_sum tally n = record tally { sum = n }

pub loop-tally-preserved : goal.loop-tally-preserved
loop-tally-preserved c =
    let rec = c.args.rec.now in
    let tallies = c.args.tallies.now.items in
    let k = c.loop-tally.tally-index in
    let d = fresh_tally Lines in
    let tally = get_or c.loop-tally.tally-items k d in
    let one : with_sum tally c.saturating_add-tally.result ≡ tally_with rec tally = ap (with_sum tally) (c.saturating_add-tally.ensures ∙ ap (λ n. min (tally.sum + n) (2 ^ 128 - 1)) c.added_by.ensures) in
    let low : k < length tallies = omega (arith, ap length c.deref_mut-tally-items.ensures.value) in
    ap (λ l. slice_set l k (with_sum tally c.saturating_add-tally.result)) c.loop-tally.invariant
    ∙ next_added rec k tallies (with_sum tally c.saturating_add-tally.result) d low (one ∙ ap (λ l. tally_with rec (get_or l k d)) c.loop-tally.invariant)
