use Rattle.std.proofs.Common.{◌≡◌, ◌≤◌, ◌∙◌, ℕ, true, false, List, length, sym, subst, AllPairs}
use Rattle.std.specs.List.Sorted.{IsPartitionPoint}
use Rattle.collate_stage.specs.Queues.{goes_before, sees_at, IsQueue}
use Rattle.collate_stage.proofs.Queues.{puts_in}
use Rattle.collate_stage.proofs.queue.put_in.Goals as goal

pub returns-in_ok-insert : goal.returns-in_ok-insert
returns-in_ok-insert c = λ is.
    let lanes = c.args.lanes.now in
    let queue = c.args.queue.now.items in
    let i = c.args.input in
    let n = c.place_of-place.result in
    let fits = subst (λ (q : List ℕ). n ≤ length q) c.deref.ensures.value c.place_of-place.ensures.bound in
    let parts = subst (λ (q : List ℕ). AllPairs (λ i j. goes_before lanes j i ≡ true) q → IsPartitionPoint (λ j. goes_before lanes i j ≡ true) (λ j. goes_before lanes i j ≡ false) q n) c.deref.ensures.value c.place_of-place.ensures.parts in
    subst (IsQueue lanes (sees_at lanes)) (sym c.in_ok-insert.ensures.items) (puts_in lanes i queue n fits (sym c.sees_at.ensures ∙ c.if-sees_at.true) (parts is.order) is)
