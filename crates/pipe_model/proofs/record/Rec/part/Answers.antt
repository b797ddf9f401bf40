-- A part of a part of bytes is a part of the bytes.
use Rattle.std.proofs.Common.{◌≡◌, ◌+◌, ◌-◌, ◌≤◌, length, take, drop, min, sym, ◌∙◌, ap, subst}
use Rattle.std.specs.Arc.{arc_value}
use Rattle.pipe_model.specs.Held.{bytes_held, IsHolding}
use Rattle.pipe_model.proofs.Shares.{part_of_part}
use Rattle.pipe_model.proofs.record.Rec.part.Goals as goal

pub returns-in_ok-try_clone-in-Shared : goal.returns-in_ok-try_clone-in-Shared
returns-in_ok-try_clone-in-Shared c =
    let shared = c.in-Shared in
    let whole = c.in_ok-try_clone-in-Shared.field-0 in
    let size = c.args.size in
    let from = c.args.from in
    let count = shared.count in
    let start = shared.start in
    let left : c.saturating_sub-left.result ≡ count - from = c.saturating_sub-left.ensures in
    let inside : start + count ≤ length (arc_value shared.whole).items = subst IsHolding shared.is c.self.invariant in
    ap (λ n. take n (drop (start + (count - c.saturating_sub-left.result)) (arc_value whole).items)) c.min.ensures
    ∙ ap (λ l. take (min size l) (drop (start + (count - l)) (arc_value whole).items)) left
    ∙ ap (λ z. take (min size (count - from)) (drop (start + (count - (count - from))) z.items)) c.in_ok-try_clone-in-Shared.ensures
    ∙ part_of_part (arc_value shared.whole).items start count from size inside
    ∙ ap (λ z. take size (drop from z)) (ap bytes_held (sym shared.is) ∙ c.self.view_is)
