use Rattle.std.proofs.Common.{ℕ, ◌-◌, ◌≤◌, length, sym, subst, Some}
use Rattle.pipe_model.specs.BlockRows.{cut_by_lengths}
use Rattle.block_stages.specs.Cutting.{IsFirst}
use Rattle.block_stages.proofs.Firsts.{a_length}
use Rattle.block_stages.proofs.lengths.first_by_length.Goals as goal

pub returns-clause-first : goal.returns-clause-first
returns-clause-first c =
    let text = c.args.text.now in
    let is = c.length_at-next.ensures in
    subst (λ (n : ℕ). IsFirst (cut_by_lengths 0) text (Some (record { from = 2; size = n - 2; next = n }))) (sym is)
    (a_length text (subst (λ (n : ℕ). 2 ≤ n) is c.if-next-lt2.false) (subst (λ (n : ℕ). n ≤ length text) is c.if-text-next.false))
