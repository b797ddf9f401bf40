use Rattle.std.proofs.Common.{◌∙◌, ◌+◌, ◌-◌, sym, ap, take, drop}
use Rattle.pipe_model.specs.Ranges.{between}
use Rattle.specs_stage.proofs.Hands.{up_to_last}
use Rattle.specs_stage.proofs.hand.wanted.Goals as goal

pub returns-in-Some : goal.returns-in-Some
returns-in-Some c = λ words short.
    ap (λ n. drop (c.args.first - 1) (take (n + c.saturating_sub-in-Some.result) words)) c.saturating_sub.ensures
    ∙ ap (λ n. drop (c.args.first - 1) (take ((c.args.first - 1) + n) words)) c.saturating_sub-in-Some.ensures
    ∙ up_to_last c.args.len c.args.first c.in-Some.last words short
    ∙ ap (λ last. between c.args.first last words) (sym c.in-Some.is)
