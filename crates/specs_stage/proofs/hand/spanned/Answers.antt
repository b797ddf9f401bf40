use Rattle.std.proofs.Common.{◌∙◌, ap, take, drop}
use Rattle.pipe_model.specs.Ranges.{Place}
use Rattle.specs_stage.proofs.Hands.{span_is}
use Rattle.specs_stage.proofs.hand.spanned.Goals as goal

pub returns : goal.returns
returns c =
    let from = c.first.inside.from in
    let to = c.last.inside.to in
    c.front.ensures ∙ ap (take c.saturating_sub.result) c.behind.ensures ∙ ap (λ k. take k (drop from c.args.rec.now)) c.saturating_sub.ensures
    ∙ span_is c.args.words.now c.args.rec.now c.index-words-0.result c.index-words-words.result from to c.is_empty.result c.is_empty.ensures c.if-is_empty.false c.index-words-0.is c.index-words-words.is
    (ap (λ (p : Place). p.0) c.first.view_is) (ap (λ (p : Place). p.1) c.last.view_is)
