use Rattle.std.proofs.Common.{◌||◌, ◌∙◌, sym, ap, drop}
use Rattle.pipe_model.specs.Parts.{last_part}
use Rattle.block_stages.specs.Cutting.{parts_by, stops_by}
use Rattle.block_stages.proofs.Ending.{stops_as}
use Rattle.block_stages.proofs.blocks.BlocksLists.stops.Goals as goal

pub returns-else-self : goal.returns-else-self
returns-else-self c = λ over t recs acts is.
    let x = c.args.self.now in
    c.stops_at.ensures ∙ ap (λ text. stops_by x.cuts (last_part (parts_by x.cuts text))) (c.behind.ensures ∙ ap (drop x.at) c.deref.ensures.value)
    ∙ ap (λ b. b || stops_by x.cuts (last_part (parts_by x.cuts (drop x.at x.text.items)))) (sym c.if-self.false)
    ∙ stops_as x t recs acts over is
