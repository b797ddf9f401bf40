use Rattle.std.proofs.Common.{◌+◌, ◌-◌, length, ◌∙◌, ap}
use Rattle.block_stages.specs.Delimiting.{width_of}
use Rattle.block_stages.proofs.AtString.{searched_whole}
use Rattle.block_stages.proofs.strings.Delimiter.searched_in.Goals as goal

pub returns : goal.returns
returns c = λ whole.
    let text = c.args.text.now in
    searched_whole c.args.self.now text c.saturating_sub.result (c.saturating_sub.ensures ∙ ap (λ w. (length text + 1) - w) (c.self.invariant ∙ ap width_of c.self.view_is)) whole
