use Rattle.std.proofs.Common.{◌∙◌}
use Rattle.spec_scanner.proofs.Bodies.{item_of}
use Rattle.spec_scanner.proofs.body.next_item.Goals as goal

pub returns : goal.returns
returns c =
    item_of _ c.args.at c.args.text.now c.in_ok-byte.rest.now c.in_ok-byte.byte.now c.copied.result c.in_ok-front.front c.from.result c.in_ok-byte.ensures.cases.0
    (c.copied.ensures ∙ c.first.ensures.value) c.in_ok-front.ensures c.from.ensures
