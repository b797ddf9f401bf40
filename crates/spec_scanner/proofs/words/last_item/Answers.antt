use Rattle.std.proofs.Common.{◌∙◌}
use Rattle.spec_scanner.proofs.Prefixes.{last_is}
use Rattle.spec_scanner.proofs.words.last_item.Goals as goal

pub returns : goal.returns
returns c = c.copied.ensures ∙ c.last.ensures.value ∙ last_is c.args.items.now
