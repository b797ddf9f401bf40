use Rattle.spec_scanner.proofs.EachText.{each_text}
use Rattle.spec_scanner.proofs.laws.each_text.Goals as goal

pub returns : goal.returns
returns c = each_text
