use Rattle.call_meaning.proofs.LineMeanings.{line_means}
use Rattle.call_meaning.proofs.meaning.straight_line_means.Goals as goal

pub returns : goal.returns
returns c = λ words spec steps strings before outcome effect trace run straight. line_means words spec steps strings before trace run straight outcome effect
