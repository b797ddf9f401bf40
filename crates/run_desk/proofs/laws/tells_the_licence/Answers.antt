use Rattle.run_desk.proofs.Sees.{seen_is}
use Rattle.run_desk.proofs.laws.tells_the_licence.Goals as goal

pub returns : goal.returns
returns c = λ net texts st left desk formed kept s k. seen_is net texts st left desk formed kept s k
