use Rattle.spec_scanner.proofs.Arguments.{places_rise}
use Rattle.spec_scanner.proofs.laws.places_rise.Goals as goal

pub returns : goal.returns
returns c = places_rise
