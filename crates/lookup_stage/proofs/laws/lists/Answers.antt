use Rattle.std.proofs.Common.{refl}
use Rattle.stream_laws.specs.GivenLists.{given_by}
use Rattle.lookup_stage.proofs.laws.lists.Goals as goal

pub returns : goal.returns
returns c = λ details masters kind. c.look_up.ensures.each_list details masters kind (given_by c.args.inputs.now) (λ o. refl)
