use Rattle.std.proofs.Common.{refl}
use Rattle.stream_laws.specs.GivenLists.{given_by}
use Rattle.collate_stage.proofs.laws.lists.Goals as goal

pub returns-clause-merges : goal.returns-clause-merges
returns-clause-merges c = λ range kind. c.merge.ensures.each_list range kind (given_by c.args.inputs.now) (λ o. refl)

pub returns-clause-collates : goal.returns-clause-collates
returns-clause-collates c = λ masters details kind. c.collate.ensures.each_list masters details kind (given_by c.args.inputs.now) (λ o. refl)
