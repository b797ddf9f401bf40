use Rattle.std.proofs.Common.{sym, subst}
use Rattle.std.proofs.lemmas.Result.{IfOk-weaker}
use Rattle.stage_table.specs.BuiltIn.{HasFewPlaces}
use Rattle.stage_tests.proofs.played.strand_of.Goals as goal

pub returns : goal.returns
returns c = IfOk-weaker c.of_part.result _ _ (λ made same. subst HasFewPlaces (sym same) (record { inputs = c.requires.inputs; outputs = c.requires.outputs })) c.of_part.ensures
