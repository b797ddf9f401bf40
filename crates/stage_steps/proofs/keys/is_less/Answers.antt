use Rattle.std.proofs.Common.{refl, arith}
use Rattle.std.specs.Ordering.{nat_cmp, is_lt}
use Rattle.std.proofs.lemmas.Cmp.{same_from_slice_cmp_tested}
use Rattle.std.proofs.lemmas.Bool.Decides.{nat_tests}
use Rattle.pipe_model.specs.Keys.{is_less}
use Rattle.stage_steps.proofs.keys.is_less.Goals as goal

pub returns : goal.returns
returns c = same_from_slice_cmp_tested nat_cmp is_lt is_less refl (λ _ _. refl) (λ _ _. refl) (λ x y xs ys o h. grind (arith, nat_tests)) c.args.key.now c.args.other.now c.lt.result c.lt.ensures
