use Rattle.std.proofs.Common.{◌∙◌, sym, arith}
use Rattle.std.proofs.lemmas.List.Sums.{position_or_len_is}
use Rattle.pipe_model.specs.Members.{has}
use Rattle.edit_stages.proofs.split.run_len.Goals as goal

pub returns-then-has : goal.returns-then-has
returns-then-has c =
    sym (position_or_len_is (has c.args.set.now) c.args.text.now c.loop-at.at 0 c.loop-at.invariant.within c.loop-at.invariant.outside (λ below. sym c.has.ensures ∙ c.if-has.true))

pub returns : goal.returns
returns c =
    sym (position_or_len_is (has c.args.set.now) c.args.text.now c.loop-at.at 0 c.loop-at.invariant.within c.loop-at.invariant.outside (λ below. absurd (omega arith)))
