use Rattle.std.proofs.Common.{◌≡◌, ◌∙◌, sym, ap, ◌<◌, false, length, get_or, drop, arith}
use Rattle.std.proofs.lemmas.List.{take_all, length-drop}
use Rattle.std.proofs.lemmas.List.Sums.{prefix_len_is}
use Rattle.pipe_model.specs.Members.{has}
use Rattle.edit_stages.proofs.strip.front_stripped.Goals as goal
use Rattle.edit_stages.proofs.strip.front_stripped.Goals.{then-loop-at-test+else-has, else-loop-at-test}

pub returns : goal.returns
returns c =
    let at = c.loop-at.at in
    let rec = c.args.rec.now in
    let set = c.args.set.now in
    let stop : at < length rec → has set (get_or rec at 0) ≡ false = elim c.loop-at-test.branch [
      | then-loop-at-test+else-has w ↦ λ below. sym w.has.ensures ∙ w.if-has.false
      | else-loop-at-test w ↦ λ below. absurd (omega (arith, below, w.loop-at-test.false))
    ] in
    take_all _ (drop at rec) (omega (arith, length-drop at rec)) ∙ ap (λ n. drop n rec) (sym (prefix_len_is (has set) rec at 0 c.loop-at.invariant.within c.loop-at.invariant.stripped stop))
