use Rattle.std.proofs.Common.{◌≡◌, ◌∙◌, sym, ap, ◌<◌, ◌-◌, false, length, get_or, take, arith}
use Rattle.std.proofs.lemmas.List.Sums.{suffix_len_is}
use Rattle.std.specs.List.{suffix_len}
use Rattle.pipe_model.specs.Members.{has}
use Rattle.edit_stages.proofs.strip.back_stripped.Goals as goal
use Rattle.edit_stages.proofs.strip.back_stripped.Goals.{then-loop-end-test+else-has, else-loop-end-test}

pub returns : goal.returns
returns c =
    let end = c.loop-end.end in
    let rec = c.args.rec.now in
    let set = c.args.set.now in
    let stop : 0 < end → has set (get_or rec (end - 1) 0) ≡ false = elim c.loop-end-test.branch [
      | then-loop-end-test+else-has w ↦ λ above. sym w.has.ensures ∙ w.if-has.false
      | else-loop-end-test w ↦ λ above. absurd (omega (arith, above, w.loop-end-test.false))
    ] in
    let size : suffix_len (has set) rec ≡ length rec - end = suffix_len_is (has set) rec end 0 c.loop-end.invariant.within c.loop-end.invariant.stripped stop in
    ap (λ n. take n rec) (omega (arith, size, c.loop-end.invariant.within))
