-- A flag is set, or none.
use Rattle.std.proofs.Common.{arith, ◌≡◌, true, false, length, sym, ◌∙◌, ap, below_more}
use Rattle.std.proofs.lemmas.Option.{unwrap_or-slice_get}
use Rattle.pipe_model.specs.Members.{flag_at}
use Rattle.braid_check.proofs.Meeting.{none_connected, some_connected}
use Rattle.braid_check.proofs.answer.is_unconnected.Goals as goal

pub returns-then-flag : goal.returns-then-flag
returns-then-flag c =
    let flags = c.args.strand.now.ports.has_input in
    let k = c.loop-flag.flag-index in
    let set : flag_at flags k ≡ true = unwrap_or-slice_get flags k false ∙ (rw (← c.as_slice-flag-items.ensures) c.if-flag.true) in
    sym (some_connected c.args.strand.now k set)

pub loop-flag-preserved : goal.loop-flag-preserved
loop-flag-preserved c =
    let flags = c.args.strand.now.ports.has_input in
    below_more _ _ c.loop-flag.invariant (unwrap_or-slice_get flags c.loop-flag.flag-index false ∙ (rw (← c.as_slice-flag-items.ensures) c.if-flag.false))

pub returns : goal.returns
returns c =
    let long = ap length c.as_slice-flag-items.ensures in
    sym (none_connected c.args.strand.now (λ k lt. c.loop-flag.invariant k (omega (arith, lt, long, c.loop-flag-test.false))))
