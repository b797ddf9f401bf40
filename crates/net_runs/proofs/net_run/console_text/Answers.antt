use Rattle.std.proofs.Common.{◌≡◌, ◌+◌, ◌++◌, length, drop, sym, ◌∙◌, ap, subst, arith, Some, slice_get}
use Rattle.pipe_model.specs.declared.net.Net.{Net}
use Rattle.pipe_model.specs.declared.net.Strand.{Strand}
use Rattle.pipe_model.specs.Reply.{console_from}
use Rattle.pipe_model.specs.State.{past}
use Rattle.pipe_model.specs.Table.{form}
use Rattle.stage_steps.specs.Coroutine.{kept_by}
use Rattle.core_machine.specs.Machine.{state_of}
use Rattle.net_runs.proofs.Kept.{kept_more, with_kept, without_kept}
use Rattle.net_runs.proofs.net_run.console_text.Goals as goal
use Rattle.net_runs.proofs.net_run.console_text.Goals.{then-is_shown+in_ok-extend_from_slice, else-is_shown}

pub overflow_cast-k : goal.overflow_cast-k
overflow_cast-k g c =
    let size = ap length (c.as_slice-strands.ensures ∙ ap (λ (n : Net). n.strands) c.net.ensures) in
    let below = c.loop-k-test.true in
    omega (arith, size, below, c.requires.few)

pub loop-k-preserved : goal.loop-k-preserved
loop-k-preserved g c =
    let strands = c.as_slice-strands.ensures ∙ ap (λ (n : Net). n.strands) c.net.ensures in
    let within = c.loop-k-test.true in
    let st = state_of c.args.core.now in
    elim c.if-is_shown.branch [
      | then-is_shown+in_ok-extend_from_slice w ↦
          (let keeps : (p : Strand) → slice_get c.as_slice-strands.result.now c.loop-k.k ≡ Some p → w.kept.result.now ≡ kept_by (form p).keeping (past (state_of c.args.core.now) c.loop-k.k) = λ p at. w.kept.ensures p (subst (λ z. slice_get z c.loop-k.k ≡ Some p) strands at) in
          let more = with_kept st c.loop-k.k c.as_slice-strands.result.now _ within (sym c.is_shown.ensures ∙ w.if-is_shown.true) w.kept.result.now keeps in
          rw w.text-is (record {
            within = omega (arith, within);
            text =
                ap (λ z. z ++ console_from st (c.loop-k.k + 1) (drop (c.loop-k.k + 1) c.as_slice-strands.result.now)) w.in_ok-extend_from_slice.ensures.items
                ∙ kept_more st c.loop-k.k c.as_slice-strands.result.now w.kept.result.now more c.loop-k.text.items c.loop-k.invariant.text;
          }))
      | else-is_shown w ↦
          (let same = without_kept st c.loop-k.k c.as_slice-strands.result.now _ within (sym c.is_shown.ensures ∙ w.if-is_shown.false) in
          rw w.text-is (record {
            within = omega (arith, within);
            text = ap (λ z. c.loop-k.text.items ++ z) (sym same) ∙ c.loop-k.invariant.text;
          }))
    ]
