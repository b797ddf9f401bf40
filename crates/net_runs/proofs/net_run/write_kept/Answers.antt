use Rattle.std.proofs.Common.{◌≡◌, ◌++◌, length, sym, ◌∙◌, ap, subst, arith, Some, slice_get}
use Rattle.std.proofs.lemmas.Result.{err_from_is_err_and}
use Rattle.pipe_model.specs.declared.net.Net.{Net}
use Rattle.pipe_model.specs.declared.net.Strand.{Strand}
use Rattle.pipe_model.specs.Reply.{console_from}
use Rattle.pipe_model.specs.State.{past}
use Rattle.pipe_model.specs.Table.{form}
use Rattle.stage_steps.specs.Coroutine.{kept_by}
use Rattle.core_machine.specs.Machine.{state_of}
use Rattle.outside.specs.Device.{device}
use Rattle.call_streams.specs.Written.{IsPartWritten}
use Rattle.net_runs.proofs.Kept.{with_kept, without_kept, wrote_more, wrote_part}
use Rattle.net_runs.proofs.net_run.write_kept.Goals as goal
use Rattle.net_runs.proofs.net_run.write_kept.Goals.{then-is_shown+in_ok-write_all, else-is_shown}

pub overflow_cast-k : goal.overflow_cast-k
overflow_cast-k g c =
    let size = ap length (c.as_slice-strands.ensures ∙ ap (λ (n : Net). n.strands) c.net.ensures) in
    let below = c.loop-k-test.true in
    omega (arith, size, below, c.requires.few)

pub returns-in_err-write_all : goal.returns-in_err-write_all
returns-in_err-write_all g c =
    let p = err_from_is_err_and c.from_residual.result c.from_residual.ensures.1 in
    let strands = c.as_slice-strands.ensures ∙ ap (λ (n : Net). n.strands) c.net.ensures in
    let keeps : (p : Strand) → slice_get c.as_slice-strands.result.now c.loop-k.k ≡ Some p → c.kept.result.now ≡ kept_by (form p).keeping (past (state_of c.args.core.now) c.loop-k.k) = λ p at. c.kept.ensures p (subst (λ z. slice_get z c.loop-k.k ≡ Some p) strands at) in
    let more = with_kept (state_of c.args.core.now) c.loop-k.k c.as_slice-strands.result.now _ c.loop-k-test.true (sym c.is_shown.ensures ∙ c.if-is_shown.true) c.kept.result.now keeps in
    let part = wrote_part (state_of c.args.core.now) c.loop-k.k c.as_slice-strands.result.now c.kept.result.now more (device _ _) (device _ _) (device _ _) _ c.loop-k.invariant.wrote c.loop-k.invariant.steady c.in_err-write_all.ensures in
    rw (p.1, p.2) (subst (λ z. IsPartWritten (console_from (state_of c.args.core.now) 0 z) (device (g.O.Sink.written c.args.output.now) (g.O.Sink.faults c.args.output.now)) (device (g.O.Sink.written c.write_all.new.output) (g.O.Sink.faults c.write_all.new.output)) c.in_err-write_all.field-0.0) strands part)

pub loop-k-preserved : goal.loop-k-preserved
loop-k-preserved g c =
    let strands = c.as_slice-strands.ensures ∙ ap (λ (n : Net). n.strands) c.net.ensures in
    let within = c.loop-k-test.true in
    elim c.if-is_shown.branch [
      | then-is_shown+in_ok-write_all w ↦
          (let keeps : (p : Strand) → slice_get c.as_slice-strands.result.now c.loop-k.k ≡ Some p → w.kept.result.now ≡ kept_by (form p).keeping (past (state_of c.args.core.now) c.loop-k.k) = λ p at. w.kept.ensures p (subst (λ z. slice_get z c.loop-k.k ≡ Some p) strands at) in
          let more = with_kept (state_of c.args.core.now) c.loop-k.k c.as_slice-strands.result.now _ within (sym c.is_shown.ensures ∙ w.if-is_shown.true) w.kept.result.now keeps in
          rw w.output-is (record {
            within = omega (arith, within);
            wrote = wrote_more (state_of c.args.core.now) c.loop-k.k c.as_slice-strands.result.now w.kept.result.now more (g.O.Sink.written c.args.output.now) (g.O.Sink.written c.loop-k.output) (g.O.Sink.written w.write_all.new.output) c.loop-k.invariant.wrote w.in_ok-write_all.ensures.gained;
            steady = w.in_ok-write_all.ensures.steady ∙ c.loop-k.invariant.steady;
          }))
      | else-is_shown w ↦
          (let same = without_kept (state_of c.args.core.now) c.loop-k.k c.as_slice-strands.result.now _ within (sym c.is_shown.ensures ∙ w.if-is_shown.false) in
          rw w.output-is (record {
            within = omega (arith, within);
            wrote = (c.loop-k.invariant.wrote.0, c.loop-k.invariant.wrote.1, ap (λ z. c.loop-k.invariant.wrote.0 ++ z) (sym same) ∙ c.loop-k.invariant.wrote.2);
            steady = c.loop-k.invariant.steady;
          }))
    ]
