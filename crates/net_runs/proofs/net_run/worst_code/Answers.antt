use Rattle.std.proofs.Common.{◌≡◌, ◌-◌, suc, length, sym, ◌∙◌, ap, arith, w32, to_z, of_z}
use Rattle.std.proofs.lemmas.Int.{to_z-of_z}
use Rattle.pipe_model.specs.declared.net.Net.{Net}
use Rattle.pipe_model.specs.Code.{worst_of}
use Rattle.pipe_model.specs.Event.{has_ended, code_of}
use Rattle.pipe_model.specs.State.{past}
use Rattle.core_machine.specs.Machine.{state_of}
use Rattle.net_runs.proofs.Runs.{ended_none, reply_waits, down_none, down_code}
use Rattle.net_runs.proofs.net_run.worst_code.Goals as goal

pub overflow_cast-strand : goal.overflow_cast-strand
overflow_cast-strand g c =
    let size = ap length (c.as_slice.ensures ∙ ap (λ (n : Net). n.strands) c.net.ensures) in
    omega (arith, size, c.requires)

pub returns-in_err-end_of : goal.returns-in_err-end_of
returns-in_err-end_of g c =
    let core = c.args.core.now in
    let s = c.loop-strand.strand - 1 in
    let st = state_of core in
    let some = c.loop-strand-test.true in
    let within = c.loop-strand.invariant.within in
    rw c.from_residual.ensures (reply_waits core.net st s (omega (arith, some, within)) (ended_none (has_ended (past st s)) (code_of (past st s)) (sym c.end_of.ensures ∙ c.in_err-end_of.was)))

pub loop-strand-preserved : goal.loop-strand-preserved
loop-strand-preserved g c =
    let core = c.args.core.now in
    let s = c.loop-strand.strand - 1 in
    let st = state_of core in
    let some = c.loop-strand-test.true in
    let within = c.loop-strand.invariant.within in
    let after : c.loop-strand.strand ≡ suc s = omega (arith, some) in
    let ended = sym c.end_of.ensures ∙ c.in_ok-end_of.was in
    let whole : to_z w32 (of_z w32 c.worst-code.result) ≡ c.worst-code.result = grind (arith, to_z-of_z, c.worst-code.type_inv) in
    let fits = rw c.in_ok-end_of.was at c.end_of.type_inv in
    let told : to_z w32 (of_z w32 c.in_ok-end_of.field-0) ≡ c.in_ok-end_of.field-0 = grind (arith, to_z-of_z, fits) in
    record {
      within = omega (arith, within);
      none = down_none st s c.loop-strand.strand core.net.strands after within c.in_ok-end_of.field-0 ended c.loop-strand.invariant.none;
      code =
          whole
          ∙ c.worst-code.ensures
          ∙ ap (λ z. worst_of z (to_z w32 c.loop-strand.code-bits)) told
          ∙ down_code st s c.loop-strand.strand core.net.strands after within c.in_ok-end_of.field-0 ended (to_z w32 c.loop-strand.code-bits) c.loop-strand.invariant.code;
    }
