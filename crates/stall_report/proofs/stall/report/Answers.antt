use Rattle.std.proofs.Common.{◌≡◌, ◌≢◌, ◌↔◌, ◌+◌, ◌<◌, ◌≤◌, [], suc, List, length, sym, ◌∙◌, ap, subst, add-one}
use Rattle.pipe_model.specs.Play.{HasEnded, IsStalled}
use Rattle.pipe_model.specs.Reply.{reply}
use Rattle.core_machine.specs.Machine.{state_of}
use Rattle.stall_report.specs.Waits.{wait_lines}
use Rattle.stall_report.specs.declared.lines.WaitLine.{WaitLine}
use Rattle.stall_report.proofs.Stalls.{all_lines, all_told_now, ended_lines, none_told, one_told, stalled_lines}
use Rattle.stall_report.proofs.stall.report.Goals as goal
use Rattle.stall_report.proofs.stall.report.Goals.{in-Some+in_ok-push, in_default}

pub loop-strand-preserved : goal.loop-strand-preserved
loop-strand-preserved g c =
    let m = c.args.core.now in
    let s = c.loop-strand.strand in
    let within : s < length m.net.strands = subst (λ n. s < n) c.strand_count-strand-end.ensures.count c.loop-strand-test.true in
    let next : s + 1 ≡ suc s = add-one s in
    elim c.match-line_of.branch [
      | in-Some+in_ok-push w ↦ rw (w.lines-is, w.in_ok-push.ensures.items) (one_told m c.requires s (s + 1) within next c.loop-strand.lines.items w.in-Some.line w.in-Some.ensures c.loop-strand.invariant)
      | in_default w ↦ rw w.lines-is (none_told m c.requires s (s + 1) within next c.loop-strand.lines.items w.in_default.ensures c.loop-strand.invariant)
    ]

pub returns-clause-all : goal.returns-clause-all
returns-clause-all g c =
    let m = c.args.core.now in
    let told : c.from_vec.result ≡ wait_lines (reply m.net (state_of m)).waits =
    c.from_vec.ensures ∙ all_told_now m c.requires c.loop-strand.strand c.loop-strand.lines.items (subst (λ n. n ≤ c.loop-strand.strand) c.strand_count-strand-end.ensures.count c.loop-strand-test.false) c.loop-strand.invariant in
    ap length told ∙ all_lines m c.requires c.strand_count-strand-end.ensures.formed c.strand_count-strand-end.ensures.lawful

pub returns-clause-ended : goal.returns-clause-ended
returns-clause-ended g c =
    let m = c.args.core.now in
    let told : c.from_vec.result ≡ wait_lines (reply m.net (state_of m)).waits =
    c.from_vec.ensures ∙ all_told_now m c.requires c.loop-strand.strand c.loop-strand.lines.items (subst (λ n. n ≤ c.loop-strand.strand) c.strand_count-strand-end.ensures.count c.loop-strand-test.false) c.loop-strand.invariant in
    subst (λ (lines : List WaitLine). (lines ≡ []) ↔ HasEnded m.net (state_of m)) (sym told) (ended_lines m c.requires c.strand_count-strand-end.ensures.formed c.strand_count-strand-end.ensures.lawful)

pub returns-clause-stalled : goal.returns-clause-stalled
returns-clause-stalled g c =
    let m = c.args.core.now in
    let told : c.from_vec.result ≡ wait_lines (reply m.net (state_of m)).waits =
    c.from_vec.ensures ∙ all_told_now m c.requires c.loop-strand.strand c.loop-strand.lines.items (subst (λ n. n ≤ c.loop-strand.strand) c.strand_count-strand-end.ensures.count c.loop-strand-test.false) c.loop-strand.invariant in
    subst (λ (lines : List WaitLine). (lines ≢ []) ↔ IsStalled m.net m.journal) (sym told) (stalled_lines m c.requires c.strand_count-strand-end.ensures.formed c.strand_count-strand-end.ensures.lawful)
