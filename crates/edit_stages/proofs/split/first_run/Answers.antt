use Rattle.std.proofs.Common.{◌<◌, length, ◌∙◌, sym, arith}
use Rattle.std.proofs.lemmas.Bool.{eqb-true, eqb-false}
use Rattle.edit_stages.proofs.RunLists.{no_run, a_run}
use Rattle.edit_stages.proofs.split.first_run.Goals as goal

pub returns-then-is_empty : goal.returns-then-is_empty
returns-then-is_empty c =
    let rest = c.front_stripped-rest.result.now in
    no_run c.args.set.now c.args.text.now rest c.front_stripped-rest.ensures (eqb-true (length rest) 0 (sym c.is_empty.ensures ∙ c.if-is_empty.true))

pub returns : goal.returns
returns c =
    let rest = c.front_stripped-rest.result.now in
    let other = eqb-false (length rest) 0 (sym c.is_empty.ensures ∙ c.if-is_empty.false) in
    let some : 0 < length rest = omega (arith, other) in
    a_run c.args.set.now c.args.text.now rest c.front_stripped-rest.ensures _ c.run_len.result some (omega arith) c.run_len.ensures
