use Rattle.std.proofs.Common.{refl, sym}
use Rattle.std.proofs.lemmas.Result.{IfOk-weaker}
use Rattle.pipe_model.specs.declared.kind.Kind.TheVariants.{TakeLast, DropLast}
use Rattle.pipe_model.specs.SelectionRows.{take_last, drop_last}
use Rattle.select_stages.proofs.select.SelectStage.new.Goals as goal

pub returns-in-TakeLast : goal.returns-in-TakeLast
returns-in-TakeLast c =
    let times = c.in-TakeLast.times in
    IfOk-weaker c.of_window.result _ _ (λ stage of. of (TakeLast times) (take_last times, refl, refl, c.new-window.ensures) c.args.strand.now c.in-TakeLast.is (sym c.as_slice-outputs.ensures)) c.of_window.ensures

pub returns-in-DropLast : goal.returns-in-DropLast
returns-in-DropLast c =
    let times = c.in-DropLast.times in
    IfOk-weaker c.of_window-in-DropLast.result _ _ (λ stage of. of (DropLast times) (drop_last times, refl, refl, c.new-window-in-DropLast.ensures) c.args.strand.now c.in-DropLast.is (sym c.as_slice-outputs.ensures)) c.of_window-in-DropLast.ensures

pub returns-in_ok-picks-in_default : goal.returns-in_ok-picks-in_default
returns-in_ok-picks-in_default c =
    IfOk-weaker c.of_picks.result _ _ (λ stage of. of c.args.strand.now.kind c.in_ok-picks-in_default.ensures c.args.strand.now refl (sym c.as_slice-outputs.ensures)) c.of_picks.ensures
